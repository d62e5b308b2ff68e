-- Packets that go on, in runs over one slot.
use Rattle.std.specs.Prelude.{◌≡◌, ℕ, ◌+◌, ◌≤◌, List, [], ◌∷◌, ◌++◌, map, take, drop}
use Rattle.std.specs.List.{AllByRecursion}
use Rattle.vg_frame.specs.Pending.{frame_size}
use Rattle.vg_nodes.specs.declared.next_list.NextRun.{NextRun}

-- the entries of indexes whose packets go on over one slot
abbrev pub over_slot : ℕ → List ℕ → List (ℕ × ℕ)
over_slot slot indexes = map (λ index. (index, slot)) indexes

-- the entries of indexes: each run has the first so many of those that are left, and what no run has goes on over the slot
abbrev pub run_entries : List NextRun → ℕ → List ℕ → List (ℕ × ℕ)
run_entries [] slot indexes = over_slot slot indexes
run_entries (run ∷ runs) slot indexes = over_slot run.slot (take run.len indexes) ++ run_entries runs slot (drop run.len indexes)

-- how many indexes runs have
abbrev pub run_total : List NextRun → ℕ
run_total [] = 0
run_total (run ∷ runs) = run.len + run_total runs

-- runs with some indexes each, behind which the last run begins at a place of all indexes, which are no more than a frame has
pub record AreRuns (runs : List NextRun) (start count : ℕ) : Type 0 where
  pub begins : start ≡ run_total runs
  pub within : start ≤ count
  pub some : AllByRecursion (λ run. 1 ≤ run.len) runs
  pub few : count ≤ frame_size
