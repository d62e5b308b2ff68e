-- For `NextList::{new, len, is_empty, push, push_each, clear}` and `NextRuns::next`: what runs make of the list of entries.
use Rattle.std.proofs.Common.{◌≡◌, ℕ, ◌+◌, ◌-◌, ◌≤◌, List, [], ◌∷◌, ◌++◌, length, take, drop, refl, sym, ap, ◌∙◌, arith, append_assoc, length-append, length-drop}
use Rattle.std.specs.List.{AllByRecursion}
use Rattle.std.proofs.lemmas.List.{append-nil, length-map, map-append, take-append-le, drop-append-le, take-append-drop, take_all, drop_all, drop-drop}
use Rattle.vg_nodes.specs.declared.next_list.NextRun.{NextRun}
use Rattle.vg_nodes.specs.Runs.{over_slot, run_entries, run_total}

-- each run has some
abbrev pub HaveSome : List NextRun → Type 0
HaveSome runs = AllByRecursion (λ (run : NextRun). 1 ≤ run.len) runs

pub length-over_slot : (slot : ℕ) (indexes : List ℕ) → length (over_slot slot indexes) ≡ length indexes
length-over_slot slot indexes = length-map indexes (λ (index : ℕ). (index, slot))

pub over_slot-append : (slot : ℕ) (xs ys : List ℕ) → over_slot slot (xs ++ ys) ≡ over_slot slot xs ++ over_slot slot ys
over_slot-append slot xs ys = map-append (λ (index : ℕ). (index, slot)) xs ys

-- there are as many entries as indexes
pub length-entries : (runs : List NextRun) (slot : ℕ) (indexes : List ℕ) → length (run_entries runs slot indexes) ≡ length indexes
length-entries [] slot indexes = length-over_slot slot indexes
length-entries (run ∷ runs) slot indexes =
    let first : List ℕ = take run.len indexes in
    let rest : List ℕ = drop run.len indexes in
    length-append (over_slot run.slot first) (run_entries runs slot rest)
    ∙ (ap (λ n. n + length (run_entries runs slot rest)) (length-over_slot run.slot first)
    ∙ (ap (λ n. length first + n) (length-entries runs slot rest)
    ∙ (sym (length-append first rest) ∙ ap length (take-append-drop run.len indexes))))

-- none of none
is_none : {X : Type 0} (xs : List X) → length xs ≡ 0 → xs ≡ []
is_none [] none = refl
is_none (x ∷ xs) none = absurd (omega (arith, none))

pub entries-none : (runs : List NextRun) (slot : ℕ) (indexes : List ℕ) → length indexes ≡ 0 → run_entries runs slot indexes ≡ []
entries-none runs slot indexes none = is_none (run_entries runs slot indexes) (length-entries runs slot indexes ∙ none)

-- there are no more runs than indexes
pub few_runs : (runs : List NextRun) → HaveSome runs → length runs ≤ run_total runs
few_runs [] some = omega arith
few_runs (run ∷ runs) some = let rest = few_runs runs some.1 in let one : 1 ≤ run.len = some.0 in omega (arith, rest, one)

-- more indexes, over a slot over which what no run has goes on
pub entries-push : (runs : List NextRun) (before slot : ℕ) (indexes more : List ℕ) → run_total runs ≤ length indexes
    → over_slot before (drop (run_total runs) indexes) ≡ over_slot slot (drop (run_total runs) indexes)
    → run_entries runs slot (indexes ++ more) ≡ run_entries runs before indexes ++ over_slot slot more
entries-push [] before slot indexes more within same = over_slot-append slot indexes more ∙ ap (λ xs. xs ++ over_slot slot more) (sym same)
entries-push (run ∷ runs) before slot indexes more within same =
    let rest : List ℕ = drop run.len indexes in
    let size : length rest ≡ length indexes - run.len = length-drop run.len indexes in
    let last : drop (run_total runs) rest ≡ drop (run_total (run ∷ runs)) indexes = drop-drop (run_total runs) run.len indexes in
    ap (λ xs. over_slot run.slot xs ++ run_entries runs slot (drop run.len (indexes ++ more))) (take-append-le run.len indexes more (omega (arith, within)))
    ∙ (ap (λ xs. over_slot run.slot (take run.len indexes) ++ run_entries runs slot xs) (drop-append-le run.len indexes more (omega (arith, within)))
    ∙ (ap (λ es. over_slot run.slot (take run.len indexes) ++ es)
    (entries-push runs before slot rest more (omega (arith, within, size)) (ap (over_slot before) last ∙ (same ∙ ap (over_slot slot) (sym last))))
    ∙ sym (append_assoc (over_slot run.slot (take run.len indexes)) (run_entries runs before rest) (over_slot slot more))))

-- what no run has becomes a run
pub entries-close : (runs : List NextRun) (run : NextRun) (slot : ℕ) (indexes : List ℕ) → run_total runs + run.len ≡ length indexes
    → run_entries (runs ++ run ∷ []) slot indexes ≡ run_entries runs run.slot indexes
entries-close [] run slot indexes all =
    ap (λ xs. over_slot run.slot xs ++ over_slot slot (drop run.len indexes)) (take_all run.len indexes (omega (arith, all)))
    ∙ (ap (λ xs. over_slot run.slot indexes ++ over_slot slot xs) (drop_all run.len indexes (omega (arith, all))) ∙ append-nil (over_slot run.slot indexes))
entries-close (first ∷ runs) run slot indexes all =
    let size : length (drop first.len indexes) ≡ length indexes - first.len = length-drop first.len indexes in
    ap (λ es. over_slot first.slot (take first.len indexes) ++ es) (entries-close runs run slot (drop first.len indexes) (omega (arith, all, size)))

pub total-close : (runs : List NextRun) (run : NextRun) → run_total (runs ++ run ∷ []) ≡ run_total runs + run.len
total-close [] run = omega arith
total-close (first ∷ runs) run = let rest = total-close runs run in omega (arith, rest)

pub some-close : (runs : List NextRun) (run : NextRun) → HaveSome runs → 1 ≤ run.len → HaveSome (runs ++ run ∷ [])
some-close [] run some one = (one, tt)
some-close (first ∷ runs) run some one = (some.0, some-close runs run some.1 one)
