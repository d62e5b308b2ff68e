-- Laws of sorted frames.
use Rattle.std.specs.Prelude.{◌≡◌, ℕ, ◌+◌, List, Option, option_map, unwrap_or}
use Rattle.std.specs.List.{sum_by}
use Rattle.vg_model.specs.declared.kinds.Step.{Step}
use Rattle.vg_model.specs.declared.kinds.Step.TheVariants.{Next, Tx, Dropped, Hand}
use Rattle.vg_pool.specs.Contents.{Contents}
use Rattle.vg_nodes.specs.declared.sorted.Sorted.{Sorted}
use Rattle.vg_nodes.specs.Dispatch.{NodeVisit, step_at, IsSortedBy}

-- what is counted of an index and the step of its packet
abbrev pub counted_at : (ℕ → Step → ℕ) → NodeVisit → List (Option Contents) → ℕ → ℕ
counted_at f visit memory index = unwrap_or (option_map (f index) (step_at visit memory index)) 0

-- what is counted of all indexes in the lists
abbrev pub counted_in : (ℕ → Step → ℕ) → Sorted → ℕ
counted_in f out =
    sum_by (λ entry. f entry.0 (Next entry.1)) out.next
    + sum_by (λ entry. f entry.0 (Tx entry.1)) out.tx
    + sum_by (λ entry. f entry.0 (Dropped entry.1)) out.drops
    + sum_by (λ entry. f entry.0 (Hand entry.1)) out.hands

-- whatever is counted of indexes and their steps, it is the same over a frame and over the lists into which it was sorted
abbrev pub EachIndexIsInOneList : Type 0
EachIndexIsInOneList = (visit : NodeVisit) (memory : List (Option Contents)) (frame : List ℕ) (out : Sorted) → IsSortedBy visit memory frame out
    → (f : ℕ → Step → ℕ) → sum_by (counted_at f visit memory) frame ≡ counted_in f out
