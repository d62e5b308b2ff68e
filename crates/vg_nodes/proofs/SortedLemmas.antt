-- For `each_index_is_in_one_list`:
-- What is counted of a frame is counted of the lists into which it was sorted.
use Rattle.std.proofs.Common.{◌≡◌, ℕ, ◌+◌, List, [], ◌∷◌, refl, sym, ap, ◌∙◌, arith, zero-add}
use Rattle.std.specs.Prelude.{Option, Some, None, option_map, option_and_then, unwrap_or}
use Rattle.std.specs.List.{sum_by, cons_option}
use Rattle.std.proofs.lemmas.List.Sums.{sum_by-cons}
use Rattle.vg_model.specs.declared.kinds.DropError.{DropError}
use Rattle.vg_model.specs.declared.kinds.Step.{Step}
use Rattle.vg_model.specs.declared.kinds.Step.TheVariants.{Next, Tx, Dropped, Hand}
use Rattle.vg_pool.specs.Contents.{Contents}
use Rattle.vg_nodes.specs.declared.sorted.Sorted.{Sorted}
use Rattle.vg_nodes.specs.Dispatch.{NodeVisit, step_at, next_entry, tx_entry, drop_entry, hand_entry, entries}
use Rattle.vg_nodes.specs.Laws.{counted_at, counted_in, EachIndexIsInOneList}

-- the lists of these indexes
abbrev lists : NodeVisit → List (Option Contents) → List ℕ → Sorted
lists visit memory frame = record {
  next = entries next_entry visit memory frame;
  tx = entries tx_entry visit memory frame;
  drops = entries drop_entry visit memory frame;
  hands = entries hand_entry visit memory frame;
}

-- one more entry in front, or none
cons_more : {X : Type 0} (g : X → ℕ) (entry : Option X) (xs : List X) → sum_by g (cons_option entry xs) ≡ unwrap_or (option_map g entry) 0 + sum_by g xs
cons_more g None xs = sym (zero-add (sum_by g xs))
cons_more g (Some x) xs = sum_by-cons g x xs

-- what is counted of an entry
abbrev counted_of : {V : Type 0} → (ℕ × V → ℕ) → Option (ℕ × V) → ℕ
counted_of g entry = unwrap_or (option_map g entry) 0

-- what is counted of an index and its step is counted of the one entry that the step names
in_one : (f : ℕ → Step → ℕ) (index : ℕ) (step : Option Step) → unwrap_or (option_map (f index) step) 0
    ≡ counted_of (λ (x : ℕ × ℕ). f x.0 (Next x.1)) (option_and_then (next_entry index) step)
    + counted_of (λ (x : ℕ × ℕ). f x.0 (Tx x.1)) (option_and_then (tx_entry index) step)
    + counted_of (λ (x : ℕ × DropError). f x.0 (Dropped x.1)) (option_and_then (drop_entry index) step)
    + counted_of (λ (x : ℕ × ℕ). f x.0 (Hand x.1)) (option_and_then (hand_entry index) step)
in_one f index None = omega arith
in_one f index (Some (Next slot)) = omega arith
in_one f index (Some (Tx interface)) = omega arith
in_one f index (Some (Dropped error)) = omega arith
in_one f index (Some (Hand hash)) = omega arith

-- one more index in front
one_more : (visit : NodeVisit) (memory : List (Option Contents)) (index : ℕ) (rest : List ℕ) (f : ℕ → Step → ℕ)
    → sum_by (counted_at f visit memory) rest ≡ counted_in f (lists visit memory rest)
    → sum_by (counted_at f visit memory) (index ∷ rest) ≡ counted_in f (lists visit memory (index ∷ rest))
one_more visit memory index rest f same =
    let step : Option Step = step_at visit memory index in
    let first : sum_by (counted_at f visit memory) (index ∷ rest) ≡ counted_at f visit memory index + sum_by (counted_at f visit memory) rest =
    sum_by-cons (counted_at f visit memory) index rest in
    let next = cons_more (λ (x : ℕ × ℕ). f x.0 (Next x.1)) (option_and_then (next_entry index) step) (entries next_entry visit memory rest) in
    let tx = cons_more (λ (x : ℕ × ℕ). f x.0 (Tx x.1)) (option_and_then (tx_entry index) step) (entries tx_entry visit memory rest) in
    let drops = cons_more (λ (x : ℕ × DropError). f x.0 (Dropped x.1)) (option_and_then (drop_entry index) step) (entries drop_entry visit memory rest) in
    let hands = cons_more (λ (x : ℕ × ℕ). f x.0 (Hand x.1)) (option_and_then (hand_entry index) step) (entries hand_entry visit memory rest) in
    omega (arith, first, in_one f index step, next, tx, drops, hands, same)

-- over all indexes
over_lists : (visit : NodeVisit) (memory : List (Option Contents)) (frame : List ℕ) (f : ℕ → Step → ℕ) → sum_by (counted_at f visit memory) frame ≡ counted_in f (lists visit memory frame)
over_lists visit memory [] f = refl
over_lists visit memory (index ∷ rest) f = one_more visit memory index rest f (over_lists visit memory rest f)

pub in_one_list : EachIndexIsInOneList
in_one_list visit memory frame out is f =
    over_lists visit memory frame f
    ∙ (ap (λ (l : List (ℕ × ℕ)). counted_in f (record (lists visit memory frame) { next = l })) (sym is.next)
    ∙ (ap (λ (l : List (ℕ × ℕ)). counted_in f (record (lists visit memory frame) { next = out.next; tx = l })) (sym is.tx)
    ∙ (ap (λ (l : List (ℕ × DropError)). counted_in f (record (lists visit memory frame) { next = out.next; tx = out.tx; drops = l })) (sym is.drops)
    ∙ ap (λ (l : List (ℕ × ℕ)). counted_in f (record out { hands = l })) (sym is.hands))))
