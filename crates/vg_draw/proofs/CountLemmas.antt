-- For `count_began`: one more element that is counted or not.
use Rattle.std.proofs.Common.{◌≡◌, ℕ, ◌+◌, List, take, sym, ap, ◌∙◌}
use Rattle.std.specs.Prelude.{Bool, true, false, Some, option_map, slice_get, count_by, if◌then◌else◌}
use Rattle.std.proofs.lemmas.List.Sums.{count_by_more_yes, count_by_more_no}
use Rattle.std.proofs.lemmas.Option.{get_or_from_slice_get, slice_get_within}
use Rattle.vg_model.proofs.Journeys.{map_some}

pub count_more : {X : Type 0} (p : X → Bool) (xs : List X) (i count more : ℕ) (b : Bool) → option_map p (slice_get xs i) ≡ Some b
    → count ≡ count_by p (take i xs) → more ≡ (if b then count + 1 else count) → more ≡ count_by p (take (i + 1) xs)
count_more {X = X} p xs i count more b is so_far next =
    let found = map_some p (slice_get xs i) b is in
    next ∙ by_cases found.0 b found.1 found.2
  where
    by_cases : (x : X) (b : Bool) → slice_get xs i ≡ Some x → p x ≡ b → (if b then count + 1 else count) ≡ count_by p (take (i + 1) xs)
    by_cases x true at e =
        ap (λ n. n + 1) so_far ∙ sym (count_by_more_yes p xs i x (slice_get_within xs i x at) (ap p (get_or_from_slice_get xs i x x at) ∙ e))
    by_cases x false at e = so_far ∙ sym (count_by_more_no p xs i x (slice_get_within xs i x at) (ap p (get_or_from_slice_get xs i x x at) ∙ e))
