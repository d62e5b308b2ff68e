-- For the loops of `ways`: an element of which a test holds, or one more of which it doesn't.
use Rattle.std.proofs.Common.{◌≡◌, ℕ, ◌+◌, List, take, get_or, ap, ◌∙◌}
use Rattle.std.specs.Prelude.{Bool, true, false, ◌||◌, Option, Some, option_map, slice_get}
use Rattle.std.specs.List.{list_any}
use Rattle.std.proofs.lemmas.List.Folds.{list_any_at, list_any_more}
use Rattle.std.proofs.lemmas.Option.{get_or_from_slice_get, slice_get_within}
use Rattle.vg_model.proofs.Journeys.{map_some}

-- what holds of a part of what is there
pub then_map : {A B C : Type 0} (f : A → B) (g : B → C) (o : Option A) (y : B) → option_map f o ≡ Some y → option_map (λ x. g (f x)) o ≡ Some (g y)
then_map f g o y e = let found = map_some f o y e in ap (option_map (λ x. g (f x))) found.1 ∙ ap (λ z. Some (g z)) found.2

-- the test holds of this element
pub one_found : {X : Type 0} (p : X → Bool) (xs : List X) (i : ℕ) (b : Bool) → option_map p (slice_get xs i) ≡ Some b → b ≡ true → list_any p xs ≡ true
one_found p xs i b is holds =
    let found = map_some p (slice_get xs i) b is in
    list_any_at p xs i found.0 (slice_get_within xs i found.0 found.1) (ap p (get_or_from_slice_get xs i found.0 found.0 found.1) ∙ found.2 ∙ holds)

-- the test holds of none so far, nor of one more
pub none_more : {X : Type 0} (p : X → Bool) (xs : List X) (i : ℕ) (b : Bool) → option_map p (slice_get xs i) ≡ Some b → b ≡ false
    → list_any p (take i xs) ≡ false → list_any p (take (i + 1) xs) ≡ false
none_more p xs i b is fails so_far =
    let found = map_some p (slice_get xs i) b is in
    list_any_more p xs i found.0 (slice_get_within xs i found.0 found.1) ∙ ap (λ a. a || p (get_or xs i found.0)) so_far
    ∙ (ap p (get_or_from_slice_get xs i found.0 found.0 found.1) ∙ found.2 ∙ fails)
