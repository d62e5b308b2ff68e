-- For the clauses of `Schedule::{put, take}`: lists of numbers by generation.
use Rattle.std.proofs.Common.{◌≡◌, ℕ, ◌+◌, ◌<◌, List, [], ◌∷◌, ◌++◌, length, get_or, map, sym, ap, ◌∙◌}
use Rattle.std.specs.Prelude.{slice_set, slice_index_or, replicate}
use Rattle.std.proofs.lemmas.List.{map-set, get_or-map, map_push, replicate_more}

-- one list more, which is empty
pub one_none : {X : Type 0} (f : X → List ℕ) (xs new : List X) (x : X) (n : ℕ) → map f xs ≡ replicate n [] → f x ≡ [] → new ≡ xs ++ x ∷ [] → map f new ≡ replicate (n + 1) []
one_none f xs new x n so_far none is =
    ap (map f) is ∙ map_push f xs x ∙ ap (λ ns. map f xs ++ ns ∷ []) none ∙ ap (λ nss. nss ++ [] ∷ []) so_far ∙ replicate_more n []

-- a list is written in the place of another
pub written : {X : Type 0} (f : X → List ℕ) (xs : List X) (seen : List (List ℕ)) (k : ℕ) (x : X) (ns : List ℕ) → seen ≡ map f xs → f x ≡ ns → map f (slice_set xs k x) ≡ slice_set seen k ns
written f xs seen k x ns is e = map-set f xs k x ∙ ap (slice_set (map f xs) k) e ∙ ap (λ ss. slice_set ss k ns) (sym is)

-- the list at a place, as it is read
pub list_read : {X : Type 0} (f : X → List ℕ) (xs : List X) (seen : List (List ℕ)) (k : ℕ) (x : X) → seen ≡ map f xs → k < length xs → x ≡ get_or xs k x → f x ≡ slice_index_or seen k []
list_read f xs seen k x is within at =
    ap f at ∙ sym (get_or-map f xs k x [] within) ∙ ap (λ ss. slice_index_or ss k []) (sym is)
