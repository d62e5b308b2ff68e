-- For the clause of `Kind::slot`, and for `place_of` of vg_report and `Graph::node` of vg_graph: slots by their names.
use Rattle.std.proofs.Common.{◌≡◌, ℕ, ◌+◌, Bool, cond, List, [], ◌∷◌, map, refl, sym, ap, ◌∙◌}
use Rattle.std.specs.Prelude.{Option, Some, bytes_eq}
use Rattle.std.specs.List.{position_from}
use Rattle.vg_model.specs.Edit.{place_of}

-- the first place in a list of what a function gives, by a test of that
pub position_from-map : {K X : Type 0} (f : X → K) (test : K → Bool) (i : ℕ) (xs : List X)
    → position_from test i (map f xs) ≡ position_from (λ x. test (f x)) i xs
position_from-map f test i [] = refl
position_from-map f test i (x ∷ xs) = ap (λ later. cond (test (f x)) (Some i) later) (position_from-map f test (i + 1) xs)

-- the first of this name among things is in the place of the name in the list of their names
pub named_place : {X : Type 0} (name_of : X → List ℕ) (name : List ℕ) (xs : List X) (names : List (List ℕ)) (place : Option ℕ)
    → place ≡ position_from (λ x. bytes_eq (name_of x) name) 0 xs → map name_of xs ≡ names → place ≡ place_of (λ slot. slot) name names
named_place name_of name xs names place e m =
    e ∙ (sym (position_from-map name_of (λ slot. bytes_eq slot name) 0 xs) ∙ ap (place_of (λ slot. slot) name) m)
