-- For `Found::with` and the loops that call it: one more behind those that were found.
use Rattle.std.proofs.Common.{◌≡◌, ℕ, ◌+◌, ◌<◌, List, [], ◌∷◌, ◌++◌, length, length-append, take, get_or, refl, sym, ap, subst, ◌∙◌, append-nil}
use Rattle.std.specs.Prelude.{Option, Some, flat_map, option_to_list, slice_get}
use Rattle.std.specs.Option.{option_or}
use Rattle.vg_remarks.specs.declared.found.Found.{Found}
use Rattle.vg_remarks.specs.Found.{IsFound}
use Rattle.vg_remarks.proofs.StatementLemmas.{flat_map_next}

-- where there is none more, the same are found
pub found_same : {X : Type 0} (all : List X) (found : Found X) → IsFound all found → IsFound (all ++ []) found
found_same all found is = subst (λ l. IsFound l found) (sym (append-nil all)) is

-- the first stays the first
first_of : {X : Type 0} (all : List X) (x : X) → option_or (slice_get all 0) (Some x) ≡ slice_get (all ++ x ∷ []) 0
first_of [] x = refl
first_of (y ∷ all) x = refl

-- one more is found
pub found_more : {X : Type 0} (all : List X) (x : X) (old new : Found X) → IsFound all old → new.count ≡ old.count + 1 → new.first ≡ option_or old.first (Some x)
    → IsFound (all ++ x ∷ []) new
found_more all x old new is count first = record {
  count = count ∙ (ap (λ n. n + 1) is.count ∙ sym (length-append all (x ∷ [])));
  first = first ∙ (ap (λ o. option_or o (Some x)) is.first ∙ first_of all x);
}

-- what is found of one element more of a list
pub found_next : {X Y : Type 0} (f : X → Option Y) (xs : List X) (i : ℕ) (x : X) (one : Option Y) (new : Found Y) → i < length xs → x ≡ get_or xs i x → one ≡ f x
    → IsFound (flat_map (λ x. option_to_list (f x)) (take i xs) ++ option_to_list one) new → IsFound (flat_map (λ x. option_to_list (f x)) (take (i + 1) xs)) new
found_next {X} f xs i x one new below at is found =
    let all = flat_map (λ (x : X). option_to_list (f x)) (take i xs) in
    subst (λ l. IsFound l new)
    (ap (λ o. all ++ option_to_list o) (is ∙ ap f at) ∙ sym (flat_map_next (λ (x : X). option_to_list (f x)) xs i x below))
    found
