-- For the clause of `common_front`: one byte more in common, and where there is none more; for those of `put_changed` and `put_there`: a line in
-- pieces.
use Rattle.std.proofs.Common.{◌≡◌, ◌≢◌, ℕ, suc, ◌+◌, ◌<◌, ◌≤◌, true, false, eqb, cond, List, [], ◌∷◌, ◌++◌, append_assoc, length, get_or, drop, refl, sym, ap, ◌∙◌, arith, add-one}
use Rattle.std.proofs.Math.Seq.{drop-cons}
use Rattle.std.proofs.lemmas.List.{drop_all}
use Rattle.std.proofs.lemmas.Bool.Decides.{nat_tests}
use Rattle.vg_diff.specs.Lines.{common_front}

-- two texts from a place on, by what stands there
from_place : (xs ys : List ℕ) (i d : ℕ) → i < length xs → i < length ys
    → common_front (drop i xs) (drop i ys) ≡ cond (eqb (get_or xs i d) (get_or ys i d)) (suc (common_front (drop (suc i) xs) (drop (suc i) ys))) 0
from_place xs ys i d below within =
    ap (λ front. common_front front (drop i ys)) (drop-cons xs i d below) ∙ ap (λ other. common_front (get_or xs i d ∷ drop (suc i) xs) other) (drop-cons ys i d within)

pub front_more : (xs ys : List ℕ) (i d : ℕ) → i < length xs → i < length ys → get_or xs i d ≡ get_or ys i d
    → common_front (drop i xs) (drop i ys) ≡ suc (common_front (drop (i + 1) xs) (drop (i + 1) ys))
front_more xs ys i d below within same =
    let equal : eqb (get_or xs i d) (get_or ys i d) ≡ true = grind (arith, nat_tests, same) in
    from_place xs ys i d below within ∙ ap (λ b. cond b (suc (common_front (drop (suc i) xs) (drop (suc i) ys))) 0) equal
    ∙ ap (λ j. suc (common_front (drop j xs) (drop j ys))) (sym (add-one i))

pub front_apart : (xs ys : List ℕ) (i d : ℕ) → i < length xs → i < length ys → get_or xs i d ≢ get_or ys i d → common_front (drop i xs) (drop i ys) ≡ 0
front_apart xs ys i d below within apart =
    let unequal : eqb (get_or xs i d) (get_or ys i d) ≡ false = grind (arith, nat_tests, apart) in
    from_place xs ys i d below within ∙ ap (λ b. cond b (suc (common_front (drop (suc i) xs) (drop (suc i) ys))) 0) unequal

pub front_none : (xs ys : List ℕ) (i : ℕ) → length xs ≤ i → common_front (drop i xs) (drop i ys) ≡ 0
front_none xs ys i over = ap (λ front. common_front front (drop i ys)) (drop_all i xs over)

nothing_common : (xs : List ℕ) → common_front xs [] ≡ 0
nothing_common [] = refl
nothing_common (x ∷ xs) = refl

pub front_over : (xs ys : List ℕ) (i : ℕ) → length ys ≤ i → common_front (drop i xs) (drop i ys) ≡ 0
front_over xs ys i over = ap (λ other. common_front (drop i xs) other) (drop_all i ys over) ∙ nothing_common (drop i xs)

-- a text in three pieces, and in four
pub three : (before a b c : List ℕ) → ((before ++ a) ++ b) ++ c ≡ before ++ (a ++ (b ++ c))
three before a b c = simp append_assoc

pub four : (before a b c d : List ℕ) → (((before ++ a) ++ b) ++ c) ++ d ≡ before ++ (a ++ (b ++ (c ++ d)))
four before a b c d = simp append_assoc
