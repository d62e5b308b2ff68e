-- For `nodes_stand_once` and `arcs_stand_once`: lines by number.
use Rattle.std.proofs.Common.{◌≡◌, ℕ, zero, suc, ◌+◌, List, [], ◌∷◌, length, refl, ap, ◌∙◌, arith}
use Rattle.std.specs.Prelude.{Some, slice_get}
use Rattle.std.proofs.lemmas.Option.{none-some, same_Some}
use Rattle.vg_draw.specs.Drawing.{numbered}

-- there is a line for each element
pub length-numbered : {X : Type 0} (f : ℕ → X → List ℕ) (n : ℕ) (xs : List X) → length (numbered f n xs) ≡ length xs
length-numbered f n [] = refl
length-numbered f n (x ∷ xs) = ap suc (length-numbered f (suc n) xs)

-- the line at a place is that of the element there
numbered_at : {X : Type 0} (f : ℕ → X → List ℕ) (n : ℕ) (xs : List X) (i : ℕ) (x : X) → slice_get xs i ≡ Some x → slice_get (numbered f n xs) i ≡ Some (f (n + i) x)
numbered_at f n [] i x at = absurd (none-some x at)
numbered_at f n (y ∷ ys) zero x at =
    ap (λ z. Some (f n z)) (same_Some y x at) ∙ ap (λ m. Some (f m x)) (let same : n ≡ n + 0 = omega arith in same)
numbered_at f n (y ∷ ys) (suc i) x at =
    numbered_at f (suc n) ys i x at ∙ ap (λ m. Some (f m x)) (let same : suc n + i ≡ n + suc i = omega arith in same)

pub numbered_from_zero : {X : Type 0} (f : ℕ → X → List ℕ) (xs : List X) (i : ℕ) (x : X) → slice_get xs i ≡ Some x → slice_get (numbered f 0 xs) i ≡ Some (f i x)
numbered_from_zero f xs i x at = numbered_at f 0 xs i x at ∙ ap (λ m. Some (f m x)) (let same : 0 + i ≡ i = omega arith in same)
