-- For `Plot::lay`: bytes laid into a list, within it and beyond its end.
use Rattle.std.proofs.Common.{◌≡◌, ℕ, ◌+◌, ◌-◌, ◌≤◌, List, [], ◌++◌, length, take, drop, replicate, sym, ap, ◌∙◌, arith, append-nil, append_assoc, length-append, length-take-le, take-append-drop}
use Rattle.std.proofs.lemmas.List.{drop_all, length-replicate}
use Rattle.vg_land.specs.Ground.{laid_at}

-- how long a list is to which zeros were appended
pub length_reached : (xs : List ℕ) (at : ℕ) → length (xs ++ replicate (at - length xs) 0) ≡ length xs + (at - length xs)
length_reached xs at = length-append xs (replicate (at - length xs) 0) ∙ ap (λ n. length xs + n) (length-replicate (at - length xs) 0)

-- within the list they stand in place of others
pub laid_within : (xs ys : List ℕ) (at : ℕ) → at + length ys ≤ length xs → take at xs ++ (ys ++ drop (at + length ys) xs) ≡ laid_at xs at ys
laid_within xs ys at within =
    let none : 0 ≡ at - length xs = omega (arith, within) in
    ap (λ (front : List ℕ). take at front ++ (ys ++ drop (at + length ys) xs)) (sym (append-nil xs) ∙ ap (λ n. xs ++ replicate n 0) none)

-- beyond its end: zeros are appended up to the place, the first of the bytes stand in place of all others behind it, and the rest are appended
pub laid_beyond : (xs ys : List ℕ) (at k : ℕ) → length xs ≤ at + length ys → length xs + (at - length xs) ≡ at + k → k ≤ length ys
    → (take at (xs ++ replicate (at - length xs) 0) ++ (take k ys ++ drop (at + length (take k ys)) (xs ++ replicate (at - length xs) 0))) ++ drop k ys ≡ laid_at xs at ys
laid_beyond xs ys at k beyond size few =
    let long : List ℕ = xs ++ replicate (at - length xs) 0 in
    let first : length (take k ys) ≡ k = length-take-le k ys few in
    let whole : length long ≡ length xs + (at - length xs) = length_reached xs at in
    let none : drop (at + length (take k ys)) long ≡ [] = drop_all (at + length (take k ys)) long (omega (arith, first, whole, size)) in
    let none_before : drop (at + length ys) xs ≡ [] = drop_all (at + length ys) xs beyond in
    ap (λ (z : List ℕ). (take at long ++ (take k ys ++ z)) ++ drop k ys) none
    ∙ ap (λ (z : List ℕ). (take at long ++ z) ++ drop k ys) (append-nil (take k ys))
    ∙ append_assoc (take at long) (take k ys) (drop k ys)
    ∙ ap (λ (z : List ℕ). take at long ++ z) (take-append-drop k ys ∙ sym (append-nil ys) ∙ ap (λ (z : List ℕ). ys ++ z) (sym none_before))
