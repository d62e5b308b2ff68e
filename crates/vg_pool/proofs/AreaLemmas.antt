-- For the calls of `Area`: a part of the bytes of a buffer, after some of them are written.
use Rattle.std.proofs.Common.{◌≡◌, ℕ, ◌+◌, ◌-◌, ◌≤◌, List, ◌++◌, length, take, drop, replicate, refl, sym, ap, ◌∙◌, arith, append_assoc, length-drop, length-take-le}
use Rattle.std.proofs.lemmas.List.{drop-drop, drop-take, drop_at, take_at, take-take, drop-append-le}
use Rattle.std.proofs.Math.Seq.{take-append-add}
use Rattle.vg_land.specs.Ground.{laid_at}
use Rattle.vg_land.proofs.Laying.{length_reached}
use Rattle.vg_model.specs.Bytes.{overwritten}

-- so many bytes of two parts, where the first has no more
pub take_past : (xs ys : List ℕ) (n : ℕ) → length xs ≤ n → take n (xs ++ ys) ≡ xs ++ take (n - length xs) ys
take_past xs ys n few =
    let is : n ≡ length xs + (n - length xs) = omega (arith, few) in
    ap (λ k. take k (xs ++ ys)) is ∙ take-append-add xs ys (n - length xs)

-- what is behind the first bytes of so many
pub drop_of_take : (k n : ℕ) (xs : List ℕ) → k ≤ n → drop k (take n xs) ≡ take (n - k) (drop k xs)
drop_of_take k n xs few =
    let is : n ≡ k + (n - k) = omega (arith, few) in
    ap (λ j. drop k (take j xs)) is ∙ drop-take k (n - k) xs

-- from a place on at which bytes were written: these bytes, and what was behind them
pub from_written : (xs ys : List ℕ) (s n : ℕ) → s ≤ length xs → length ys ≤ n
    → take n (drop s (take s xs ++ (ys ++ drop (length ys) (drop s xs)))) ≡ ys ++ take (n - length ys) (drop (s + length ys) xs)
from_written xs ys s n within few =
    ap (take n) (drop_at (take s xs) (ys ++ drop (length ys) (drop s xs)) s (length-take-le s xs within))
    ∙ take_past ys (drop (length ys) (drop s xs)) n few
    ∙ ap (λ z. ys ++ take (n - length ys) z) (drop-drop (length ys) s xs)

-- the bytes that were laid at a place
pub filled : (xs ys : List ℕ) (s : ℕ) → take (s + length ys - s) (drop s (laid_at xs s ys)) ≡ ys
filled xs ys s =
    let long : List ℕ = xs ++ replicate (s - length xs) 0 in
    let size : length long ≡ length xs + (s - length xs) = length_reached xs s in
    let rest : List ℕ = drop (s + length ys) xs in
    ap (take (s + length ys - s)) (drop_at (take s long) (ys ++ rest) s (length-take-le s long (omega (arith, size))))
    ∙ ap (λ k. take k (ys ++ rest)) (let same : s + length ys - s ≡ length ys = omega arith in same)
    ∙ take_at ys rest (length ys) refl

-- so many bytes, with some of them written
pub written_in : (m ys : List ℕ) (at n : ℕ) → at + length ys ≤ n → n ≤ length m
    → take n (take at m ++ (ys ++ drop (length ys) (drop at m))) ≡ overwritten (take n m) at ys
written_in m ys at n fits within =
    let size : length (take at m) ≡ at = length-take-le at m (omega (arith, fits, within)) in
    let rest : List ℕ = drop (length ys) (drop at m) in
    let first : take n (take at m ++ (ys ++ rest)) ≡ take at m ++ take (n - at) (ys ++ rest) =
    take_past (take at m) (ys ++ rest) n (omega (arith, size, fits)) ∙ ap (λ k. take at m ++ take (n - k) (ys ++ rest)) size in
    let second : take (n - at) (ys ++ rest) ≡ ys ++ take (n - at - length ys) rest = take_past ys rest (n - at) (omega (arith, fits)) in
    let third : take (n - at - length ys) rest ≡ drop (at + length ys) (take n m) =
    ap (take (n - at - length ys)) (drop-drop (length ys) at m)
    ∙ ap (λ k. take k (drop (at + length ys) m)) (let e : n - at - length ys ≡ n - (at + length ys) = omega arith in e)
    ∙ sym (drop_of_take (at + length ys) n m fits) in
    first ∙ ap (λ z. take at m ++ z) (second ∙ ap (λ z. ys ++ z) third)
    ∙ sym (append_assoc (take at m) ys (drop (at + length ys) (take n m)))
    ∙ ap (λ z. (z ++ ys) ++ drop (at + length ys) (take n m)) (sym (take-take at n m (omega (arith, fits))))

-- the bytes from a place to another, with some of them written
pub written_between : (xs ys : List ℕ) (s e at : ℕ) → s + at + length ys ≤ e → e ≤ length xs
    → take (e - s) (drop s (take (s + at) xs ++ (ys ++ drop (length ys) (drop (s + at) xs)))) ≡ overwritten (take (e - s) (drop s xs)) at ys
written_between xs ys s e at fits within =
    let front : drop s (take (s + at) xs) ≡ take at (drop s xs) = drop-take s at xs in
    let long : s ≤ length (take (s + at) xs) = let size : length (take (s + at) xs) ≡ s + at = length-take-le (s + at) xs (omega (arith, fits, within)) in omega (arith, size) in
    let back : drop (length ys) (drop (s + at) xs) ≡ drop (length ys) (drop at (drop s xs)) = ap (drop (length ys)) (sym (drop-drop at s xs)) in
    let size : length (drop s xs) ≡ length xs - s = length-drop s xs in
    ap (take (e - s)) (drop-append-le s (take (s + at) xs) (ys ++ drop (length ys) (drop (s + at) xs)) long
    ∙ ap (λ z. z ++ (ys ++ drop (length ys) (drop (s + at) xs))) front
    ∙ ap (λ z. take at (drop s xs) ++ (ys ++ z)) back)
    ∙ written_in (drop s xs) ys at (e - s) (omega (arith, fits)) (omega (arith, size, within))

-- bytes behind so many of their own
drop_more : (xs ys : List ℕ) (k n : ℕ) → length xs ≡ k → drop (k + n) (xs ++ ys) ≡ drop n ys
drop_more xs ys k n size = sym (drop-drop n k (xs ++ ys)) ∙ ap (drop n) (drop_at xs ys k size)

-- the first twelve bytes are written four places on, and the first four are left out
pub cut_front : (held front : List ℕ) → 16 ≤ length held → front ≡ take 12 held → drop 4 (overwritten held 4 front) ≡ take 12 held ++ drop 16 held
cut_front held front long is =
    let twelve : length front ≡ 12 = ap length is ∙ length-take-le 12 held (omega (arith, long)) in
    let place : 4 + length front ≡ 16 = omega (arith, twelve) in
    ap (drop 4) (append_assoc (take 4 held) front (drop (4 + length front) held))
    ∙ drop_at (take 4 held) (front ++ drop (4 + length front) held) 4 (length-take-le 4 held (omega (arith, long)))
    ∙ ap (λ k. front ++ drop k held) place
    ∙ ap (λ z. z ++ drop 16 held) is

-- the first twelve bytes are written at the front of four more, and four others behind them
pub put_front : (held wide front four : List ℕ) → 12 ≤ length held → drop 4 wide ≡ held → front ≡ take 12 held → length four ≡ 4
    → overwritten (overwritten wide 0 front) 12 four ≡ (take 12 held ++ four) ++ drop 12 held
put_front held wide front four long behind is size =
    let twelve : length front ≡ 12 = ap length is ∙ length-take-le 12 held long in
    let first : overwritten wide 0 front ≡ front ++ drop 12 wide = ap (λ k. front ++ drop k wide) (let none : 0 + length front ≡ 12 = omega (arith, twelve) in none) in
    let place : 12 + length four ≡ 12 + 4 = omega (arith, size) in
    ap (λ z. overwritten z 12 four) first
    ∙ ap (λ z. (z ++ four) ++ drop (12 + length four) (front ++ drop 12 wide)) (take_at front (drop 12 wide) 12 twelve)
    ∙ ap (λ k. (front ++ four) ++ drop k (front ++ drop 12 wide)) place
    ∙ ap (λ z. (front ++ four) ++ z) (drop_more front (drop 12 wide) 12 4 twelve ∙ drop-drop 4 12 wide ∙ sym (drop-drop 12 4 wide) ∙ ap (drop 12) behind)
    ∙ ap (λ z. (z ++ four) ++ drop 12 held) is
