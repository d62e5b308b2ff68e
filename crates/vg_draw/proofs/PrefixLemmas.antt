-- For `put_ip4` and `put_ip6`: the lines of prefixes in a row, of which so many stand.
use Rattle.std.proofs.Common.{◌≡◌, ℕ, zero, suc, ◌+◌, ◌-◌, ◌<◌, List, [], ◌∷◌, ◌++◌, length, take, get_or, sym, ap, subst, ◌∙◌, append-nil, append_assoc, arith, flat_map, length-append}
use Rattle.std.proofs.lemmas.Grind.{flat_map-append}
use Rattle.std.proofs.Math.Seq.{take-nil}
use Rattle.std.proofs.lemmas.List.{take_more}

-- the first lines stand behind what stood before, and so many more may
pub record IsShown (lines : List (List ℕ)) (room : ℕ) (before out : List ℕ) (left : ℕ) : Type 0 where
  pub text : out ≡ before ++ flat_map (λ line. line) (take room lines)
  pub fewer : left ≡ room - length lines

-- the first so many of two lists in a row
take-append : {X : Type 0} (n : ℕ) (xs ys : List X) → take n (xs ++ ys) ≡ take n xs ++ take (n - length xs) ys
take-append zero xs ys = let none : 0 - length xs ≡ 0 = omega arith in sym (ap (λ m. take m ys) none)
take-append (suc n) [] ys = let same : suc n ≡ suc n - 0 = omega arith in ap (λ m. take m ys) same
take-append (suc n) (x ∷ xs) ys =
    let same : n - length xs ≡ suc n - length (x ∷ xs) = omega arith in
    ap (λ zs. x ∷ zs) (take-append n xs ys ∙ ap (λ m. take n xs ++ take m ys) same)

-- one line, where one more may stand
pub shown_line : (left : ℕ) (line : List ℕ) → 0 < left → flat_map (λ l. l) (take left (line ∷ [])) ≡ line
shown_line zero line h = absurd (omega (arith, h))
shown_line (suc n) line h = ap (λ ls. line ++ flat_map (λ l. l) ls) (take-nil n) ∙ append-nil line

-- no line
pub shown_none : (left : ℕ) → flat_map (λ (l : List ℕ). l) (take left []) ≡ []
shown_none left = ap (flat_map (λ (l : List ℕ). l)) (take-nil left)

-- more lines
pub shown_more : (lines more : List (List ℕ)) (room : ℕ) (before out out' : List ℕ) (left left' : ℕ) → IsShown lines room before out left
    → out' ≡ out ++ flat_map (λ line. line) (take left more) → left' ≡ left - length more → IsShown (lines ++ more) room before out' left'
shown_more lines more room before out out' left left' is text next = record {
  text =
      text ∙ ap (λ r. r ++ flat_map (λ line. line) (take left more)) is.text
      ∙ append_assoc before (flat_map (λ line. line) (take room lines)) (flat_map (λ line. line) (take left more))
      ∙ ap (λ n. before ++ (flat_map (λ line. line) (take room lines) ++ flat_map (λ line. line) (take n more))) is.fewer
      ∙ ap (λ r. before ++ r) (sym (flat_map-append (λ line. line) (take room lines) (take (room - length lines) more)))
      ∙ ap (λ ls. before ++ flat_map (λ line. line) ls) (sym (take-append room lines more));
  fewer = omega (arith, next, is.fewer, length-append lines more);
}

-- the lines of one more element
pub shown_one_more : {X : Type 0} (f : X → List (List ℕ)) (xs : List X) (i : ℕ) (x : X) (room : ℕ) (before out out' : List ℕ) (left left' : ℕ) → i < length xs
    → x ≡ get_or xs i x → IsShown (flat_map f (take i xs)) room before out left → out' ≡ out ++ flat_map (λ line. line) (take left (f x))
    → left' ≡ left - length (f x) → IsShown (flat_map f (take (i + 1) xs)) room before out' left'
shown_one_more f xs i x room before out out' left left' h at is text next =
    subst (λ lines. IsShown lines room before out' left')
    (sym (ap (flat_map f) (take_more xs i x h) ∙ flat_map-append f (take i xs) (get_or xs i x ∷ [])
    ∙ ap (λ r. flat_map f (take i xs) ++ r) (append-nil (f (get_or xs i x))) ∙ ap (λ y. flat_map f (take i xs) ++ f y) (sym at)))
    (shown_more (flat_map f (take i xs)) (f x) room before out out' left left' is text next)
