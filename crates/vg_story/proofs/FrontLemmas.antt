-- For `Front::of`: the first bytes of a packet stand in its head.
use Rattle.std.proofs.Common.{◌≡◌, ◌⊎◌, ℕ, ◌≤◌, List, [], ◌∷◌, length, take, refl, ap, ◌∙◌, inl, inr, arith, min, suc, zero}
use Rattle.std.proofs.lemmas.List.{take_all, take_min, length-take}

-- the first of the first
take-take : (m n : ℕ) (xs : List ℕ) → m ≤ n → take m (take n xs) ≡ take m xs
take-take zero n xs h = refl
take-take (suc m) zero xs h = absurd (omega arith)
take-take (suc m) (suc n) [] h = refl
take-take (suc m) (suc n) (x ∷ xs) h = ap (λ r. x ∷ r) (take-take m n xs (omega arith))

-- of bytes of which a head has the first, and 1,984 at least where there are as many, the first 74 are those of the head
pub front_in_head : (n : ℕ) (bytes head : List ℕ) → head ≡ take n bytes → min (length bytes) 1984 ≤ length head → take 74 head ≡ take 74 bytes
front_in_head n bytes head is long =
    let len : length head ≡ min n (length bytes) = ap length is ∙ length-take n bytes in
    let cases : (74 ≤ n) ⊎ (length bytes ≤ n) = grind arith in
    elim cases [
      | inl most ↦ ap (take 74) is ∙ take-take 74 n bytes most
      | inr all ↦ ap (take 74) (is ∙ take_all n bytes all)
    ]

-- the front that is made of them
pub front_is : {items head : List ℕ} (bytes : List ℕ) (n : ℕ) → items ≡ take (min 74 (length head)) head → head ≡ take n bytes → min (length bytes) 1984 ≤ length head
    → items ≡ take 74 bytes
front_is {head = head} bytes n are is long = are ∙ take_min 74 head ∙ front_in_head n bytes head is long
