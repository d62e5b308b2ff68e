-- For `Parts::put_over` and the calls of `Buffer`: packets over the buffers of a chain.
use Rattle.std.proofs.Common.{◌≡◌, ℕ, zero, suc, ◌+◌, ◌-◌, ◌*◌, ◌<◌, ◌≤◌, inl, inr, List, [], ◌∷◌, ◌++◌, length, get_or, take, drop, refl, sym, ap, ◌∙◌, arith, append_assoc, length-append, length-drop}
use Rattle.std.proofs.lemmas.Bool.{cases_lt}
use Rattle.std.proofs.lemmas.List.{append-nil, take-append-drop, drop-drop, drop_all, take_all, take-append-le, drop-append-le, take_at, drop_at, take_rest, take_min, drop_min}
use Rattle.std.specs.Prelude.{min}
use Rattle.vg_model.specs.Bytes.{overwritten}
use Rattle.vg_pool.specs.Parts.{joined, spread}

-- a list of no length is empty
pub no_bytes : (xs : List ℕ) → length xs ≡ 0 → xs ≡ []
no_bytes [] e = refl
no_bytes (x ∷ xs) e = absurd (omega (arith, e))

pub length-spread : (n : ℕ) (xs : List ℕ) → length (spread n xs) ≡ n
length-spread zero xs = refl
length-spread (suc n) xs = ap suc (length-spread n (drop 2048 xs))

-- bytes over enough buffers, joined again
pub joined-spread : (n : ℕ) (xs : List ℕ) → length xs ≤ 2048 * n → joined (spread n xs) ≡ xs
joined-spread zero xs few = sym (no_bytes xs (omega (arith, few)))
joined-spread (suc n) xs few =
    let size : length (drop 2048 xs) ≡ length xs - 2048 = length-drop 2048 xs in
    ap (λ z. take 2048 xs ++ z) (joined-spread n (drop 2048 xs) (omega (arith, size, few))) ∙ take-append-drop 2048 xs

-- what buffer k has
pub get_or-spread : (n : ℕ) (xs : List ℕ) (k : ℕ) → k < n → get_or (spread n xs) k [] ≡ take 2048 (drop (2048 * k) xs)
get_or-spread zero xs k below = absurd (omega (arith, below))
get_or-spread (suc n) xs zero below = refl
get_or-spread (suc n) xs (suc k) below =
    get_or-spread n (drop 2048 xs) k (omega (arith, below))
    ∙ ap (take 2048) (drop-drop (2048 * k) 2048 xs)
    ∙ ap (λ j. take 2048 (drop j xs)) (let e : 2048 + 2048 * k ≡ 2048 * suc k = omega arith in e)

-- the first bytes in one buffer, and the others over the rest
pub spread_more : (n first : ℕ) (xs : List ℕ) → first ≡ min (length xs) 2048 → take first xs ∷ spread n (take (length xs - first) (drop first xs)) ≡ spread (suc n) xs
spread_more n first xs is =
    let least : first ≡ min 2048 (length xs) = omega (arith, is) in
    let front : take first xs ≡ take 2048 xs = ap (λ k. take k xs) least ∙ take_min 2048 xs in
    let back : take (length xs - first) (drop first xs) ≡ drop 2048 xs = take_rest xs first ∙ ap (λ k. drop k xs) least ∙ drop_min 2048 xs in
    ap (λ z. z ∷ spread n (take (length xs - first) (drop first xs))) front ∙ ap (λ z. take 2048 xs ∷ spread n z) back

-- the first part, and what is behind it: the first part is full, or nothing is behind it
module _ (a r : List ℕ) (full : ℕ) (fits : length a ≤ full) (packed : length a < full → length r ≡ 0) where
  -- the bytes that a full first part would have are the first part
  pub take_first : take full (a ++ r) ≡ a
  take_first =
      elim (cases_lt (length a) full) [
        | inl less ↦ ap (λ z. take full (a ++ z)) (no_bytes r (packed less)) ∙ ap (take full) (append-nil a) ∙ take_all full a fits
        | inr all ↦ take_at a r full (let e : length a ≡ full = omega (arith, fits, all) in e)
      ]

  -- and what is behind them is behind it
  pub drop_first : (k : ℕ) → drop (full + k) (a ++ r) ≡ drop k r
  drop_first k =
      elim (cases_lt (length a) full) [
        | inl less ↦
            let none : r ≡ [] = no_bytes r (packed less) in
            drop_all (full + k) (a ++ r) (let size = length-append a r in let n = packed less in omega (arith, size, n, less)) ∙ sym (drop_all k r (let n = packed less in omega (arith, n)))
        | inr all ↦ sym (drop-drop k full (a ++ r)) ∙ ap (drop k) (drop_at a r full (let e : length a ≡ full = omega (arith, fits, all) in e))
      ]

-- bytes written in the first part
pub overwritten-append : (a r w : List ℕ) (at : ℕ) → at + length w ≤ length a → overwritten (a ++ r) at w ≡ overwritten a at w ++ r
overwritten-append a r w at fits =
    ap (λ z. (z ++ w) ++ drop (at + length w) (a ++ r)) (take-append-le at a r (omega (arith, fits)))
    ∙ ap (λ z. (take at a ++ w) ++ z) (drop-append-le (at + length w) a r fits)
    ∙ sym (append_assoc (take at a ++ w) (drop (at + length w) a) r)

-- four bytes removed from the first part
pub cut-append : (a r : List ℕ) → 16 ≤ length a → take 12 (a ++ r) ++ drop 16 (a ++ r) ≡ (take 12 a ++ drop 16 a) ++ r
cut-append a r long =
    ap (λ z. z ++ drop 16 (a ++ r)) (take-append-le 12 a r (omega (arith, long)))
    ∙ ap (λ z. take 12 a ++ z) (drop-append-le 16 a r long)
    ∙ sym (append_assoc (take 12 a) (drop 16 a) r)

-- bytes put into the first part
pub put-append : (a r four : List ℕ) → 12 ≤ length a → (take 12 (a ++ r) ++ four) ++ drop 12 (a ++ r) ≡ ((take 12 a ++ four) ++ drop 12 a) ++ r
put-append a r four long =
    ap (λ z. (z ++ four) ++ drop 12 (a ++ r)) (take-append-le 12 a r long)
    ∙ ap (λ z. (take 12 a ++ four) ++ z) (drop-append-le 12 a r long)
    ∙ sym (append_assoc (take 12 a ++ four) (drop 12 a) r)
