-- For the clause of `compared`: one more byte behind those that are masked.
use Rattle.std.proofs.Common.{◌≡◌, ℕ, suc, ◌+◌, ◌<◌, List, [], ◌∷◌, ◌++◌, length, get_or, take, ap, ◌∙◌, arith, zero-add}
use Rattle.std.proofs.lemmas.List.{length-take-le, take_more}
use Rattle.vg_match.specs.declared.fields.Field.{Field}
use Rattle.vg_match.specs.declared.frames.Layout.{Layout}
use Rattle.vg_match.specs.Keys.{kept, masked}

module _ (ignored : List Field) (layout : Layout) where
  masked-push : (place : ℕ) (xs : List ℕ) (x : ℕ) → masked ignored layout place (xs ++ x ∷ []) ≡ masked ignored layout place xs ++ kept ignored layout (place + length xs) x ∷ []
  masked-push place [] x = ap (λ n. kept ignored layout n x ∷ []) (omega arith)
  masked-push place (y ∷ ys) x =
      ap (λ rest. kept ignored layout place y ∷ rest) (masked-push (suc place) ys x)
      ∙ ap (λ n. (kept ignored layout place y ∷ masked ignored layout (suc place) ys) ++ kept ignored layout n x ∷ []) (omega arith)

  pub masked_more : (xs : List ℕ) (i d : ℕ) → i < length xs
      → masked ignored layout 0 (take (i + 1) xs) ≡ masked ignored layout 0 (take i xs) ++ kept ignored layout i (get_or xs i d) ∷ []
  masked_more xs i d below =
      ap (masked ignored layout 0) (take_more xs i d below)
      ∙ masked-push 0 (take i xs) (get_or xs i d)
      ∙ ap (λ n. masked ignored layout 0 (take i xs) ++ kept ignored layout n (get_or xs i d) ∷ []) (ap (λ n. 0 + n) (length-take-le i xs (omega arith)) ∙ zero-add i)
