-- For loops over lists: the element that is read at a place.
use Rattle.std.proofs.Common.{◌≡◌, ℕ, ◌+◌, ◌<◌, List, [], ◌∷◌, ◌++◌, length, take, get_or, sym, ap, ◌∙◌}
use Rattle.std.proofs.lemmas.List.{take_more}

-- this is the element at a place of a list
pub record IsRead {X : Type 0} (xs : List X) (k : ℕ) (x : X) : Type 0 where
  pub within : k < length xs
  pub read : x ≡ get_or xs k x

-- one element more
pub take_read : {X : Type 0} {xs : List X} {k : ℕ} {x : X} → IsRead xs k x → take (k + 1) xs ≡ take k xs ++ x ∷ []
take_read {xs = xs} {k = k} {x = x} is = take_more xs k x is.within ∙ ap (λ y. take k xs ++ y ∷ []) (sym is.read)
