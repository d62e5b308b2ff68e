-- For the clauses of `pass_all`: generation after generation.
use Rattle.std.proofs.Common.{◌≡◌, ℕ, zero, suc, ◌+◌, ◌-◌, ◌<◌, ◌≤◌, List, [], ◌∷◌, length, drop, refl, sym, ap, ◌∙◌, arith, length-drop}
use Rattle.std.specs.Prelude.{Some, slice_get}
use Rattle.std.proofs.lemmas.List.{drop-drop}
use Rattle.vg_model.specs.Graph.{Graph}

-- the first of those from a place on
pub get_drop : {X : Type 0} (xs : List X) (k : ℕ) → slice_get (drop k xs) 0 ≡ slice_get xs k
get_drop [] zero = refl
get_drop [] (suc k) = refl
get_drop (x ∷ xs) zero = refl
get_drop (x ∷ xs) (suc k) = get_drop xs k

module _ (graphs later : List Graph) (generation : ℕ) (some : 1 ≤ generation) (left : later ≡ drop (generation - 1) graphs) where
  -- there is a next one
  pub two_left : generation < length graphs → 2 ≤ length later
  two_left less =
      let e = ap length left in
      let cut = length-drop (generation - 1) graphs in
      omega (arith, e, cut, less, some)

  module _ (next : List Graph) (is : next ≡ drop 1 later) where
    from_next : next ≡ drop generation graphs
    from_next = is ∙ ap (drop 1) left ∙ drop-drop 1 (generation - 1) graphs ∙ ap (λ n. drop n graphs) (let same : generation - 1 + 1 ≡ generation = omega (arith, some) in same)

    -- those from it on
    pub later_left : next ≡ drop (generation + 1 - 1) graphs
    later_left = from_next ∙ ap (λ n. drop n graphs) (let same : generation ≡ generation + 1 - 1 = omega arith in same)

    -- its graph
    pub next_graph : (g : Graph) → slice_get next 0 ≡ Some g → slice_get graphs generation ≡ Some g
    next_graph g at = sym (get_drop graphs generation) ∙ ap (λ gs. slice_get gs 0) (sym from_next) ∙ at

  -- the last one
  pub last_graph : (g : Graph) → generation ≡ length graphs → slice_get later 0 ≡ Some g → slice_get graphs (length graphs - 1) ≡ Some g
  last_graph g all at =
      ap (λ n. slice_get graphs (n - 1)) (sym all) ∙ sym (get_drop graphs (generation - 1)) ∙ ap (λ gs. slice_get gs 0) (sym left) ∙ at
