-- For `legs_end` and `start_is_valid`, and for `Graph::{leads, set_arc, add_node}` of vg_graph: walks, cycles, and the test for a cycle.
use Rattle.std.proofs.Common.{◌≡◌, ℕ, zero, suc, ◌+◌, ◌*◌, ◌<◌, ◌≤◌, ◌⊎◌, Bool, true, false, List, [], ◌∷◌, length, refl, sym, ap, subst, ◌∙◌, inl, inr, arith, zero-add, zero-mul, true≢false}
use Rattle.std.specs.Prelude.{Option, Some, None, slice_get, option_and_then, option_map, unwrap_or, nat_eq}
use Rattle.std.specs.List.{list_any, IsDistinct, AllByRecursion}
use Rattle.std.proofs.Math.Nat.{suc-add, suc-mul, mul-le-mul_left}
use Rattle.std.proofs.lemmas.Bool.{or_cases, or_left, or_right, eqb-true, eq-eqb, both_ways, false_from_ne_true}
use Rattle.std.proofs.lemmas.Option.{none-some, same_Some}
use Rattle.std.proofs.lemmas.Map.Steps.{length-le_from_distinct_below}
use Rattle.vg_model.specs.Graph.{Graph, Node, next_nodes}
use Rattle.vg_model.specs.Valid.{Walk, HasArc}
use Rattle.vg_model.specs.Edit.{leads}

module _ (Arc : ℕ → ℕ → Type 0) where
  -- an arc in front of a walk
  pub walk_cons : (a b c arcs : ℕ) → Arc a b → Walk Arc b c arcs → Walk Arc a c (suc arcs)
  walk_cons a b c zero h w = (a, refl, subst (λ n. Arc a n) w h)
  walk_cons a b c (suc arcs) h w = (w.0, walk_cons a b w.0 arcs h w.1, w.2)

  -- two walks in a row
  pub walk_join : (a b c m n : ℕ) → Walk Arc a b m → Walk Arc b c n → Walk Arc a c (n + m)
  walk_join a b c m zero v w = rw zero-add (subst (λ n. Walk Arc a n m) w v)
  walk_join a b c m (suc n) v w = rw suc-add (w.0, walk_join a b w.0 m n v w.1, w.2)

  -- a walk from a node to itself, so many times
  pub walk_again : (a arcs times : ℕ) → Walk Arc a a arcs → Walk Arc a a (times * arcs)
  walk_again a arcs zero w = rw zero-mul refl
  walk_again a arcs (suc times) w = rw suc-mul (walk_join a a a arcs (times * arcs) w (walk_again a arcs times w))

  -- where walks are short, none leads from a node to itself
  pub short_acyclic : (n : ℕ) → ((a b arcs : ℕ) → Walk Arc a b arcs → arcs < n) → (a arcs : ℕ) → Walk Arc a a (suc arcs) → ⊥
  short_acyclic n short a arcs w =
      let again : n * suc arcs < n = short a a (n * suc arcs) (walk_again a (suc arcs) n w) in
      let more : n * 1 ≤ n * suc arcs = mul-le-mul_left n (omega arith) in
      omega (arith, again, more)

  -- the nodes of a walk, the last first
  pub nodes_of : (a b arcs : ℕ) → Walk Arc a b arcs → List ℕ
  nodes_of a b zero w = b ∷ []
  nodes_of a b (suc arcs) w = b ∷ nodes_of a w.0 arcs w.1

  length-nodes_of : (a b arcs : ℕ) (w : Walk Arc a b arcs) → length (nodes_of a b arcs w) ≡ suc arcs
  unfolding nodes_of
  length-nodes_of a b zero w = refl
  length-nodes_of a b (suc arcs) w = ap suc (length-nodes_of a w.0 arcs w.1)

  -- the one member of a list of one
  only : (b q : ℕ) → list_any (nat_eq q) (b ∷ []) ≡ true → q ≡ b
  only b q e = by_case (or_cases _ _ e)
    where
      by_case : ((nat_eq q b ≡ true) ⊎ (false ≡ true)) → q ≡ b
      by_case (inl h) = eqb-true q b h
      by_case (inr h) = absurd (true≢false (sym h))

  -- a node among them is on the way to the last
  on_the_way : (a b arcs : ℕ) (w : Walk Arc a b arcs) (q : ℕ) → list_any (nat_eq q) (nodes_of a b arcs w) ≡ true → (k : ℕ) × Walk Arc q b k
  unfolding nodes_of
  on_the_way a b zero w q e = (0, only b q e)
  on_the_way a b (suc arcs) w q e = elim (or_cases _ _ e) [
    | inl h ↦ (0, eqb-true q b h)
    | inr h ↦ let there = on_the_way a w.0 arcs w.1 q h in (suc there.0, (w.0, there.1, w.2))
  ]

  none_equal : (q : ℕ) (xs : List ℕ) → (list_any (nat_eq q) xs ≡ true → ⊥) → AllByRecursion (λ y. nat_eq q y ≡ false) xs
  none_equal q [] h = tt
  none_equal q (x ∷ xs) h = (false_from_ne_true _ (λ e. h (or_left _ _ e)), none_equal q xs (λ e. h (or_right _ _ e)))

  -- where there is no cycle, a walk's nodes differ
  distinct_nodes : ((a arcs : ℕ) → Walk Arc a a (suc arcs) → ⊥) → (a b arcs : ℕ) (w : Walk Arc a b arcs) → IsDistinct nat_eq (nodes_of a b arcs w)
  unfolding nodes_of IsDistinct
  distinct_nodes acyclic a b zero w = (tt, tt)
  distinct_nodes acyclic a b (suc arcs) w = (
    none_equal b (nodes_of a w.0 arcs w.1) (λ e. let there = on_the_way a w.0 arcs w.1 b e in acyclic b there.0 (w.0, there.1, w.2)),
    distinct_nodes acyclic a w.0 arcs w.1,
  )

  -- the nodes of a walk from one of the first n nodes are among them
  among : (n : ℕ) → ((a b : ℕ) → Arc a b → b < n) → (a b arcs : ℕ) (w : Walk Arc a b arcs) (q : ℕ) → a < n → list_any (nat_eq q) (nodes_of a b arcs w) ≡ true → q < n
  unfolding nodes_of
  among n inside a b zero w q h e = subst (λ x. x < n) (w ∙ sym (only b q e)) h
  among n inside a b (suc arcs) w q h e = elim (or_cases _ _ e) [
    | inl k ↦ subst (λ x. x < n) (sym (eqb-true q b k)) (inside w.0 b w.2)
    | inr k ↦ among n inside a w.0 arcs w.1 q h k
  ]

  -- a walk with an arc begins at a node that has one
  begins : (n : ℕ) → ((a b : ℕ) → Arc a b → a < n) → (a b arcs : ℕ) → Walk Arc a b (suc arcs) → a < n
  begins n inside a b zero w = inside a b (subst (λ x. Arc x b) (sym w.1) w.2)
  begins n inside a b (suc arcs) w = begins n inside a w.0 arcs w.1

  -- where there is no cycle, a walk has fewer arcs than there are nodes
  pub acyclic_short : (n : ℕ) → 0 < n → ((a b : ℕ) → Arc a b → a < n) → ((a b : ℕ) → Arc a b → b < n) → ((a arcs : ℕ) → Walk Arc a a (suc arcs) → ⊥)
      → (a b arcs : ℕ) → Walk Arc a b arcs → arcs < n
  acyclic_short n some from to acyclic a b zero w = some
  acyclic_short n some from to acyclic a b (suc arcs) w =
      subst (λ k. k ≤ n) (length-nodes_of a b (suc arcs) w)
      (length-le_from_distinct_below (nodes_of a b (suc arcs) w) n (distinct_nodes acyclic a b (suc arcs) w)
      (λ q e. among n to a b (suc arcs) w q (begins n from a b arcs w) e))

-- the arcs with one more, from n to m
abbrev pub AddedArc : (ℕ → ℕ → Type 0) → ℕ → ℕ → ℕ → ℕ → Type 0
AddedArc Arc n m a b = Arc a b ⊎ ((a ≡ n) × (b ≡ m))

-- a walk that comes to n, and one that goes on from m
abbrev pub Through : (ℕ → ℕ → Type 0) → ℕ → ℕ → ℕ → ℕ → Type 0
Through Arc n m a b = ((i : ℕ) × Walk Arc a n i) × ((j : ℕ) × Walk Arc m b j)

-- the walk goes on by one arc
one_more : (Arc : ℕ → ℕ → Type 0) (n m a mid b arcs : ℕ) → Walk Arc a mid arcs ⊎ Through Arc n m a mid → AddedArc Arc n m mid b → Walk Arc a b (suc arcs) ⊎ Through Arc n m a b
one_more Arc n m a mid b arcs (inl w) (inl h) = inl (mid, w, h)
one_more Arc n m a mid b arcs (inl w) (inr h) = inr ((arcs, subst (λ x. Walk Arc a x arcs) h.0 w), (0, sym h.1))
one_more Arc n m a mid b arcs (inr t) (inl h) = inr (t.0, (suc t.1.0, (mid, t.1.1, h)))
one_more Arc n m a mid b arcs (inr t) (inr h) = inr (t.0, (0, sym h.1))

-- a walk after an arc is added: one of before, or one through the new arc
pub with_arc_walk : (Arc : ℕ → ℕ → Type 0) (n m a b arcs : ℕ) → Walk (AddedArc Arc n m) a b arcs → Walk Arc a b arcs ⊎ Through Arc n m a b
with_arc_walk Arc n m a b zero w = inl w
with_arc_walk Arc n m a b (suc arcs) w = one_more Arc n m a w.0 b arcs (with_arc_walk Arc n m a w.0 arcs w.1) w.2

-- an arc from n to m makes no cycle where no walk leads from m to n
pub with_arc_acyclic : (Arc : ℕ → ℕ → Type 0) (n m : ℕ) → ((k : ℕ) → Walk Arc m n k → ⊥) → ((a arcs : ℕ) → Walk Arc a a (suc arcs) → ⊥)
    → (a arcs : ℕ) → Walk (AddedArc Arc n m) a a (suc arcs) → ⊥
with_arc_acyclic Arc n m none acyclic a arcs w = elim (with_arc_walk Arc n m a a (suc arcs) w) [
  | inl v ↦ acyclic a arcs v
  | inr t ↦ none (t.0.0 + t.1.0) (walk_join Arc m a n t.1.0 t.0.0 t.1.1 t.0.1)
]

-- an element found passes the test, and stands somewhere
any_found : (p : ℕ → Bool) (xs : List ℕ) → list_any p xs ≡ true → (x : ℕ) × (i : ℕ) × (slice_get xs i ≡ Some x) × (p x ≡ true)
any_found p [] e = absurd (true≢false (sym e))
any_found p (x ∷ xs) e = elim (or_cases _ _ e) [
  | inl h ↦ (x, 0, refl, h)
  | inr h ↦ let there = any_found p xs h in (there.0, suc there.1, there.2, there.3)
]

-- an element that passes the test is found
any_at : (p : ℕ → Bool) (xs : List ℕ) (i x : ℕ) → slice_get xs i ≡ Some x → p x ≡ true → list_any p xs ≡ true
any_at p [] i x e h = absurd (none-some x e)
any_at p (y ∷ ys) zero x e h = or_left _ _ (subst (λ z. p z ≡ true) (sym (same_Some y x e)) h)
any_at p (y ∷ ys) (suc i) x e h = or_right _ _ (any_at p ys i x e h)

-- a slot of a node leads to what is among the node's next nodes
arc_of : (o : Option Node) (i x : ℕ) → slice_get (unwrap_or (option_map (λ node. node.arcs) o) []) i ≡ Some x → option_and_then (λ node. slice_get node.arcs i) o ≡ Some x
arc_of None i x e = e
arc_of (Some node) i x e = e

-- what a slot of a node leads to is among its next nodes
next_of : (o : Option Node) (i x : ℕ) → option_and_then (λ node. slice_get node.arcs i) o ≡ Some x → slice_get (unwrap_or (option_map (λ node. node.arcs) o) []) i ≡ Some x
next_of None i x e = e
next_of (Some node) i x e = e

-- the test is sound
pub leads_sound : (g : Graph) (most a b : ℕ) → leads g most a b ≡ true → (k : ℕ) × Walk (HasArc g) a b k
leads_sound g zero a b e = (0, eqb-true a b e)
leads_sound g (suc most) a b e = elim (or_cases _ _ e) [
  | inl h ↦ (0, eqb-true a b h)
  | inr h ↦
      let first = any_found (λ mid. leads g most mid b) (next_nodes g a) h in
      let rest = leads_sound g most first.0 b first.3 in
      (suc rest.0, walk_cons (HasArc g) a first.0 b rest.0 (first.1, arc_of (slice_get g.nodes a) first.1 first.0 first.2) rest.1)
]

-- the first arc of a walk
pub walk_first : (Arc : ℕ → ℕ → Type 0) (a b arcs : ℕ) → Walk Arc a b (suc arcs) → (c : ℕ) × Arc a c × Walk Arc c b arcs
walk_first Arc a b zero w = (b, subst (λ x. Arc x b) (sym w.1) w.2, refl)
walk_first Arc a b (suc arcs) w = let first = walk_first Arc a w.0 arcs w.1 in (first.0, first.1, (w.0, first.2, w.2))

-- the test is complete
pub leads_complete : (g : Graph) (most a b k : ℕ) → k ≤ most → Walk (HasArc g) a b k → leads g most a b ≡ true
leads_complete g zero a b zero h w = eq-eqb a b w
leads_complete g zero a b (suc k) h w = absurd (omega arith)
leads_complete g (suc most) a b zero h w = or_left _ _ (eq-eqb a b w)
leads_complete g (suc most) a b (suc k) h w =
    let first = walk_first (HasArc g) a b k w in
    or_right _ _ (any_at (λ mid. leads g most mid b) (next_nodes g a) first.1.0 first.0 (next_of (slice_get g.nodes a) first.1.0 first.0 first.1.1)
    (leads_complete g most first.0 b k (omega arith) first.2))

-- where walks are short, the test says whether there is a walk
pub leads_exact : (g : Graph) (a b : ℕ) → ((x y arcs : ℕ) → Walk (HasArc g) x y arcs → arcs < length g.nodes) → leads g (length g.nodes) a b ≡ false → (k : ℕ) → Walk (HasArc g) a b k → ⊥
leads_exact g a b short e k w =
    let fits : k < length g.nodes = short a b k w in
    both_ways _ e (leads_complete g (length g.nodes) a b k (omega (arith, fits)) w)
