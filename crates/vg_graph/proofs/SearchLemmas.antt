-- For the clauses of `Search::{from, reach, reach_all}` and `Graph::leads`: a search reaches exactly the nodes that walks lead to.
use Rattle.std.proofs.Common.{◌≡◌, ℕ, zero, suc, ◌+◌, ◌<◌, ◌≤◌, ◌⊎◌, inl, inr, Bool, true, false, List, [], ◌∷◌, ◌++◌, length, refl, sym, ap, subst, ◌∙◌, arith, length-append, length-set, true≢false}
use Rattle.std.specs.Prelude.{Some, slice_get, slice_set, option_and_then, replicate}
use Rattle.std.specs.List.{AllByRecursion}
use Rattle.std.proofs.lemmas.Option.{none-some, same_Some, slice_get_within}
use Rattle.vg_model.specs.Graph.{Graph, Node, kind_at}
use Rattle.vg_model.specs.Valid.{Walk, HasArc, IsValid, IsTarget}
use Rattle.vg_model.specs.Edit.{leads}
use Rattle.vg_model.proofs.Walks.{leads_sound, leads_complete}
use Rattle.vg_model.proofs.Arcs.{set_read}
use Rattle.vg_model.proofs.Journeys.{map_some}
use Rattle.vg_model.proofs.LegEnds.{all_at, arc_target, kind_some}
use Rattle.vg_graph.specs.declared.search.Search.{Search}
use Rattle.vg_graph.specs.Reach.{IsReached, IsWaiting, unreached, effort, HasRoom, Reaches, IsFirst}
use Rattle.vg_graph.proofs.ListLemmas.{append_read, append_split, last_read, all_weaken}

-- a mark that is set makes one fewer unreached
pub unreached_set : (marks : List Bool) (n : ℕ) → slice_get marks n ≡ Some false → unreached marks ≡ suc (unreached (slice_set marks n true))
unreached_set [] n e = absurd (none-some false e)
unreached_set (true ∷ marks) zero e = absurd (true≢false (same_Some true false e))
unreached_set (false ∷ marks) zero e = refl
unreached_set (true ∷ marks) (suc n) e = unreached_set marks n e
unreached_set (false ∷ marks) (suc n) e = ap suc (unreached_set marks n e)

-- marks stay
mark_kept : (marks : List Bool) (n x : ℕ) → slice_get marks x ≡ Some true → slice_get (slice_set marks n true) x ≡ Some true
mark_kept [] n x e = e
mark_kept (m ∷ marks) zero zero e = refl
mark_kept (m ∷ marks) zero (suc x) e = e
mark_kept (m ∷ marks) (suc n) zero e = e
mark_kept (m ∷ marks) (suc n) (suc x) e = mark_kept marks n x e

-- a mark is set
mark_set : (marks : List Bool) (n : ℕ) (m : Bool) → slice_get marks n ≡ Some m → slice_get (slice_set marks n true) n ≡ Some true
mark_set [] n m e = absurd (none-some m e)
mark_set (x ∷ marks) zero m e = refl
mark_set (x ∷ marks) (suc n) m e = mark_set marks n m e

-- the one element of a list of one
only : {X : Type 0} (x : X) (i : ℕ) (y : X) → slice_get (x ∷ []) i ≡ Some y → y ≡ x
only x zero y e = sym (same_Some x y e)
only x (suc i) y e = absurd (none-some y e)

-- a node that was reached before
pub reach_old : (s : Search) (node : ℕ) → IsReached s node → Reaches s s (node ∷ []) 1
reach_old s node h = record {
  kept = λ n r. r;
  each = λ i n l e. subst (IsReached s) (sym (only node i n e)) h;
  others = λ n r. inl r;
  waiting = λ n w. w;
  waits = λ n w. inl w;
  marks = refl;
  effort = refl;
}

-- a node that is reached now
pub reach_new : (old new : Search) (node : ℕ) → slice_get old.reached node ≡ Some false → new.reached ≡ slice_set old.reached node true
    → new.waiting.items ≡ old.waiting.items ++ node ∷ [] → Reaches old new (node ∷ []) 1
reach_new old new node free marks items =
    let here : IsReached new node = subst (λ m. slice_get m node ≡ Some true) (sym marks) (mark_set old.reached node false free) in
    let last : IsWaiting new node = (length old.waiting.items, subst (λ l. slice_get l (length old.waiting.items) ≡ Some node) (sym items) (last_read old.waiting.items node)) in
    let fewer : unreached old.reached ≡ suc (unreached new.reached) = unreached_set old.reached node free ∙ ap (λ m. suc (unreached m)) (sym marks) in
    let longer : length new.waiting.items ≡ length old.waiting.items + 1 = ap length items ∙ length-append old.waiting.items (node ∷ []) in
    record {
      kept = λ n r. subst (λ m. slice_get m n ≡ Some true) (sym marks) (mark_kept old.reached node n r);
      each = λ i n l e. subst (IsReached new) (sym (only node i n e)) here;
      others = λ n r. elim (set_read old.reached node n true true (subst (λ m. slice_get m n ≡ Some true) marks r)) [
        | inl h ↦ inr ((0, ap Some (sym h.0)), subst (IsWaiting new) (sym h.0) last)
        | inr h ↦ inl h
      ];
      waiting = λ n w. (w.0, subst (λ l. slice_get l w.0 ≡ Some n) (sym items) (append_read old.waiting.items (node ∷ []) w.0 n w.1));
      waits = λ n w. elim (append_split old.waiting.items node w.0 n (subst (λ l. slice_get l w.0 ≡ Some n) items w.1)) [
        | inl h ↦ inl (w.0, h)
        | inr h ↦ inr (subst (IsReached new) (sym h.1) here)
      ];
      marks = ap length marks ∙ length-set old.reached node true;
      effort = omega (arith, fewer, longer);
    }

-- one node more is reached
pub reaches_more : (a b c : Search) (nodes : List ℕ) (i x : ℕ) → slice_get nodes i ≡ Some x → Reaches a b nodes i → Reaches b c (x ∷ []) 1 → Reaches a c nodes (i + 1)
reaches_more a b c nodes i x here first second = record {
  kept = λ n r. second.kept n (first.kept n r);
  each = λ j n l e. by_place j n (compare j i) l e;
  others = λ n r. elim (second.others n r) [
    | inl h ↦ elim (first.others n h) [ inl old ↦ inl old | inr new ↦ inr (new.0, second.waiting n new.1) ]
    | inr h ↦ inr ((i, here ∙ ap Some (sym (only x h.0.0 n h.0.1))), h.1)
  ];
  waiting = λ n w. second.waiting n (first.waiting n w);
  waits = λ n w. elim (second.waits n w) [
    | inl h ↦ elim (first.waits n h) [ inl old ↦ inl old | inr new ↦ inr (second.kept n new) ]
    | inr h ↦ inr h
  ];
  marks = second.marks ∙ first.marks;
  effort = second.effort ∙ first.effort;
}
  where
    -- a number is below another, or it is not
    compare : (j i : ℕ) → (j < i) ⊎ (i ≤ j)
    compare j zero = inr (omega arith)
    compare zero (suc i) = inl (omega arith)
    compare (suc j) (suc i) = elim (compare j i) [ inl h ↦ inl (omega (arith, h)) | inr h ↦ inr (omega (arith, h)) ]

    -- a node of those before, or the one more
    by_place : (j n : ℕ) → (j < i) ⊎ (i ≤ j) → j < i + 1 → slice_get nodes j ≡ Some n → IsReached c n
    by_place j n (inl h) l e = second.kept n (first.each j n h e)
    by_place j n (inr h) l e =
        let same : j ≡ i = omega (arith, h, l) in
        let found : x ≡ n = same_Some x n (sym here ∙ (ap (slice_get nodes) (sym same) ∙ e)) in
        second.each 0 n (omega arith) (ap Some found)

-- no mark is set among marks that are all unset
none_set : (k n : ℕ) → slice_get (replicate k false) n ≡ Some true → ⊥
none_set zero n e = none-some true e
none_set (suc k) zero e = true≢false (sym (same_Some false true e))
none_set (suc k) (suc n) e = none_set k n e

-- the first node is reached
pub reach_first : (old new : Search) (node : ℕ) → old.reached ≡ replicate 64 false → old.waiting.items ≡ [] → Reaches old new (node ∷ []) 1 → IsFirst new node
reach_first old new node marks items reaches =
    let none : (n : ℕ) → IsReached old n → ⊥ = λ n r. none_set 64 n (subst (λ m. slice_get m n ≡ Some true) marks r) in
    record {
      reached = reaches.each 0 node (omega arith) refl;
      alone = λ n r. elim (reaches.others n r) [ inl h ↦ absurd (none n h) | inr h ↦ only node h.0.0 n h.0.1 ];
      waiting = λ n r. elim (reaches.others n r) [ inl h ↦ absurd (none n h) | inr h ↦ h.1 ];
      waits = λ n w. elim (reaches.waits n w) [ inl h ↦ absurd (none-some n (subst (λ l. slice_get l h.0 ≡ Some n) items h.1)) | inr h ↦ h ];
      room = record {
        marks = reaches.marks ∙ ap length marks;
        room =
            let all : unreached old.reached ≡ 64 = ap unreached marks in
            let empty : length old.waiting.items ≡ 0 = ap length items in
            let same : effort new ≡ effort old = reaches.effort in
            omega (arith, all, empty, same);
      };
    }

-- what holds of a search from a node at each step
pub record IsSearch (g : Graph) (from : ℕ) (s : Search) : Type 0 where
  pub first : IsReached s from
  -- each reached node is at the end of a walk
  pub sound : (n : ℕ) → IsReached s n → (k : ℕ) × Walk (HasArc g) from n k
  -- the arcs of a reached node that does not wait lead to reached nodes
  pub closed : (a b : ℕ) → IsReached s a → HasArc g a b → IsWaiting s a ⊎ IsReached s b
  pub waits : (n : ℕ) → IsWaiting s n → IsReached s n
  pub room : HasRoom s

-- a search begins
pub search_first : (g : Graph) (from : ℕ) (s : Search) → IsFirst s from → IsSearch g from s
search_first g from s first = record {
  first = first.reached;
  sound = λ n r. (0, sym (first.alone n r));
  closed = λ a b r h. inl (first.waiting a r);
  waits = first.waits;
  room = first.room;
}

-- a node is at the end of the list of those that wait
pub taken_waits : (s next : Search) (node : ℕ) → s.waiting.items ≡ next.waiting.items ++ node ∷ [] → IsWaiting s node
taken_waits s next node items = (length next.waiting.items, subst (λ l. slice_get l (length next.waiting.items) ≡ Some node) (sym items) (last_read next.waiting.items node))

-- there is room after a node is taken
pub taken_room : (s next : Search) (node : ℕ) → HasRoom s → next.reached ≡ s.reached → s.waiting.items ≡ next.waiting.items ++ node ∷ [] → HasRoom next
taken_room s next node room marks items = record {
  marks = ap length marks ∙ room.marks;
  room =
      let same : unreached next.reached ≡ unreached s.reached = ap unreached marks in
      let longer : length s.waiting.items ≡ length next.waiting.items + 1 = ap length items ∙ length-append next.waiting.items (node ∷ []) in
      omega (arith, same, longer, room.room);
}

-- there is less to do after a node is taken
pub taken_less : (s next after : Search) (node : ℕ) → next.reached ≡ s.reached → s.waiting.items ≡ next.waiting.items ++ node ∷ [] → effort after ≡ effort next → effort after < effort s
taken_less s next after node marks items rest =
    let same : unreached next.reached ≡ unreached s.reached = ap unreached marks in
    let longer : length s.waiting.items ≡ length next.waiting.items + 1 = ap length items ∙ length-append next.waiting.items (node ∷ []) in
    omega (arith, same, longer, rest)

-- the arcs of a node that waited are followed
pub search_step : (g : Graph) (from : ℕ) (s next after : Search) (node : ℕ) (here : Node) → slice_get g.nodes node ≡ Some here
    → IsSearch g from s → next.reached ≡ s.reached → s.waiting.items ≡ next.waiting.items ++ node ∷ [] → Reaches next after here.arcs (length here.arcs) → IsSearch g from after
search_step g from s next after node here at search marks items reaches =
    let back : (n : ℕ) → IsReached next n → IsReached s n = λ n r. subst (λ m. slice_get m n ≡ Some true) marks r in
    let on : (n : ℕ) → IsReached s n → IsReached after n = λ n r. reaches.kept n (subst (λ m. slice_get m n ≡ Some true) (sym marks) r) in
    let reached : IsReached s node = search.waits node (taken_waits s next node items) in
    record {
      first = on from search.first;
      sound = λ n r. elim (reaches.others n r) [
        | inl h ↦ search.sound n (back n h)
        | inr h ↦
            let walk = search.sound node reached in
            (suc walk.0, (node, walk.1, (h.0.0, ap (option_and_then (λ (x : Node). slice_get x.arcs h.0.0)) at ∙ h.0.1)))
      ];
      closed = λ a b r h. elim (reaches.others a r) [
        | inl old ↦ elim (search.closed a b (back a old) h) [
          | inl w ↦ elim (append_split next.waiting.items node w.0 a (subst (λ l. slice_get l w.0 ≡ Some a) items w.1)) [
            | inl still ↦ inl (reaches.waiting a (w.0, still))
            | inr now ↦
                let arc : slice_get here.arcs h.0 ≡ Some b =
                sym (ap (option_and_then (λ (x : Node). slice_get x.arcs h.0)) at)
                ∙ (ap (λ x. option_and_then (λ (x : Node). slice_get x.arcs h.0) (slice_get g.nodes x)) (sym now.1) ∙ h.1) in
                inr (reaches.each h.0 b (slice_get_within here.arcs h.0 b arc) arc)
          ]
          | inr there ↦ inr (on b there)
        ]
        | inr new ↦ inl new.1
      ];
      waits = λ n w. elim (reaches.waits n w) [
        | inl h ↦ on n (search.waits n (h.0, subst (λ l. slice_get l h.0 ≡ Some n) (sym items) (append_read next.waiting.items (node ∷ []) h.0 n h.1)))
        | inr h ↦ h
      ];
      room =
          let room = taken_room s next node search.room marks items in
          record {
            marks = reaches.marks ∙ room.marks;
            room = let same : effort after ≡ effort next = reaches.effort in omega (arith, same, room.room);
          };
    }

-- where no node waits, every walk leads to a reached node
pub search_complete : (g : Graph) (from : ℕ) (s : Search) → IsSearch g from s → s.waiting.items ≡ [] → (n k : ℕ) → Walk (HasArc g) from n k → IsReached s n
search_complete g from s search none n zero w = subst (IsReached s) w search.first
search_complete g from s search none n (suc k) w = elim (search.closed w.0 n (search_complete g from s search none w.0 k w.1) w.2) [
  | inl h ↦ absurd (none-some w.0 (subst (λ l. slice_get l h.0 ≡ Some w.0) none h.1))
  | inr h ↦ h
]

-- the answer of a search where no node waits is that of the test for a walk
pub search_exact : (g : Graph) (from to : ℕ) (s : Search) (answer : Bool) → IsValid g → IsSearch g from s → s.waiting.items ≡ []
    → slice_get s.reached to ≡ Some answer → answer ≡ leads g (length g.nodes) from to
search_exact g from to s answer valid search none e = by_answer answer e
  where
    -- a node that is not reached is at the end of no walk
    not_there : (b : Bool) → leads g (length g.nodes) from to ≡ b → slice_get s.reached to ≡ Some false → false ≡ b
    not_there false h e = refl
    not_there true h e =
        let walk = leads_sound g (length g.nodes) from to h in
        same_Some false true (sym e ∙ search_complete g from s search none to walk.0 walk.1)

    -- by what the mark says
    by_answer : (answer : Bool) → slice_get s.reached to ≡ Some answer → answer ≡ leads g (length g.nodes) from to
    by_answer true e =
        let walk = search.sound to e in
        let short : walk.0 < length g.nodes = valid.acyclic from to walk.0 walk.1 in
        sym (leads_complete g (length g.nodes) from to walk.0 (omega (arith, short)) walk.1)
    by_answer false e = not_there (leads g (length g.nodes) from to) refl e

-- a target is the number of a node
pub target_within : (g : Graph) (n : ℕ) → IsTarget (kind_at g n) → n < length g.nodes
target_within g n t =
    let kind = kind_some (kind_at g n) t in
    let found = map_some (λ (x : Node). x.kind) (slice_get g.nodes n) kind.0 kind.1 in
    slice_get_within g.nodes n found.0 found.1

-- a walk from a node leads to a node
walk_within : (g : Graph) (from n k : ℕ) → IsValid g → from < length g.nodes → Walk (HasArc g) from n k → n < length g.nodes
walk_within g from n zero valid within w = subst (λ x. x < length g.nodes) w within
walk_within g from n (suc k) valid within w = target_within g n (arc_target g w.0 n valid w.2)

-- a node that waits is one of the graph's
pub waiting_within : (g : Graph) (from : ℕ) (s : Search) (n : ℕ) → IsValid g → from < length g.nodes → IsSearch g from s → IsWaiting s n → n < length g.nodes
waiting_within g from s n valid within search w = let walk = search.sound n (search.waits n w) in walk_within g from n walk.0 valid within walk.1

-- the arcs of a node of a graph of at most 64 nodes lead to numbers below 64
pub arcs_small : (g : Graph) (node : ℕ) (here : Node) → IsValid g → length g.nodes ≤ 64 → slice_get g.nodes node ≡ Some here → AllByRecursion (λ n. n < 64) here.arcs
arcs_small g node here valid few at =
    all_weaken (λ n. IsTarget (kind_at g n)) (λ n. n < 64) (λ n t. let within : n < length g.nodes = target_within g n t in omega (arith, within, few)) here.arcs
    (all_at (λ (x : Node). AllByRecursion (λ n. IsTarget (kind_at g n)) x.arcs) g.nodes node here at valid.targets)
