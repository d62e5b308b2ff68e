-- For the clause `dispatched` of `Work::dispatch_next`: one visit moves a packet by one step of its leg. And for `Work::{draw, take, put_apart, group}`: a node
-- that packets may go on to is one of the graph's.
use Rattle.std.proofs.Common.{◌≡◌, ℕ, suc, ◌+◌, ◌*◌, ◌<◌, List, [], ◌∷◌, length, refl, sym, ap, subst, ◌∙◌, arith, zero-add}
use Rattle.std.specs.Prelude.{Option, Some, None, option_map, unwrap_or, slice_get}
use Rattle.std.specs.List.{sum_by}
use Rattle.std.proofs.lemmas.Option.{none-some, slice_get_within}
use Rattle.std.proofs.lemmas.List.Sums.{sum_by-cons}
use Rattle.vg_model.specs.declared.fates.Leg.{Leg}
use Rattle.vg_model.specs.Graph.{Graph, Node, kind_at, error_drop}
use Rattle.vg_model.specs.Leg.{Outcome, Way, Move, Onward, Over, joined, after_visit}
use Rattle.vg_model.specs.Valid.{IsVisitOf, IsPacket, IsTarget}
use Rattle.vg_model.proofs.Journeys.{map_some}
use Rattle.vg_model.proofs.LegLemmas.{leg_step, move_arc}
use Rattle.vg_model.proofs.LegEnds.{leg_some, arc_target, kind_some}
use Rattle.vg_pool.specs.Contents.{Contents}
use Rattle.vg_underway.specs.Underway.{Setting, Weights, IsSetting, leg_of, end_weight, way_weight, owed, after_at, move_at, move_owed}

weight_after : (t : Weights) (legs : List Leg) (pieces node : ℕ) (way : Way) → way_weight t legs pieces (after_visit node way) ≡ t.visits node + way_weight t legs pieces way
weight_after t legs pieces node way = omega (arith, sum_by-cons t.visits node way.visits)

pub some_weight : (t : Weights) (legs : List Leg) (pieces node : ℕ) (o : Option Way) (way : Way) → o ≡ Some way
    → unwrap_or (option_map (way_weight t legs pieces) (option_map (after_visit node) o)) 0 ≡ t.visits node + unwrap_or (option_map (way_weight t legs pieces) o) 0
some_weight t legs pieces node o way e = rw e (weight_after t legs pieces node way)

step_of : (s : Setting) (node : ℕ) (c : Contents) → IsSetting s
    → leg_of s node c ≡ joined node (after_at s node c).packet (move_at s node c) (λ to. leg_of s to (after_at s node c))
step_of s node c ok = leg_step s.visit s.graph s.workers s.worker (length c.legs) node c.packet ok.valid.acyclic

-- the laws of a visit
pub laws_at : (s : Setting) (node : ℕ) (c : Contents) → IsSetting s → IsPacket c.packet → IsTarget (kind_at s.graph node) → IsVisitOf s.graph node c.packet (s.visit s.graph node c.packet)
laws_at s node c ok sound target = ok.kinds s.graph node c.packet ok.valid target sound

-- a visit after which the packet goes on
owed_onward : (s : Setting) (t : Weights) (node to : ℕ) (c : Contents) → IsSetting s → IsPacket c.packet → IsTarget (kind_at s.graph node)
    → move_at s node c ≡ Onward (Some to) → owed s t node c ≡ t.visits node + owed s t to (after_at s node c)
owed_onward s t node to c ok sound here e =
    let laws : IsVisitOf s.graph node c.packet (s.visit s.graph node c.packet) = laws_at s node c ok sound here in
    let target : IsTarget (kind_at s.graph to) = arc_target s.graph node to ok.valid (move_arc s.graph s.workers s.worker (length c.legs) node to _ e) in
    let rest = leg_some s.visit s.graph s.workers s.worker (length c.legs) to (after_at s node c).packet ok.kinds ok.valid laws.packet target in
    ap (λ o. unwrap_or (option_map (way_weight t c.legs c.pieces) o) 0)
    (step_of s node c ok ∙ ap (λ move. joined node (after_at s node c).packet move (λ to. leg_of s to (after_at s node c))) e)
    ∙ some_weight t c.legs c.pieces node (leg_of s to (after_at s node c)) rest.0 rest.1

-- a visit after which the leg is over
owed_over : (s : Setting) (t : Weights) (node : ℕ) (outcome : Outcome) (c : Contents) → IsSetting s
    → move_at s node c ≡ Over outcome → owed s t node c ≡ t.visits node + end_weight t (record { outcome = outcome; contents = after_at s node c })
owed_over s t node outcome c ok e =
    ap (λ o. unwrap_or (option_map (way_weight t c.legs c.pieces) o) 0)
    (step_of s node c ok ∙ ap (λ move. joined node (after_at s node c).packet move (λ to. leg_of s to (after_at s node c))) e)
    ∙ ap (λ k. k + end_weight t (record { outcome = outcome; contents = after_at s node c })) (zero-add (t.visits node))

-- a node that may be a target is one of the graph's
pub target_within : (g : Graph) (n : ℕ) → IsTarget (kind_at g n) → n < length g.nodes
target_within g n h =
    let kind = kind_some (kind_at g n) h in
    let found = map_some (λ (node : Node). node.kind) (slice_get g.nodes n) kind.0 kind.1 in
    slice_get_within g.nodes n found.0 found.1

pub drop_within : (s : Setting) → IsSetting s → error_drop < length s.graph.nodes
drop_within s ok = target_within s.graph error_drop (subst IsTarget (sym ok.valid.drop) tt)

-- after a visit the leg is over, or goes on at a node that may be visited
abbrev pub GoesOn : Setting → Move → Type 0
GoesOn s (Over outcome) = Unit {0}
GoesOn s (Onward None) = ⊥
GoesOn s (Onward (Some to)) = IsTarget (kind_at s.graph to)

visit_goes_on : (s : Setting) (node : ℕ) (c : Contents) → IsSetting s → IsPacket c.packet → IsTarget (kind_at s.graph node) → (move : Move) → move_at s node c ≡ move → GoesOn s move
visit_goes_on s node c ok sound target (Over outcome) e = tt
visit_goes_on s node c ok sound target (Onward (Some to)) e =
    arc_target s.graph node to ok.valid (move_arc s.graph s.workers s.worker (length c.legs) node to _ e)
visit_goes_on s node c ok sound target (Onward None) e =
    let way = leg_some s.visit s.graph s.workers s.worker (length c.legs) node c.packet ok.kinds ok.valid sound target in
    none-some way.0 (sym (step_of s node c ok ∙ ap (λ move. joined node (after_at s node c).packet move (λ to. leg_of s to (after_at s node c))) e) ∙ way.1)

-- a visit: one at the node, and what is owed after it
visit_by : (s : Setting) (t : Weights) (node : ℕ) (c : Contents) → IsSetting s → IsPacket c.packet → IsTarget (kind_at s.graph node) → (move : Move) → move_at s node c ≡ move
    → owed s t node c ≡ t.visits node + move_owed s t (after_at s node c) move
visit_by s t node c ok sound target (Onward None) e = absurd (visit_goes_on s node c ok sound target (Onward None) e)
visit_by s t node c ok sound target (Onward (Some to)) e = owed_onward s t node to c ok sound target e
visit_by s t node c ok sound target (Over outcome) e = owed_over s t node outcome c ok e

pub owed_visit : (s : Setting) (t : Weights) (node : ℕ) (c : Contents) → IsSetting s → IsPacket c.packet → IsTarget (kind_at s.graph node)
    → owed s t node c ≡ t.visits node + move_owed s t (after_at s node c) (move_at s node c)
owed_visit s t node c ok sound target = visit_by s t node c ok sound target (move_at s node c) refl

-- the visits of a whole frame, whose packets are seen through this
pub owed_frame : {X : Type 0} (s : Setting) (t : Weights) (node : ℕ) (view : X → Contents) (frame : List X) → IsSetting s → ((x : X) → IsPacket (view x).packet) → IsTarget (kind_at s.graph node)
    → sum_by (λ x. owed s t node (view x)) frame ≡ t.visits node * length frame + sum_by (λ x. move_owed s t (after_at s node (view x)) (move_at s node (view x))) frame
owed_frame s t node view [] ok sound target = let none : 0 ≡ t.visits node * 0 + 0 = grind arith in none
owed_frame s t node view (x ∷ xs) ok sound target =
    let rest = owed_frame s t node view xs ok sound target in
    let one = owed_visit s t node (view x) ok (sound x) target in
    let product : t.visits node * length (x ∷ xs) ≡ t.visits node * length xs + t.visits node = one_more (t.visits node) (length xs) in
    omega (arith, rest, one, product, sum_by-cons (λ y. owed s t node (view y)) x xs, sum_by-cons (λ y. move_owed s t (after_at s node (view y)) (move_at s node (view y))) x xs)
  where
    one_more : (a b : ℕ) → a * suc b ≡ a * b + a
    one_more a b = grind arith
