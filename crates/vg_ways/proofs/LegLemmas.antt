-- For `journeys_are_shown`: what holds of each leg of a valid graph, visit by visit.
use Rattle.std.proofs.Common.{◌≡◌, ◌⊎◌, ℕ, zero, suc, Bool, true, false, ◌==◌, List, ◌∷◌, length, refl, sym, ap, subst, ◌∙◌, inl, inr}
use Rattle.std.specs.Prelude.{Option, Some, None, option_and_then}
use Rattle.std.specs.List.{AllByRecursion}
use Rattle.std.proofs.lemmas.Bool.{eqb-true}
use Rattle.std.proofs.lemmas.Option.{none-some, same_Some}
use Rattle.vg_model.specs.declared.kinds.Kind.{Kind}
use Rattle.vg_model.specs.declared.kinds.Kind.TheVariants as kinds
use Rattle.vg_model.specs.Graph.{Graph, kind_at, arc, pg_input, handoff_dequeue}
use Rattle.vg_model.specs.Journey.{leg_from}
use Rattle.vg_model.specs.Leg.{Way, Outcome, Move, Onward, Over, first_slot, move_of, joined, ends_at, leg_within, leg}
use Rattle.vg_model.specs.Leg as model
use Rattle.vg_model.specs.Packet.{Packet}
use Rattle.vg_model.specs.Valid.{IsValid, IsTarget}
use Rattle.vg_model.specs.Visit.{Visit}
use Rattle.vg_model.proofs.Journeys.{map_some, then_some}
use Rattle.vg_model.proofs.LegLemmas.{move_arc}
use Rattle.vg_model.proofs.LegEnds.{arc_target}
use Rattle.vg_story.specs.Visits.{visited_kind, after_by, after_visit, after_visits}

-- packets come in at this node: from the capture, or from another worker
abbrev pub IsEntry : ℕ → Type 0
IsEntry node = (node ≡ pg_input) ⊎ (node ≡ handoff_dequeue)

-- a worker under one generation of the graph, and which of a packet's legs it makes
pub record Seat : Type 0 where
  pub visit : Visit
  pub graph : Graph
  pub workers : ℕ
  pub worker : ℕ
  pub leg : ℕ

-- a leg from where packets come in; and the rest of one from a node on
abbrev pub leg_at : Seat → (first via : ℕ) → Packet → Option Way
leg_at s first via p = leg_from s.visit s.graph s.workers s.worker s.leg first via p

abbrev rest_at : Seat → (fuel node : ℕ) → Packet → Option Way
rest_at s fuel node p = leg_within s.visit s.graph s.workers s.worker s.leg fuel node p

-- what a visit makes of a packet, and where it goes on
abbrev visited : Seat → ℕ → Packet → Packet
visited s node p = (s.visit s.graph node p).1

abbrev move_at : Seat → ℕ → Packet → Move
move_at s node p = move_of s.graph s.workers s.worker s.leg node (s.visit s.graph node p).0

-- ---- what holds of the rest of a leg

-- what holds where a leg ends, and stays with each visit in front
record IsKept (s : Seat) (P : Packet → Way → Type 0) : Type 0 where
  valid : IsValid s.graph
  ends : (node : ℕ) (p : Packet) (outcome : Outcome) → IsTarget (kind_at s.graph node) → P p (ends_at node (visited s node p) outcome)
  goes : (node : ℕ) (p : Packet) (rest : Way) → IsTarget (kind_at s.graph node) → P (visited s node p) rest → P p (model.after_visit node rest)

-- a packet at a node to which an arc may lead
record At : Type 0 where
  seat : Seat
  fuel : ℕ
  node : ℕ
  packet : Packet

-- where it goes on, and what comes of it
record Goes (a : At) (way : Way) (m : Move) : Type 0 where
  target : IsTarget (kind_at a.seat.graph a.node)
  moved : move_at a.seat a.node a.packet ≡ m
  way_is : joined a.node (visited a.seat a.node a.packet) m (λ to. rest_at a.seat a.fuel to (visited a.seat a.node a.packet)) ≡ Some way

-- what holds of the rest of a leg from each node to which an arc may lead
abbrev HoldsBehind : At → (Packet → Way → Type 0) → Type 0
HoldsBehind a P = (to : ℕ) (rest : Way) → IsTarget (kind_at a.seat.graph to) → rest_at a.seat a.fuel to (visited a.seat a.node a.packet) ≡ Some rest → P (visited a.seat a.node a.packet) rest

kept_by_move : {P : Packet → Way → Type 0} (a : At) (way : Way) → IsKept a.seat P → HoldsBehind a P → (m : Move) → Goes a way m → P a.packet way
kept_by_move {P = P} a way kept behind (Over outcome) goes = subst (P a.packet) (same_Some _ _ goes.way_is) (kept.ends a.node a.packet outcome goes.target)
kept_by_move a way kept behind (Onward None) goes = absurd (none-some way goes.way_is)
kept_by_move {P = P} a way kept behind (Onward (Some to)) goes =
    let s = a.seat in
    let found = map_some (model.after_visit a.node) (rest_at s a.fuel to (visited s a.node a.packet)) way goes.way_is in
    let next : IsTarget (kind_at s.graph to) =
    arc_target s.graph a.node to kept.valid (move_arc s.graph s.workers s.worker s.leg a.node to (s.visit s.graph a.node a.packet).0 goes.moved) in
    subst (P a.packet) found.2 (kept.goes a.node a.packet found.0 goes.target (behind to found.0 next found.1))

-- so it holds of the rest of each leg
kept_along : {s : Seat} {P : Packet → Way → Type 0} → IsKept s P → (fuel node : ℕ) (p : Packet) → IsTarget (kind_at s.graph node)
    → {way : Way} → rest_at s fuel node p ≡ Some way → P p way
kept_along kept zero node p target {way = way} e = absurd (none-some way e)
kept_along {s = s} {P = P} kept (suc fuel) node p target {way = way} e =
    let a : At = record { seat = s; fuel = fuel; node = node; packet = p } in
    kept_by_move {P = P} a way kept (λ to rest next is. kept_along {s = s} {P = P} kept fuel to (visited s node p) next {way = rest} is) (move_at s node p)
    (record { target = target; moved = refl; way_is = e })

-- ---- what holds of a leg

-- no packet comes in at these nodes from another worker
abbrev pub NoneEnters : List ℕ → Type 0
NoneEnters nodes = AllByRecursion (λ n. n == handoff_dequeue ≡ false) nodes

-- where a packet is visited, an arc may lead
target_visited : (s : Seat) (node : ℕ) (p : Packet) (o : Option Kind) → IsTarget o → after_by s.visit s.graph node p (visited_kind o) ≡ visited s node p
target_visited s node p None h = absurd h
target_visited s node p (Some kinds.PgInput) h = absurd h
target_visited s node p (Some kinds.HandoffDequeue) h = absurd h
target_visited s node p (Some kind) h = refl

-- no arc leads to where packets come in
other_than : (g : Graph) (node : ℕ) → IsValid g → IsTarget (kind_at g node) → (b : Bool) → node == handoff_dequeue ≡ b → b ≡ false
other_than g node valid target false e = refl
other_than g node valid target true e = absurd (subst IsTarget (ap (kind_at g) (eqb-true node handoff_dequeue e) ∙ valid.dequeue) target)

-- of the rest of a leg: the packet after its visits is that of the leg, and none of them is where packets come in
record IsShown (s : Seat) (p : Packet) (way : Way) : Type 0 where
  packet : after_visits s.visit s.graph way.visits p ≡ way.packet
  none : NoneEnters way.visits

shown_kept : (s : Seat) → IsValid s.graph → IsKept s (IsShown s)
shown_kept s valid = record {
  valid = valid;
  ends = λ node p outcome target. record { packet = target_visited s node p (kind_at s.graph node) target; none = (other_than s.graph node valid target _ refl, tt) };
  goes = λ node p rest target shown. record {
    packet = ap (after_visits s.visit s.graph rest.visits) (target_visited s node p (kind_at s.graph node) target) ∙ shown.packet;
    none = (other_than s.graph node valid target _ refl, shown.none);
  };
}

-- where packets come in they stay as they are
entry_stays : (s : Seat) (node : ℕ) (p : Packet) → IsValid s.graph → IsEntry node → after_visit s.visit s.graph node p ≡ p
entry_stays s node p valid entry = elim entry [
  | inl source ↦ ap (λ n. after_visit s.visit s.graph n p) source ∙ ap (λ o. after_by s.visit s.graph pg_input p (visited_kind o)) valid.source
  | inr dequeue ↦ ap (λ n. after_visit s.visit s.graph n p) dequeue ∙ ap (λ o. after_by s.visit s.graph handoff_dequeue p (visited_kind o)) valid.dequeue
]

-- a leg begins where packets come in, none comes in behind, and the packet after its visits is that of the leg
pub record IsLeg (s : Seat) (first : ℕ) (p : Packet) (way : Way) : Type 0 where
  pub others : List ℕ
  pub are : way.visits ≡ first ∷ others
  pub none : NoneEnters others
  pub packet : after_visits s.visit s.graph way.visits p ≡ way.packet

pub leg_is : (s : Seat) (first via : ℕ) {p : Packet} {way : Way} → IsValid s.graph → IsEntry first → leg_at s first via p ≡ Some way → IsLeg s first p way
leg_is s first via {p = p} {way = way} valid entry e =
    let rest : ℕ → Option Way = λ n. leg s.visit s.graph s.workers s.worker s.leg n p in
    let found = map_some (model.after_visit first) (option_and_then rest (arc s.graph via first_slot)) way e in
    let led = then_some rest (arc s.graph via first_slot) found.0 found.1 in
    let target : IsTarget (kind_at s.graph led.0) = arc_target s.graph via led.0 valid (first_slot, led.1) in
    let shown : IsShown s p found.0 = kept_along {s = s} {P = IsShown s} (shown_kept s valid) (length s.graph.nodes) led.0 p target {way = found.0} led.2 in
    record {
      others = found.0.visits;
      are = ap (λ (w : Way). w.visits) (sym found.2);
      none = shown.none;
      packet = subst (λ (w : Way). after_visits s.visit s.graph w.visits p ≡ w.packet) found.2
          (ap (after_visits s.visit s.graph found.0.visits) (entry_stays s first p valid entry) ∙ shown.packet);
    }
