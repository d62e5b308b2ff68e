-- For `legs_end`: every leg of a valid graph ends. And for the proofs of all crates above: what a node's arcs and its kind are in a valid graph.
use Rattle.std.proofs.Common.{◌≡◌, ℕ, zero, suc, ◌<◌, Bool, true, false, List, [], ◌∷◌, length, get_or, refl, sym, ap, subst, ◌∙◌, arith}
use Rattle.std.specs.Prelude.{Option, Some, None, option_map, option_and_then, slice_get, if◌then◌else◌}
use Rattle.std.specs.List.{AllByRecursion}
use Rattle.std.proofs.lemmas.Option.{none-some, same_Some, slice_get-get_or}
use Rattle.vg_model.specs.declared.kinds.Kind.{Kind}
use Rattle.vg_model.specs.declared.kinds.DropError.TheVariants.{HandoffLimit}
use Rattle.vg_model.specs.declared.kinds.Step.{Step}
use Rattle.vg_model.specs.declared.kinds.Step.TheVariants as steps
use Rattle.vg_model.specs.Hash.{target_worker}
use Rattle.vg_model.specs.Packet.{Packet}
use Rattle.vg_model.specs.Graph.{Graph, Node, arc, kind_at, slots}
use Rattle.vg_model.specs.Visit.{Visit}
use Rattle.vg_model.specs.Leg.{Dropped, Handed, Way, Move, Onward, Over, first_slot, move_of, joined, after_visit, ends_at, leg_within, leg}
use Rattle.vg_model.specs.Valid.{Walk, HasArc, IsValid, IsTarget, IsStepOf, IsKindSet, IsVisitOf, IsPacket}
use Rattle.vg_model.proofs.Walks.{walk_cons}
use Rattle.vg_model.proofs.LegLemmas.{move_arc}
use Rattle.vg_model.proofs.Journeys.{map_some, then_some}

-- what holds of each element holds of one that is read
pub all_at : {X : Type 0} (P : X → Type 0) (xs : List X) (i : ℕ) (x : X) → slice_get xs i ≡ Some x → AllByRecursion P xs → P x
all_at P [] i x e all = absurd (none-some x e)
all_at P (y ∷ ys) zero x e all = subst P (same_Some y x e) all.0
all_at P (y ∷ ys) (suc i) x e all = all_at P ys i x e all.1

-- an arc leads to a node that may be a target
pub arc_target : (g : Graph) (from to : ℕ) → IsValid g → HasArc g from to → IsTarget (kind_at g to)
arc_target g from to valid h =
    let found = then_some (λ (node : Node). slice_get node.arcs h.0) (slice_get g.nodes from) to h.1 in
    all_at (λ n. IsTarget (kind_at g n)) found.0.arcs h.0 to found.2
    (all_at (λ (node : Node). AllByRecursion (λ n. IsTarget (kind_at g n)) node.arcs) g.nodes from found.0 found.1 valid.targets)

-- each slot of a node's kind has an arc
pub arc_some : (g : Graph) (n slot : ℕ) (kind : Kind) → IsValid g → kind_at g n ≡ Some kind → slot < length (slots kind) → (to : ℕ) × (arc g n slot ≡ Some to)
arc_some g n slot kind valid e h =
    let found = map_some (λ (node : Node). node.kind) (slice_get g.nodes n) kind e in
    let whole : length found.0.arcs ≡ length (slots kind) = all_at (λ (node : Node). length node.arcs ≡ length (slots node.kind)) g.nodes n found.0 found.1 valid.whole ∙ ap (λ k. length (slots k)) found.2 in
    let inside : slot < length found.0.arcs = omega (arith, whole, h) in
    (get_or found.0.arcs slot 0, ap (option_and_then (λ node. slice_get node.arcs slot)) found.1 ∙ slice_get-get_or found.0.arcs slot 0 inside)

-- a target has a kind
pub kind_some : (o : Option Kind) → IsTarget o → (kind : Kind) × (o ≡ Some kind)
kind_some None h = absurd h
kind_some (Some kind) h = (kind, refl)

-- a turn that goes on goes on to a node
abbrev pub IsWhole : Move → Type 0
IsWhole (Over outcome) = Unit {0}
IsWhole (Onward node) = (to : ℕ) × (node ≡ Some to)

-- a packet that is handed over goes on to a node, or the leg ends
handed_whole : (g : Graph) (worker leg_number node target : ℕ) (here last : Bool) → ((to : ℕ) × (arc g node first_slot ≡ Some to))
    → IsWhole (if here then Onward (arc g node first_slot) else if last then Over (Dropped node HandoffLimit) else Over (Handed node target))
handed_whole g worker leg_number node target true last h = h
handed_whole g worker leg_number node target false true h = tt
handed_whole g worker leg_number node target false false h = tt

-- a step of a node of a valid graph leads on to a node, or ends the leg
move_whole : (g : Graph) (workers worker leg_number node : ℕ) (kind : Kind) (step : Step) → IsValid g → kind_at g node ≡ Some kind → IsStepOf g (Some kind) step
    → IsWhole (move_of g workers worker leg_number node step)
move_whole g workers worker leg_number node kind (steps.Next slot) valid e h = arc_some g node slot kind valid e h
move_whole g workers worker leg_number node kind (steps.Tx interface) valid e h = tt
move_whole g workers worker leg_number node kind (steps.Dropped error) valid e h = tt
move_whole g workers worker leg_number node kind (steps.Hand hash) valid e h =
    handed_whole g worker leg_number node (target_worker workers hash) _ _
    (arc_some g node 0 kind valid e (subst (λ k. 0 < length (slots k)) (sym h.1) (omega arith)))

-- a visit and a rest that ends make a leg that ends
joined_some : (node : ℕ) (p : Packet) (t : Move) (f : ℕ → Option Way) → IsWhole t → ((to : ℕ) → t ≡ Onward (Some to) → (way : Way) × (f to ≡ Some way)) → (way : Way) × (joined node p t f ≡ Some way)
joined_some node p (Over outcome) f w h = (ends_at node p outcome, refl)
joined_some node p (Onward None) f w h = absurd (none-some w.0 w.1)
joined_some node p (Onward (Some to)) f w h = let rest = h to refl in (after_visit node rest.0, ap (option_map (after_visit node)) rest.1)

-- a leg ends within more visits than any walk from its node has arcs
ends_within : (visit : Visit) (g : Graph) (workers worker leg_number visits node : ℕ) (p : Packet) → IsKindSet visit → IsValid g → IsPacket p → IsTarget (kind_at g node)
    → ((b arcs : ℕ) → Walk (HasArc g) node b arcs → arcs < visits) → (way : Way) × (leg_within visit g workers worker leg_number visits node p ≡ Some way)
ends_within visit g workers worker leg_number zero node p kinds valid sound target short = absurd (let none : 0 < 0 = short node 0 refl in omega (arith, none))
ends_within visit g workers worker leg_number (suc visits) node p kinds valid sound target short =
    let after = visit g node p in
    let laws : IsVisitOf g node p after = kinds g node p valid target sound in
    let kind = kind_some (kind_at g node) target in
    joined_some node after.1 (move_of g workers worker leg_number node after.0) _
    (move_whole g workers worker leg_number node kind.0 after.0 valid kind.1 (subst (λ o. IsStepOf g o after.0) kind.1 laws.step))
    (λ to e.
    let has : HasArc g node to = move_arc g workers worker leg_number node to after.0 e in
    ends_within visit g workers worker leg_number visits to after.1 kinds valid laws.packet (arc_target g node to valid has) (λ b arcs w.
    let more : suc arcs < suc visits = short b (suc arcs) (walk_cons (HasArc g) node to b arcs has w) in
    omega (arith, more)))

-- every leg of a valid graph ends
pub leg_some : (visit : Visit) (g : Graph) (workers worker leg_number node : ℕ) (p : Packet) → IsKindSet visit → IsValid g → IsPacket p → IsTarget (kind_at g node)
    → (way : Way) × (leg visit g workers worker leg_number node p ≡ Some way)
leg_some visit g workers worker leg_number node p kinds valid sound target =
    ends_within visit g workers worker leg_number (length g.nodes) node p kinds valid sound target (λ b arcs w. valid.acyclic node b arcs w)
