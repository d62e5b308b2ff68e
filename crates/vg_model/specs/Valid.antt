-- Valid graphs, and the laws of a set of kinds (this project's profile).
use Rattle.std.specs.Prelude.{◌≡◌, ℕ, zero, suc, ◌+◌, ◌<◌, ◌≤◌, true, List, length, map, Option, Some, None, bytes_eq}
use Rattle.std.specs.List.{IsDistinct, AllByRecursion}
use Rattle.vg_model.specs.declared.names.Mac.{Mac}
use Rattle.vg_model.specs.Members.{AreMembers}
use Rattle.vg_model.specs.Route.{same_prefix, same_prefix6}
use Rattle.vg_model.specs.declared.kinds.Kind.{Kind}
use Rattle.vg_model.specs.declared.kinds.Kind.TheVariants as kinds
use Rattle.vg_model.specs.declared.kinds.HashKind.{HashKind}
use Rattle.vg_model.specs.declared.kinds.Step.{Step}
use Rattle.vg_model.specs.declared.kinds.Step.TheVariants.{Next, Tx, Dropped, Hand}
use Rattle.vg_model.specs.declared.routes.RouteTo.{RouteTo}
use Rattle.vg_model.specs.declared.routes.RouteTo.TheVariants as routes
use Rattle.vg_model.specs.Packet.{Packet, longest_packet, first_room}
use Rattle.vg_model.specs.Graph.{Graph, kind_at, slots, arc, pg_input, handoff_dequeue, error_drop}
use Rattle.vg_model.specs.Visit.{Visit, datagram, header_fault}

-- one of the slots of the node leads to the other
abbrev pub HasArc : Graph → ℕ → ℕ → Type 0
HasArc g from to = (slot : ℕ) × (arc g from slot ≡ Some to)

-- a walk of so many arcs
abbrev pub Walk : (ℕ → ℕ → Type 0) → ℕ → ℕ → ℕ → Type 0
Walk Arc from to zero = from ≡ to
Walk Arc from to (suc arcs) = (mid : ℕ) × Walk Arc from mid arcs × Arc mid to

-- a node that arcs may lead to
abbrev pub IsTarget : Option Kind → Type 0
IsTarget None = ⊥
IsTarget (Some kinds.PgInput) = ⊥
IsTarget (Some kinds.HandoffDequeue) = ⊥
IsTarget (Some kind) = Unit {0}

-- a route has 1 to 16 adjacencies, and they are among so many
abbrev pub IsRouteWithin : ℕ → RouteTo → Type 0
IsRouteWithin adjacencies (routes.Via members) = AreMembers members × AllByRecursion (λ a. a < adjacencies) members
IsRouteWithin adjacencies routes.Local = Unit {0}
IsRouteWithin adjacencies routes.Drop = Unit {0}

-- each number is a byte
abbrev pub AreBytes : List ℕ → Type 0
AreBytes bytes = AllByRecursion (λ b. b < 256) bytes

-- six bytes
pub record IsMac (mac : Mac) : Type 0 where
  pub six : length mac.0 ≡ 6
  pub bytes : AreBytes mac.0

-- what holds of every graph of a run
pub record IsValid (g : Graph) : Type 0 where
  -- the packet source, the end of the handoff queues and the node that drops are in their places
  pub source : kind_at g pg_input ≡ Some kinds.PgInput
  pub dequeue : kind_at g handoff_dequeue ≡ Some kinds.HandoffDequeue
  pub drop : kind_at g error_drop ≡ Some kinds.ErrorDrop
  -- each slot has an arc
  pub whole : AllByRecursion (λ node. length node.arcs ≡ length (slots node.kind)) g.nodes
  -- each arc leads to a node that may be a target
  pub targets : AllByRecursion (λ node. AllByRecursion (λ to. IsTarget (kind_at g to)) node.arcs) g.nodes
  -- numbers in use are in range
  pub interfaces : 1 ≤ length g.interfaces
  pub adjacencies : AllByRecursion (λ a. a.interface < length g.interfaces) g.adjacencies
  pub routes : AllByRecursion (λ r. IsRouteWithin (length g.adjacencies) r.1) g.routes
  pub routes6 : AllByRecursion (λ r. IsRouteWithin (length g.adjacencies) r.1) g.routes6
  -- names differ
  pub node_names : IsDistinct bytes_eq (map (λ n. n.name) g.nodes)
  pub interface_names : IsDistinct bytes_eq (map (λ i. i.name) g.interfaces)
  pub adjacency_names : IsDistinct bytes_eq (map (λ a. a.name) g.adjacencies)
  -- no prefix has two routes
  pub one_route : IsDistinct same_prefix (map (λ r. r.0) g.routes)
  pub one_route6 : IsDistinct same_prefix6 (map (λ r. r.0) g.routes6)
  -- addresses are six bytes
  pub interface_macs : AllByRecursion (λ i. IsMac i.mac) g.interfaces
  pub adjacency_macs : AllByRecursion (λ a. IsMac a.mac) g.adjacencies
  -- no walk has as many arcs as there are nodes
  pub acyclic : (from to arcs : ℕ) → Walk (HasArc g) from to arcs → arcs < length g.nodes

-- what a step may be at a node
abbrev pub IsStepOf : Graph → Option Kind → Step → Type 0
IsStepOf g None step = Unit {0}
IsStepOf g (Some kind) (Next slot) = slot < length (slots kind)
IsStepOf g (Some kind) (Tx interface) = interface < length g.interfaces
IsStepOf g (Some kind) (Dropped error) = Unit {0}
IsStepOf g (Some kind) (Hand hash) = (h : HashKind) × (kind ≡ kinds.WorkerHandoff h)

-- a packet that may be: its bytes are bytes, and where it has the mark, the header's checks would pass as it is
pub record IsPacket (p : Packet) : Type 0 where
  pub bytes : AreBytes p.bytes
  pub sound : p.checked ≡ true → header_fault (datagram p) ≡ None

-- the most room of a packet
abbrev pub most_room : ℕ
most_room = 128

-- how long a packet and its room are together
abbrev pub extent : Packet → ℕ
extent p = length p.bytes + p.room

-- the most that a packet and its room are together: those of the longest packet as it is received
abbrev pub most_extent : ℕ
most_extent = longest_packet + first_room

-- the laws of a visit, from a packet to the packet after it
pub record IsVisitOf (g : Graph) (n : ℕ) (p : Packet) (after : Step × Packet) : Type 0 where
  pub step : IsStepOf g (kind_at g n) after.0
  pub number : after.1.number ≡ p.number
  pub no_larger : extent after.1 ≤ extent p
  pub room : p.room ≤ most_room → extent p ≤ most_extent → after.1.room ≤ most_room
  pub packet : IsPacket after.1

-- a set of kinds keeps the laws at every node of a valid graph that arcs may lead to, for every packet that may be
abbrev pub IsKindSet : Visit → Type 0
IsKindSet visit = (g : Graph) (n : ℕ) (p : Packet) → IsValid g → IsTarget (kind_at g n) → IsPacket p → IsVisitOf g n p (visit g n p)
