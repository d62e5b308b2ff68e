-- A set of kinds around another: it visits the nodes of some kinds itself, and leaves those of all others to the other set.
use Rattle.std.specs.Prelude.{◌≡◌, ◌≢◌, ℕ, Option, Some, IfSome, option_and_then, unwrap_or}
use Rattle.vg_model.specs.declared.kinds.DropError.TheVariants.{Congestion}
use Rattle.vg_model.specs.declared.kinds.Kind.{Kind}
use Rattle.vg_model.specs.declared.kinds.Step.{Step}
use Rattle.vg_model.specs.declared.kinds.Step.TheVariants.{Dropped}
use Rattle.vg_model.specs.Graph.{Graph, kind_at}
use Rattle.vg_model.specs.Packet.{Packet}
use Rattle.vg_model.specs.Valid.{IsValid, IsPacket, IsVisitOf}
use Rattle.vg_model.specs.Visit.{Visit}

-- what a set makes of a visit of a node of this kind; none where the kind is left to the other set
abbrev pub OwnVisit : Type 0
OwnVisit = Kind → Graph → Packet → Option (Step × Packet)

-- the visits of a set around those of the other
abbrev pub around : OwnVisit → Visit → Visit
around own inner g n p = unwrap_or (option_and_then (λ kind. own kind g p) (kind_at g n)) (inner g n p)

-- a packet that may be, at a node of this kind
pub record IsVisited (g : Graph) (n : ℕ) (p : Packet) (kind : Kind) : Type 0 where
  pub packet : IsPacket p
  pub node : kind_at g n ≡ Some kind

-- a set's own visits keep the laws of visits
abbrev pub AreLawful : OwnVisit → Type 0
AreLawful own = (g : Graph) (n : ℕ) (p : Packet) (kind : Kind) → IsValid g → IsVisited g n p kind → IfSome (own kind g p) (IsVisitOf g n p)

-- a step that is no drop by congestion
abbrev pub IsUncongested : Step × Packet → Type 0
IsUncongested after = after.0 ≢ Dropped Congestion

-- none of a set's own visits drops a packet by congestion
abbrev pub NeverCongest : OwnVisit → Type 0
NeverCongest own = (kind : Kind) (g : Graph) (p : Packet) → IfSome (own kind g p) IsUncongested
