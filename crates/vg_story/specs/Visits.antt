-- What is shown of a packet's visits.
use Rattle.std.specs.Prelude.{ℕ, List, [], ◌∷◌, ◌++◌, Option, Some, None}
use Rattle.vg_model.specs.declared.kinds.Kind.{Kind}
use Rattle.vg_model.specs.declared.kinds.Kind.TheVariants as kinds
use Rattle.vg_model.specs.declared.kinds.Step.{Step}
use Rattle.vg_model.specs.Graph.{Graph, kind_at}
use Rattle.vg_model.specs.Packet.{Packet}
use Rattle.vg_model.specs.Visit.{Visit}
use Rattle.vg_story.specs.declared.pieces.Piece.{Piece}
use Rattle.vg_story.specs.declared.pieces.Piece.TheVariants as pieces
use Rattle.vg_story.specs.declared.stages.Stage.{Stage}
use Rattle.vg_story.specs.Fronts.{front_of}
use Rattle.vg_story.specs.Changes.{changes}
use Rattle.vg_story.specs.Reasons.{reasons}

-- the kind by which a packet is visited: none where no arc may lead, since packets come in there
abbrev pub visited_kind : Option Kind → Option Kind
visited_kind None = None
visited_kind (Some kinds.PgInput) = None
visited_kind (Some kinds.HandoffDequeue) = None
visited_kind (Some kind) = Some kind

-- the packet after a visit
abbrev pub after_by : Visit → Graph → ℕ → Packet → Option Kind → Packet
after_by visit g node p None = p
after_by visit g node p (Some kind) = (visit g node p).1

abbrev pub after_visit : Visit → Graph → ℕ → Packet → Packet
after_visit visit g node p = after_by visit g node p (visited_kind (kind_at g node))

-- the packet after visits of these nodes
abbrev pub after_visits : Visit → Graph → List ℕ → Packet → Packet
after_visits visit g [] p = p
after_visits visit g (node ∷ nodes) p = after_visits visit g nodes (after_visit visit g node p)

-- what is shown of a visit by a kind: what it decided by, and what it changed
abbrev pub told_by : Stage → (workers : ℕ) → Packet → Step × Packet → Option Kind → List Piece
told_by stage workers p after None = []
told_by stage workers p after (Some kind) = reasons stage workers kind (front_of p) after.0 after.1 ++ changes (front_of p) (front_of after.1)

-- what is shown of a visit of a node
abbrev pub told_visit : Visit → Stage → (workers node : ℕ) → Packet → List Piece
told_visit visit stage workers node p =
    pieces.Visit node ∷ told_by stage workers p (visit stage.fork.graph node p) (visited_kind (kind_at stage.fork.graph node))

-- what is shown of visits of these nodes, one after the other
abbrev pub told_visits : Visit → Stage → (workers : ℕ) → List ℕ → Packet → List Piece
told_visits visit stage workers [] p = []
told_visits visit stage workers (node ∷ nodes) p =
    told_visit visit stage workers node p ++ told_visits visit stage workers nodes (after_visit visit stage.fork.graph node p)
