-- Laws of what is shown of a packet's visits.
use Rattle.std.specs.Prelude.{◌≡◌, ℕ, Bool, true, nat_lt, List, length, slice_index, Some, Contains}
use Rattle.std.specs.List.{list_all}
use Rattle.vg_model.specs.declared.kinds.HashKind.TheVariants.{Flow}
use Rattle.vg_model.specs.declared.kinds.Kind.{Kind}
use Rattle.vg_model.specs.declared.kinds.Step.{Step}
use Rattle.vg_model.specs.declared.routes.RouteTo.TheVariants as routes
use Rattle.vg_model.specs.Graph.{Graph}
use Rattle.vg_model.specs.Hash.{flow_hash}
use Rattle.vg_model.specs.Packet.{Packet}
use Rattle.vg_model.specs.Tag as tags
use Rattle.vg_model.specs.Visit.{forwarded}
use Rattle.vg_story.specs.declared.pieces.Field.{Field}
use Rattle.vg_story.specs.declared.pieces.Piece.{Piece}
use Rattle.vg_story.specs.declared.pieces.Piece.TheVariants as pieces
use Rattle.vg_story.specs.declared.pieces.Value.{Value}
use Rattle.vg_story.specs.declared.pieces.Value.TheVariants as values
use Rattle.vg_story.specs.declared.stages.Stage.{Stage}
use Rattle.vg_story.specs.Changes.{changes}
use Rattle.vg_story.specs.Fields as fields
use Rattle.vg_story.specs.Fronts.{Front, front_of}
use Rattle.vg_story.specs.Reasons.{place, reasons}

-- a field that both frames show, and of which no change is shown, is as it was
abbrev pub UnshownStay : Type 0
UnshownStay =
    (before after : Front) (field : Field) → fields.has_field before field ≡ true → fields.has_field after field ≡ true
    → ((b a : ℕ) → Contains (changes before after) (pieces.Change field b a) → ⊥)
    → fields.number_of before field ≡ fields.number_of after field

-- a value that has a text: a neighbor and an interface are those of the graph
abbrev pub is_there : Graph → Value → Bool
is_there g (values.Neighbor n) = nat_lt n (length g.adjacencies)
is_there g (values.Interface n) = nat_lt n (length g.interfaces)
is_there g other = true

-- a piece whose value has a text
abbrev pub has_text : Graph → Piece → Bool
has_text g (pieces.Because fact) = is_there g fact.value
has_text g other = true

-- each value that is shown of a visit has a text
abbrev pub ShownHaveTexts : Type 0
ShownHaveTexts =
    (stage : Stage) (workers : ℕ) (kind : Kind) (f : Front) (step : Step) (after : Packet)
    → list_all (has_text stage.fork.graph) (reasons stage workers kind f step after) ≡ true

-- the tag that is read in a frame's front is the packet's
abbrev pub ShowTags : Type 0
ShowTags =
    (p : Packet) → (fields.is_tagged (front_of p) ≡ tags.is_tagged p) × (tags.is_tagged p ≡ true → fields.vlan (front_of p) ≡ tags.vlan_id p)

-- the hash that is shown is the packet's
abbrev pub ShowHashes : Type 0
ShowHashes = (p : Packet) → flow_hash Flow (front_of p).bytes ≡ flow_hash Flow p.bytes

-- of several neighbors a packet goes to the one at the place that is shown
abbrev pub ShowPlaces : Type 0
ShowPlaces =
    (members : List ℕ) (hash : ℕ) (p : Packet)
    → (forwarded (Some (routes.Via members)) hash p).1.adjacency ≡ Some (slice_index members (place (length members) hash))
