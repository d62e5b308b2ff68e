-- What is shown of a packet's way.
use Rattle.std.specs.Prelude.{◌≡◌, ℕ, ◌+◌, ◌==◌, nat_lt, List, [], ◌∷◌, ◌++◌, length, map, take, drop, unwrap_or, if◌then◌else◌}
use Rattle.std.specs.List.{position}
use Rattle.vg_model.specs.declared.fates.End.{End}
use Rattle.vg_model.specs.declared.fates.Leg.{Leg}
use Rattle.vg_model.specs.Count.{drop_visit}
use Rattle.vg_model.specs.Graph.{handoff_dequeue}
use Rattle.vg_model.specs.Journey.{longest_packet}
use Rattle.vg_model.specs.Packet.{Packet, fresh}
use Rattle.vg_model.specs.Visit.{Visit}
use Rattle.vg_plan.specs.Plan.{Planned}
use Rattle.vg_story.specs.declared.pieces.Piece.{Piece}
use Rattle.vg_story.specs.declared.pieces.Piece.TheVariants as pieces
use Rattle.vg_story.specs.declared.stages.Stage.{Stage}
use Rattle.vg_story.specs.Visits.{told_visits, after_visits}
use Rattle.vg_ways.specs.Stages.{IsStageOf}
use Rattle.vg_ways.specs.declared.stories.Went.{Went}

-- how many of these visits stand before the first where packets come from other workers
abbrev pub before_dequeue : List ℕ → ℕ
before_dequeue nodes = unwrap_or (position (λ n. n == handoff_dequeue) nodes) (length nodes)

-- how many of these visits are those of the first leg: each later leg begins where packets come from other workers
abbrev pub leg_len : List ℕ → ℕ
leg_len [] = 0
leg_len (node ∷ nodes) = 1 + before_dequeue nodes

-- these pieces show a leg with these visits: its worker and its generation, and the visits of it under that generation
pub record AddsLeg (visit : Visit) (plan : Planned) (workers : ℕ) (leg : Leg) (visits : List ℕ) (before after : Packet) (old new : List Piece) : Type 0 where
  pub stage : Stage
  pub is_stage : IsStageOf plan leg.generation stage
  pub told : new ≡ old ++ (pieces.Leg leg.worker leg.generation ∷ told_visits visit stage workers visits before)
  pub packet : after ≡ after_visits visit stage.fork.graph visits before

-- these pieces show legs with these visits, one after the other
abbrev pub AddsLegs : Visit → Planned → (workers : ℕ) → List Leg → (visits : List ℕ) → Packet → (old new : List Piece) → Type 0
AddsLegs visit plan workers [] visits p old new = new ≡ old
AddsLegs visit plan workers (leg ∷ legs) visits p old new =
    (after : Packet) × (between : List Piece)
    × AddsLeg visit plan workers leg (take (leg_len visits) visits) p after old between
    × AddsLegs visit plan workers legs (drop (leg_len visits) visits) after between new

-- the bytes of a packet that come into buffers: none of one that is too long
abbrev pub received : List ℕ → List ℕ
received bytes = if nat_lt longest_packet (length bytes) then [] else bytes

-- a visit of `error-drop` behind a drop at another node, as reports count it
abbrev pub drop_pieces : End → List Piece
drop_pieces end = map pieces.Visit (drop_visit end)

-- the pieces show the way of a packet that went so: its legs, and the visit of `error-drop` behind a drop at another node
abbrev pub IsStory : Visit → Planned → (workers : ℕ) → Went → List Piece → Type 0
IsStory visit plan workers went told =
    (legs : List Piece) × AddsLegs visit plan workers went.legs.now went.visits.now (fresh went.number (received went.bytes.now)) [] legs
    × (told ≡ legs ++ drop_pieces went.end)
