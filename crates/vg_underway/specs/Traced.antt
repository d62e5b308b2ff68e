-- Which visits of the packets under way are noted, and which are still to come.
use Rattle.std.specs.Prelude.{Bool, true, false, ◌≡◌, ◌≢◌, ℕ, zero, suc, ◌-◌, ◌<◌, ◌==◌, ◌&&◌, List, [], ◌∷◌, ◌++◌, length, Option, None, Some, option_map, unwrap_or, flat_map, slice_index_or, if◌then◌else◌}
use Rattle.std.specs.List.{AllByRecursion, sum_by}
use Rattle.vg_model.specs.declared.kinds.Step.{Step}
use Rattle.vg_model.specs.declared.fates.End.{End}
use Rattle.vg_model.specs.declared.fates.End.TheVariants as ends
use Rattle.vg_model.specs.Graph.{error_drop}
use Rattle.vg_model.specs.Leg.{Move, Onward, Over}
use Rattle.vg_pool.specs.Contents.{Contents}
use Rattle.vg_frame.specs.Pending.{pending_at}
use Rattle.vg_frame.specs.Placed.{IsLive}
use Rattle.vg_counters.specs.Notes.{Notes, nodes_of, noted, most_noted, count_of_legs}
use Rattle.vg_underway.specs.declared.underway.Work.{Work}
use Rattle.vg_journeys.specs.Ended.{drop_visits, counted_visits}
use Rattle.vg_journeys.specs.Trips.{Arrival, number_of, legs_before}
use Rattle.vg_journeys.specs.Turns.{Settled, arrival_is_of, settled_noted}
use Rattle.vg_underway.specs.Underway.{Setting, leg_of, arrival_way, moved, contents_at}
use Rattle.vg_underway.specs.Places.{same_one}

-- the place of the leg under way among the packet's legs, counted from 0
abbrev pub leg_place : Contents → ℕ
leg_place c = length c.legs - 1

-- the nodes noted for a packet in its leg
abbrev pub nodes_noted : Notes → Contents → List ℕ
nodes_noted notes c = nodes_of c.packet.number (leg_place c) notes

-- the nodes that a packet visits from a node on, with `error-drop` behind them where another node drops it
abbrev pub visits_to_come : Setting → ℕ → Contents → List ℕ
visits_to_come s node c = unwrap_or (option_map counted_visits (leg_of s node c)) []

-- the nodes that a packet still visits after a step
abbrev pub visits_after : Setting → Contents → Move → List ℕ
visits_after s c (Onward (Some to)) = visits_to_come s to c
visits_after s c (Onward None) = []
visits_after s c (Over outcome) = drop_visits outcome

-- what is noted for this number and leg of a packet that comes, once its leg is over
abbrev pub arrival_nodes : Setting → Arrival → List ℕ
arrival_nodes s e = unwrap_or (option_map counted_visits (arrival_way s e)) []

abbrev pub arrival_notes : Setting → (number leg : ℕ) → Arrival → List ℕ
arrival_notes s number leg e = if number_of e == number && length (legs_before e) == leg then arrival_nodes s e else []

-- by number and leg: what was noted before, and all visits of the packets that came since
abbrev pub all_visits : Setting → Notes → List Arrival → (number leg : ℕ) → List ℕ
all_visits s before arrivals number leg = nodes_of number leg before ++ flat_map (arrival_notes s number leg) arrivals

-- by number and leg: all nodes that are to be noted, and whether they are spoken of
pub record Sight : Type 0 where
  pub nodes : ℕ → ℕ → List ℕ
  pub of : ℕ → ℕ → Bool

-- so many packets with so much noted before them: none, or one with nothing before it
abbrev pub is_once : (packets before : ℕ) → Bool
is_once zero before = true
is_once (suc zero) zero = true
is_once (suc zero) (suc before) = false
is_once (suc (suc packets)) before = false

-- what was noted before and is to be noted of the packets that came so far; spoken of are a number and a leg that at most one of all
-- that come has, and for which nothing was noted before it
abbrev pub seen : Setting → Notes → (all so_far : List Arrival) → Sight
seen s before all so_far = record {
  nodes = all_visits s before so_far;
  of = λ number leg. is_once (sum_by (arrival_is_of number leg) all) (length (nodes_of number leg before));
}

-- and the visits that refusals bring
abbrev pub with_refusals : List Settled → Sight → Sight
with_refusals settled whole = record { nodes = λ number leg. whole.nodes number leg ++ flat_map (settled_noted number leg) settled; of = whole.of }

-- the packet is spoken of
abbrev pub IsSeen : Sight → Contents → Type 0
IsSeen whole c = whole.of c.packet.number (leg_place c) ≡ true

-- what is noted of a packet and what is still to come is `whole`, which there is room for, where its number is among those traced
abbrev pub IsOnWay : Sight → Notes → Contents → List ℕ → Type 0
IsOnWay whole notes c to_come = c.packet.number < length notes → IsSeen whole c
    → (nodes_noted notes c ++ to_come ≡ whole.nodes c.packet.number (leg_place c)) × (length (whole.nodes c.packet.number (leg_place c)) < most_noted)

-- there is a list for each leg of each packet
abbrev pub IsNotes : Notes → Type 0
IsNotes notes = (number : ℕ) → number < length notes → length (slice_index_or notes number []) ≡ count_of_legs

-- of so many traced packets: each that is under way, and each whose leg is over, by number and leg
pub record IsTraced (s : Setting) (whole : Sight) (packets : ℕ) (node : ℕ) (w : Work) (hand : List (ℕ × Step)) : Type 0 where
  pub size : length w.trace ≡ packets
  pub is_notes : IsNotes w.trace
  -- no two packets under way have one number and one leg
  pub apart : (i j : ℕ) → IsLive w.memory i → IsLive w.memory j → IsSeen whole (contents_at w.memory i) → (contents_at w.memory i).packet.number ≡ (contents_at w.memory j).packet.number
      → leg_place (contents_at w.memory i) ≡ leg_place (contents_at w.memory j) → i ≡ j
  -- those that wait for a node
  pub wait : (n i : ℕ) → 0 < sum_by (same_one i) (pending_at w.pending n)
      → IsOnWay whole w.trace (contents_at w.memory i) (visits_to_come s n (contents_at w.memory i))
  -- those in hand after a visit
  pub in_hand : AllByRecursion (λ (p : ℕ × Step). IsOnWay whole w.trace (contents_at w.memory p.0)
      (visits_after s (contents_at w.memory p.0) (moved s node (contents_at w.memory p.0) p.1))) hand
  -- all that is noted of those which aren't under way
  pub over : (number leg : ℕ) → number < packets → whole.of number leg ≡ true
      → ((i : ℕ) → IsLive w.memory i → (contents_at w.memory i).packet.number ≡ number → leg_place (contents_at w.memory i) ≢ leg)
      → nodes_of number leg w.trace ≡ whole.nodes number leg

-- from one moment to another packets stay traced
abbrev pub StayTraced : Setting → (node : ℕ) (settled : List Settled) (old : Work) (old_hand : List (ℕ × Step)) (new : Work) (new_hand : List (ℕ × Step)) → Type 0
StayTraced s node settled old old_hand new new_hand =
    (whole : Sight) (packets : ℕ) → IsTraced s whole packets node old old_hand → IsTraced s (with_refusals settled whole) packets node new new_hand

-- the notes with the visit of `error-drop` that a drop at another node brings, for a number and a leg, which is counted from 0
abbrev pub noted_end : (number leg : ℕ) → End → Notes → Notes
noted_end number leg (ends.Tx interface) notes = notes
noted_end number leg (ends.Dropped node error) notes = if node == error_drop then notes else noted number leg error_drop notes

-- the notes with a visit of a node more for each index of a frame
abbrev pub noted_frame : List (Option Contents) → ℕ → List ℕ → Notes → Notes
noted_frame memory node [] notes = notes
noted_frame memory node (i ∷ frame) notes =
    noted_frame memory node frame (noted (contents_at memory i).packet.number (leg_place (contents_at memory i)) node notes)
