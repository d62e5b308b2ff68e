-- Which packets came in another order than that of their flow.
use Rattle.std.specs.Prelude.{◌≡◌, ℕ, suc, Bool, ◌&&◌, ◌==◌, nat_lt, bytes_eq, List, [], ◌∷◌, map, if◌then◌else◌}
use Rattle.std.specs.Borrow.{Bor}
use Rattle.std.specs.Cmp.Lexicographic.{slice_cmp}
use Rattle.std.specs.Ordering.{nat_cmp, ordering_then}
use Rattle.std.specs.declared.cmp.Ordering.{Ordering}
use Rattle.std.specs.List.Sorted.{IsPermutation, IsSorted}
use Rattle.vg_match.specs.declared.keys.Likeness.TheVariants.{Flow}
use Rattle.vg_match.specs.Keys.{joined, parts_of}
use Rattle.vg_match.specs.Frames.{layout_of}
use Rattle.vg_match.specs.Hashes.{hash_of}
use Rattle.vg_match.specs.Sides.{seen}
use Rattle.vg_diff.specs.declared.orders.Turn.{Turn}
use Rattle.vg_diff.specs.declared.flows.FlowTurn.{FlowTurn}
use Rattle.vg_diff.specs.Lines.{number_at, frame_at, file_of}

-- a packet that came: the savefile that it stands in, the hash of its flow, its flow, and its numbers among those that came and those that
-- were wanted
pub record Coming : Type 0 where
  pub file : ℕ
  pub hash : ℕ
  pub flow : List ℕ
  pub got : ℕ
  pub wanted : ℕ

-- what the frames of a flow have in common: addresses, protocol and ports
unfoldable pub flow_of : List ℕ → List ℕ
flow_of frame = joined (parts_of Flow (layout_of frame)) frame

-- the hash of a frame's flow
abbrev pub flow_hash : List ℕ → ℕ
flow_hash frame = hash_of (flow_of frame)

-- these are the hashes of the frames' flows, in the order of the frames
abbrev pub AreFlowHashes : (frames : List (Bor (List ℕ))) → List ℕ → Type 0
AreFlowHashes frames hashes = hashes ≡ map flow_hash (seen frames)

-- the packet of a pair
abbrev pub coming_of : (frames : List (Bor (List ℕ))) → (starts : List ℕ) → ℕ × ℕ → Coming
coming_of frames starts pair =
    let flow = flow_of (frame_at frames pair.0) in record { file = file_of starts pair.1; hash = hash_of flow; flow = flow; got = pair.1; wanted = pair.0 }

-- the same, as the code has it with its flow
abbrev pub coming_with : FlowTurn → Coming
coming_with turn = record { file = turn.file; hash = turn.hash; flow = turn.flow.items; got = turn.got; wanted = turn.wanted }

-- the same, as the code has it without: the flow is that of the frame
abbrev pub coming : (frames : List (Bor (List ℕ))) → Turn → Coming
coming frames turn =
    record { file = turn.file; hash = turn.hash; flow = flow_of (frame_at frames turn.wanted); got = turn.got; wanted = turn.wanted }

-- the packet of a pair, as the code has it without its flow: the hash stands among those of the flows of all frames
abbrev pub turn_of : (hashes starts : List ℕ) → ℕ × ℕ → Turn
turn_of hashes starts pair = record { file = file_of starts pair.1; hash = number_at hashes pair.0; got = pair.1; wanted = pair.0 }

-- the hash is that of the flow
abbrev pub IsHashed : (frames : List (Bor (List ℕ))) → Turn → Type 0
IsHashed frames turn = turn.hash ≡ hash_of (flow_of (frame_at frames turn.wanted))

-- where both are of one savefile and one hash, they are of one flow
abbrev pub AreTold : (frames : List (Bor (List ℕ))) → Turn → Turn → Type 0
AreTold frames one other = one.file ≡ other.file → one.hash ≡ other.hash → flow_of (frame_at frames one.wanted) ≡ flow_of (frame_at frames other.wanted)

-- so of each and the next, the one before them among these
abbrev pub AreToldBehind : (frames : List (Bor (List ℕ))) → Turn → List Turn → Type 0
AreToldBehind frames before [] = Unit {0}
AreToldBehind frames before (next ∷ others) = AreTold frames before next × AreToldBehind frames next others

abbrev pub AreAllTold : (frames : List (Bor (List ℕ))) → List Turn → Type 0
AreAllTold frames [] = Unit {0}
AreAllTold frames (first ∷ others) = AreToldBehind frames first others

-- by savefile, then by flow, these by their hashes first, then as they came
abbrev pub coming_cmp : Coming → Coming → Ordering
coming_cmp one other =
    ordering_then (nat_cmp one.file other.file)
    (ordering_then (nat_cmp one.hash other.hash)
    (ordering_then (slice_cmp nat_cmp one.flow other.flow) (ordering_then (nat_cmp one.got other.got) (nat_cmp one.wanted other.wanted))))

-- both are of one savefile and one flow
abbrev pub is_one_flow : Coming → Coming → Bool
is_one_flow one other = one.file == other.file && bytes_eq one.flow other.flow

-- how many of these come behind one of the same savefile and flow that had to come later; the one before them, and the latest of its flow so
-- far
abbrev pub late_behind : Coming → (latest : ℕ) → List Coming → ℕ
late_behind before latest [] = 0
late_behind before latest (next ∷ others) =
    if is_one_flow before next && nat_lt next.wanted latest then suc (late_behind next latest others) else late_behind next next.wanted others

abbrev pub late : List Coming → ℕ
late [] = 0
late (first ∷ others) = late_behind first first.wanted others

-- so many of these pairs stand the other way round within their flow: in the order of savefile, flow and coming, each of them is behind one
-- that had to come later
pub record AreReordered (frames : List (Bor (List ℕ))) (starts : List ℕ) (pairs : List (ℕ × ℕ)) (count : ℕ) : Type 0 where
  pub all : List Coming
  pub each : IsPermutation (map (coming_of frames starts) pairs) all
  pub rise : IsSorted coming_cmp all
  pub is : count ≡ late all
