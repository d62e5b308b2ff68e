-- What contracts see of the handoff to another worker, and what a worker does with it in a round.
use Rattle.std.specs.Prelude.{Bool, true, false, ◌≡◌, ◌⊎◌, ℕ, ◌+◌, ◌*◌, ◌==◌, ◌≤◌, List, [], ◌∷◌, ◌++◌, length, map, Option, Some, None, is_some, slice_index_or, if◌then◌else◌}
use Rattle.std.specs.List.{sum_by}
use Rattle.vg_model.specs.declared.fates.Fate.{Fate}
use Rattle.vg_steps.specs.Trails.{found}
use Rattle.vg_steps.specs.declared.notes.Found.{Found}
use Rattle.vg_ring.specs.declared.ends.RingTx.{RingTx}
use Rattle.vg_ring.specs.Ends.{head_seen, tx_trail}
use Rattle.vg_ring.specs.WordPlaces.{head_word, tail_word}
use Rattle.vg_model.specs.Leg as legs
use Rattle.vg_pool.specs.Contents.{Contents}
use Rattle.vg_hands.specs.Handed.{IsHandFrame}
use Rattle.vg_journeys.specs.Accounts.{HandoffFrame, frames_with, below}
use Rattle.vg_journeys.specs.Turns.{Settled}
use Rattle.vg_underway.specs.declared.stations.Station.{Station}
use Rattle.vg_underway.specs.Peers.{by_worker}
use Rattle.vg_underway.specs.Hands.{refusal}

-- a handoff beside the frames that it has accepted: the head that the end of its ring has seen last, and what each step of this end found,
-- the latest first; the frames that it has refused, oldest first; how many frames it holds that aren't in its ring yet; for how many
-- packets it has room; and whether its gate is closed, where it is to have room for all that a round may bring
pub record Outlet : Type 0 where
  pub head : ℕ
  pub trail : List Found
  pub refused : List HandoffFrame
  pub held : ℕ
  pub room : ℕ
  pub closed : Bool

abbrev pub outlet_of : {X : Type 0} → (X → RingTx HandoffFrame) → (X → List HandoffFrame) → (X → ℕ) → (X → ℕ) → (X → ℕ → Bool) → (most : ℕ) → X → Outlet
outlet_of end refused held room closes most x =
    record { head = head_seen (end x); trail = tx_trail (end x); refused = refused x; held = held x; room = room x; closed = closes x most }

-- how many packets a round of one of so many workers may bring
abbrev pub most_in_round : ℕ → ℕ
most_in_round workers = 256 * workers

-- where there is none: the worker's own
abbrev pub no_outlet : Outlet
no_outlet = record { head = 0; trail = []; refused = []; held = 0; room = 0; closed = false }

abbrev pub outlet_with : ℕ → List Outlet → Outlet
outlet_with to outlets = slice_index_or outlets to no_outlet

-- a handoff's end made some steps, or none
abbrev pub GoesOn : (before after : Outlet) → Type 0
GoesOn before after = (steps : List Found) × (after.trail ≡ steps ++ before.trail)

-- The last of these steps loaded the ring's head, and found as many frames put and not taken as the ring has slots: of the frames that the
-- handoff has accepted all are put but those that it holds.
pub record EndsFull (slots : ℕ) (put : List HandoffFrame) (before after : Outlet) : Type 0 where
  pub earlier : List Found
  pub read : after.trail ≡ found head_word after.head ∷ (earlier ++ before.trail)
  pub full : after.head + slots + after.held ≡ length put

-- A tick: behind it the handoff holds nothing, or the tick's last step found the ring full. It takes no room, closes no gate and refuses
-- nothing, and where the handoff may refuse frames, nothing happens at its ring.
pub record IsTicked (slots : ℕ) (lossless : Bool) (put : List HandoffFrame) (before after : Outlet) : Type 0 where
  pub head_rises : before.head ≤ after.head
  pub still : lossless ≡ false → (after.head ≡ before.head) × (after.trail ≡ before.trail)
  pub steps : GoesOn before after
  pub refused : after.refused ≡ before.refused
  pub fewer : after.held ≤ before.held
  pub ends : (after.held ≡ 0) ⊎ EndsFull slots put before after
  pub room : before.room ≤ after.room
  pub gate : after.closed ≡ true → before.closed ≡ true

-- all handoffs tick
abbrev pub AreTicked : {X : Type 0} → (slots : X → ℕ) (lossless : Bool) (accepted : X → List HandoffFrame) (outlet : X → Outlet) → List X → List X → Type 0
AreTicked slots lossless accepted outlet [] [] = Unit {0}
AreTicked slots lossless accepted outlet [] (n ∷ ns) = ⊥
AreTicked slots lossless accepted outlet (o ∷ os) [] = ⊥
AreTicked slots lossless accepted outlet (o ∷ os) (n ∷ ns) =
    IsTicked (slots o) lossless (accepted o) (outlet o) (outlet n) × AreTicked slots lossless accepted outlet os ns

-- a push of a frame: it was accepted, or it came back, with the number of the frames that the handoff had accepted
pub data Push : Type 0 where
  Accepted : HandoffFrame → Push
  CameBack : HandoffFrame → ℕ → Push

-- A frame was accepted, and stands behind these. Where the handoff may refuse frames, the push made two steps, of which the second left
-- the number of frames accepted in the ring's tail. It lets no frame go on that is held.
pub record IsAccepted (lossless : Bool) (put : List HandoffFrame) (before : Outlet) (frame : HandoffFrame) (after : Outlet) : Type 0 where
  pub kept : IsHandFrame frame
  pub head_rises : before.head ≤ after.head
  pub written : lossless ≡ false → (first : Found) × (after.trail ≡ found tail_word (length put + 1) ∷ first ∷ before.trail)
  pub steps : GoesOn before after
  pub refused : after.refused ≡ before.refused
  pub held : (before.held ≤ after.held) × (after.held ≤ before.held + 1)
  pub room : (after.room ≤ before.room) × (before.room ≤ after.room + length frame.packets)
  pub gate : before.closed ≡ true → after.closed ≡ true

-- This frame was offered and came back: it is the last of those that the handoff has refused. The push made one step, which loaded the
-- ring's head: it was the number of frames accepted less that of the slots, and no smaller than any that was seen before.
pub record IsRefused (slots : ℕ) (lossless : Bool) (put : List HandoffFrame) (before : Outlet) (frame : HandoffFrame) (count : ℕ) (after : Outlet) : Type 0 where
  pub kept : IsHandFrame frame
  pub lossy : lossless ≡ false
  pub refused : after.refused ≡ before.refused ++ frame ∷ []
  pub count_is : count ≡ length put
  pub full : after.head + slots ≡ count
  pub read : after.trail ≡ found head_word after.head ∷ before.trail
  pub head_rises : before.head ≤ after.head
  pub held : after.held ≡ before.held
  pub room : after.room ≡ before.room
  pub gate : before.closed ≡ true → after.closed ≡ true

-- these pushes, one after the other, and no other step at the ring
abbrev pub ArePushes : (slots : ℕ) (lossless : Bool) (put : List HandoffFrame) (before : Outlet) → List Push → (new_put : List HandoffFrame) (after : Outlet) → Type 0
ArePushes slots lossless put before [] new_put after = (new_put ≡ put) × (after ≡ before)
ArePushes slots lossless put before (Accepted frame ∷ pushes) new_put after =
    (next : Outlet) × IsAccepted lossless put before frame next × ArePushes slots lossless (put ++ frame ∷ []) next pushes new_put after
ArePushes slots lossless put before (CameBack frame count ∷ pushes) new_put after =
    (next : Outlet) × IsRefused slots lossless put before frame count next × ArePushes slots lossless put next pushes new_put after

-- what is logged of the packets of a frame that came back: that they were dropped, with the count that came back
abbrev pub dropped_by : Push → List Fate
dropped_by (Accepted frame) = []
dropped_by (CameBack frame count) = map (refusal frame.node count) frame.packets

-- fates with a count, by any way of counting
abbrev pub if_congested : (Fate → ℕ) → Fate → ℕ
if_congested count fate = if is_some fate.congested then count fate else 0

-- what is logged of a packet whose way ends at the queue to this worker, which refused it, by any way of counting
abbrev pub refused_at : (count : Fate → ℕ) (to : ℕ) → Contents → legs.Outcome → Option ℕ → ℕ
refused_at count to c (legs.Handed node worker) (Some accepted) = if worker == to then count (refusal node accepted c) else 0
refused_at count to c (legs.Handed node worker) None = 0
refused_at count to c (legs.Sent interface) refused = 0
refused_at count to c (legs.Dropped node error) refused = 0

abbrev pub settled_refused_at : (count : Fate → ℕ) (to : ℕ) → Settled → ℕ
settled_refused_at count to x = refused_at count to x.ended.contents x.ended.outcome x.refused

-- pushes, by any way of counting what is logged by them
abbrev pub dropped_in : (Fate → ℕ) → List Push → ℕ
dropped_in count pushes = sum_by (λ push. sum_by count (dropped_by push)) pushes

-- pushes to so many workers, by any way of counting what is logged by them
abbrev pub dropped_in_all : (Fate → ℕ) → (workers : ℕ) → (ℕ → List Push) → ℕ
dropped_in_all count workers pushes = sum_by (λ to. dropped_in count (pushes to)) (below workers)

-- what one stretch of a round pushed, by the worker to which: what was accepted before and after it, the handoffs, the log, and the packets
-- that were settled. The fates with a count are those of the frames that came back, and of the packets whose ways end at the queue to a
-- worker just those of the frames that came back from it.
pub record PushesFrames (workers slots : ℕ) (lossless : Bool) (put : List (List HandoffFrame)) (outlets : List Outlet) (log : List Fate)
    (new_put : List (List HandoffFrame)) (new_outlets : List Outlet) (new_log : List Fate) (settled : List Settled) : Type 0 where
  pub pushes : ℕ → List Push
  pub made : (to : ℕ) → ArePushes slots lossless (frames_with to put) (outlet_with to outlets) (pushes to) (frames_with to new_put) (outlet_with to new_outlets)
  pub dropped : (count : Fate → ℕ) → sum_by (if_congested count) log + dropped_in_all count workers pushes ≡ sum_by (if_congested count) new_log
  pub refused : (to : ℕ) (count : Fate → ℕ) → sum_by (settled_refused_at count to) settled ≡ dropped_in count (pushes to)

-- and by the handoffs to the other workers, in their order
abbrev pub PushesOver : {X : Type 0} → Station → (lossless : Bool) → (accepted : X → List HandoffFrame) → (outlet : X → Outlet) → List X → List Fate → List X → List Fate → List Settled → Type 0
PushesOver station lossless accepted outlet outputs log new_outputs new_log settled = PushesFrames station.workers station.slots lossless
    (by_worker station.worker [] (map accepted outputs)) (by_worker station.worker no_outlet (map outlet outputs)) log
    (by_worker station.worker [] (map accepted new_outputs)) (by_worker station.worker no_outlet (map outlet new_outputs)) new_log settled
