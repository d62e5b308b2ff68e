-- What contracts see of a backlog.
use Rattle.std.specs.Prelude.{Bool, ◌||◌, nat_le, nat_lt, ◌≡◌, ◌⊎◌, ℕ, ◌+◌, ◌-◌, ◌≤◌, List, [], ◌∷◌, ◌++◌, length, sum_by}
use Rattle.vg_ring.specs.declared.ends.RingTx.{RingTx}
use Rattle.vg_ring.specs.Ends.{put, head_seen, tx_slots, IsSameTx, ReadsHead, WritesTail, HeadFits}
use Rattle.vg_journeys.specs.Accounts.{HandoffFrame}

-- the end of its ring; the frames that it holds, oldest first; from how many held frames on its gate is closed; and for how many packets
-- it has room in all
pub record BacklogBook : Type 0 where
  pub end : RingTx HandoffFrame
  pub held : List HandoffFrame
  pub slots : ℕ
  pub room : ℕ

-- one that holds no frame, behind this end
abbrev pub empty_behind : (slots room : ℕ) → RingTx HandoffFrame → BacklogBook
empty_behind slots room end = record { end = end; held = []; slots = slots; room = room }

-- what it has accepted, in order: the frames that the ring was given, and behind them those that are held
abbrev pub accepted_by : BacklogBook → List HandoffFrame
accepted_by b = put b.end ++ b.held

-- how many packets frames have
abbrev pub packets_in : List HandoffFrame → ℕ
packets_in frames = sum_by (λ (frame : HandoffFrame). length frame.packets) frames

-- for how many more packets it has room
abbrev pub room_of : BacklogBook → ℕ
room_of b = b.room - packets_in b.held

-- whether its gate is closed to so many packets: as many frames are held as close it, or they don't fit
abbrev pub is_closed : BacklogBook → ℕ → Bool
is_closed b packets = nat_le b.slots (length b.held) || nat_lt (room_of b) packets

-- the end's push of this item was Ok
pub record Accepts (item : HandoffFrame) (before after : RingTx HandoffFrame) : Type 0 where
  pub same : IsSameTx before after
  pub put_is : put after ≡ put before ++ item ∷ []
  pub written : WritesTail before (length (put after)) after
  pub rises : head_seen before ≤ head_seen after

-- the end's push was Full: its one step found the head, and as many items as the ring has slots were put and not taken
pub record Refuses (before after : RingTx HandoffFrame) : Type 0 where
  pub same : IsSameTx before after
  pub put_is : put after ≡ put before
  pub read : ReadsHead before (head_seen after) after
  pub by_the_head : head_seen after + tx_slots before ≡ length (put before)
  pub rule : HeadFits before (head_seen after)
  pub rises : head_seen before ≤ head_seen after

-- frames were pushed one behind the other, until one was refused or none was left
abbrev pub Advances : (before : RingTx HandoffFrame) (held : List HandoffFrame) (after : RingTx HandoffFrame) (left : List HandoffFrame) → Type 0
Advances before [] after left = (after ≡ before) × (left ≡ [])
Advances before (frame ∷ frames) after left =
    ((between : RingTx HandoffFrame) × Accepts frame before between × Advances between frames after left)
    ⊎ (Refuses before after × (left ≡ frame ∷ frames))
