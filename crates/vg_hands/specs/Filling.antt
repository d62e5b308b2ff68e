-- Handoffs and the rings that they fill.
use Rattle.std.specs.Prelude.{◌≡◌, ℕ, ◌+◌, List, ◌++◌, length}
use Rattle.vg_steps.specs.Seated.{TableId}
use Rattle.vg_steps.specs.declared.notes.Found.{Found}
use Rattle.vg_ring.specs.declared.ends.RingTx.{RingTx}
use Rattle.vg_ring.specs.Ends.{put, head_seen, tx_ring, tx_slots, tx_trail, IsSameTx, ReadsHead, HeadFits}

module _ {T : Type 0} where
  -- a handoff that fills this ring, with so many slots, by this end: what it has accepted is, in order, what the end has put in the ring,
  -- and then what the handoff still holds
  pub record Fills (end : RingTx T) (ring : TableId) (slots : ℕ) (accepted : List T) (waiting : ℕ) : Type 0 where
    pub ring_is : ring ≡ tx_ring end
    pub slots_are : slots ≡ tx_slots end
    pub held : List T
    pub in_order : accepted ≡ put end ++ held
    pub count : waiting ≡ length held

  -- this end made some steps, or none, between these two moments
  abbrev pub GoesOn : (before after : RingTx T) → Type 0
  GoesOn before after = (steps : List Found) × (tx_trail after ≡ steps ++ tx_trail before)

  -- The last step that the end made between these two moments loaded the head, and as many items as the ring has slots were put and not
  -- taken; the head is no smaller than any that the end loaded or learnt before.
  pub record EndsFull (before after : RingTx T) : Type 0 where
    pub last : RingTx T
    pub same : IsSameTx before last
    pub earlier : GoesOn before last
    pub put_is : put after ≡ put last
    pub read : ReadsHead last (head_seen after) after
    pub by_the_head : head_seen after + tx_slots after ≡ length (put after)
    pub rule : HeadFits last (head_seen after)
