-- For `push` of a ring as a handoff, clause `steps`: a push makes one step, or two.
use Rattle.std.proofs.Common.{[], ◌∷◌, length}
use Rattle.std.specs.Prelude.{Result, Ok, Err, OnErr, OnOk}
use Rattle.vg_steps.specs.Trails.{found}
use Rattle.vg_ring.specs.declared.ends.Full.{Full}
use Rattle.vg_ring.specs.declared.ends.RingTx.{RingTx}
use Rattle.vg_ring.specs.Ends.{put, head_seen, ReadsHead, WritesTail}
use Rattle.vg_ring.specs.WordPlaces.{head_word, tail_word}
use Rattle.vg_hands.specs.Filling.{GoesOn}

pub push_steps : {T : Type 0} (before after : RingTx T) (result : Result (Unit {0}) (Full T)) → OnErr result (ReadsHead before (head_seen after) after)
    → OnOk result (WritesTail before (length (put after)) after) → GoesOn before after
push_steps before after (Ok _) read written = (found tail_word (length (put after)) ∷ written.0 ∷ [], written.1)
push_steps before after (Err full) read written = (found head_word (head_seen after) ∷ [], read)
