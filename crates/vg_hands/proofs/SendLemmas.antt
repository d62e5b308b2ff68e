-- For `start` of vg_threads, and for backlogs (vg_backlog): frames that are handed over may go to another thread.
use denote.Param.Send.{IsSend, sendable}
use Rattle.std.proofs.Crossing
use Rattle.vg_hands.specs.contracts.hand_frames.HandFrame as HandFrame
use Rattle.vg_pool.proofs.SendLemmas.{stack_send}

pub frame_send : IsSend HandFrame.the_row
frame_send = search (stack_send, Crossing.crosses, sendable) depth 60 fits 20000
