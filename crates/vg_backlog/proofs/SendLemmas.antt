-- For `run_workers` of vg_top, where `run_linked` requires it: a backlog may go to another thread.
use denote.Param.Send.{IsSend, AllSend, view_send, recorded_send, struct_send, sendable}
use denote.Struct.Declared as Declared
use Rattle.std.proofs.Crossing
use Rattle.std.proofs.option.Option.TheSendSync as option
use Rattle.vg_backlog.proofs.waiting.Head.TheSendSync as head
use Rattle.vg_backlog.specs.contracts.backlogs.Backlog as Backlog
use Rattle.vg_backlog.specs.contracts.backlogs.Backlog.TheInside as backlog
use Rattle.vg_backlog.specs.contracts.waiting.Waiting as Waiting
use Rattle.vg_backlog.specs.contracts.waiting.Waiting.TheInside as waiting
use Rattle.vg_hands.proofs.SendLemmas.{frame_send}
use Rattle.vg_hands.specs.contracts.hand_frames.HandFrame as HandFrame
use Rattle.vg_pool.proofs.SendLemmas.{buffer_send}
use Rattle.vg_ring.proofs.ends.RingTx.TheSendSync as ring_tx
use Rattle.vg_ring.specs.contracts.ends.RingTx as RingTx

pub tx_send : IsSend (RingTx.the_row HandFrame.the_row)
tx_send = search (ring_tx.the_send, frame_send, Crossing.crosses, sendable) depth 60 fits 20000

pub waiting_send : IsSend Waiting.the_row
waiting_send =
    let fields : AllSend (Declared.shape waiting.the_type).fields =
    (Crossing.Deque-send _ (search (head.the_send, sendable)), (Crossing.Deque-send _ buffer_send, tt)) in
    let shaped : IsSend waiting.the_row = recorded_send (Declared.field waiting.the_type).row (Declared.field waiting.the_type).Value
    (Declared.field waiting.the_type).into (Declared.field waiting.the_type).into_one (struct_send (Declared.shape waiting.the_type) fields) in
    view_send _ _ _ _ _ shaped

pub backlog_send : IsSend Backlog.the_row
backlog_send =
    let fields : AllSend (Declared.shape backlog.the_type).fields =
    (search (ring_tx.the_field_send, ring_tx.the_send, frame_send, Crossing.crosses, sendable) depth 60 fits 20000, (option.the_field_send HandFrame.the_row frame_send, (waiting_send, (search sendable, (search sendable, tt))))) in
    let shaped : IsSend backlog.the_row = recorded_send (Declared.field backlog.the_type).row (Declared.field backlog.the_type).Value
    (Declared.field backlog.the_type).into (Declared.field backlog.the_type).into_one (struct_send (Declared.shape backlog.the_type) fields) in
    view_send _ _ _ _ _ shaped
