use denote.Param.Send.{sendable}
use Rattle.vg_backlog.proofs.SendLemmas.{backlog_send}
use Rattle.vg_queue_tests.proofs.backlog.start.Goals as goal

pub sent-backlog-requires-send-T : goal.sent-backlog-requires-send-T
sent-backlog-requires-send-T g c κs = search (backlog_send, sendable) depth 20
