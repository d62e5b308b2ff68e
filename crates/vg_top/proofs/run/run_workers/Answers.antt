use denote.Param.Send.{sendable}
use Rattle.vg_backlog.proofs.SendLemmas.{backlog_send}
use Rattle.vg_top.proofs.run.run_workers.Goals as goal

pub run_linked-requires-send-H : goal.run_linked-requires-send-H
run_linked-requires-send-H g c κs within = search (backlog_send, sendable) depth 20
