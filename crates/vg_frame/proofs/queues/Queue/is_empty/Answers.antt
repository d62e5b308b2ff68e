use Rattle.std.proofs.Common.{◌<◌, length, arith}
use Rattle.std.proofs.lemmas.Bool.{false≢true}
use Rattle.std.proofs.lemmas.Grind.{common_steps}
use Rattle.vg_frame.proofs.QueueLemmas.{not_empty}
use Rattle.vg_frame.proofs.queues.Queue.is_empty.Goals as goal

pub returns-else-is_empty : goal.returns-else-is_empty
returns-else-is_empty c =
    let q = c.self.inside in
    let some : 0 < length q.full.items = grind (arith, common_steps, c.is_empty.ensures, c.if-is_empty.false) in
    rw (← c.self.view_is, c.if-is_empty.false) (λ h. absurd (false≢true h), λ e. absurd (not_empty _ q.full.items q.newest.value c.self.invariant.full some e))
