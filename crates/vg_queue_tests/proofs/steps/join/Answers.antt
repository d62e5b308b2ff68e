use Rattle.std.proofs.Common.{rules}
use Rattle.vg_queue_tests.proofs.steps.join.Goals as goal

pub join_seat-requires : goal.join_seat-requires
join_seat-requires c = (search rules, search rules, search rules, search rules, λ s r at ne there. tt)
