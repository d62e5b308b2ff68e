use Rattle.std.proofs.Common.{rules}
use Rattle.vg_queue_tests.proofs.steps.split.Goals as goal

pub split_seat-requires : goal.split_seat-requires
split_seat-requires c = (search rules, search rules, λ s r at. tt)
