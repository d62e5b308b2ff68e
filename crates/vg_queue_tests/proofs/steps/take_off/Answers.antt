use Rattle.std.proofs.Common.{rules, refl}
use Rattle.vg_steps.specs.Seats.{me_of}
use Rattle.vg_steps.specs.Table.{keeps}
use Rattle.vg_queue_tests.proofs.steps.take_off.Goals as goal

pub fetch_sub-requires : goal.fetch_sub-requires
fetch_sub-requires c = (search rules, search rules, λ s r deep at low. ((me_of c.args.seat.now).0, keeps, tt, tt, refl))
