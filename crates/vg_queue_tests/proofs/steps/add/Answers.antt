use Rattle.std.proofs.Common.{rules, refl, ap, ℕ}
use Rattle.vg_steps.specs.Seats.{me_of}
use Rattle.vg_steps.specs.Table.{Me, keeps}
use Rattle.vg_queue_tests.proofs.steps.add.Goals as goal

pub fetch_add-requires : goal.fetch_add-requires
fetch_add-requires c = (search rules, search rules, λ s r deep at low. ((me_of c.args.seat.now).0, keeps, tt, tt, refl))

pub returns-clause-held : goal.returns-clause-held
returns-clause-held c = ap (λ (m : Me ℕ ℕ). m.1) c.fetch_add.ensures.then
