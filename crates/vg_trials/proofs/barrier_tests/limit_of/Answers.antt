use Rattle.vg_trials.proofs.ParcelLemmas.{window_is}
use Rattle.vg_trials.proofs.barrier_tests.limit_of.Goals as goal

pub returns : goal.returns
returns c = λ graph is. window_is c.args.plan.now c.args.capture.now c.args.book.now c.args.generation c.limit.result graph c.requires.book is c.limit.ensures
