use Rattle.std.proofs.Common.{◌+◌, ap}
use Rattle.std.specs.Prelude.{slice_index, slice_set}
use Rattle.vg_check.proofs.PushLemmas.{hand_at}
use Rattle.vg_check.proofs.pushes.count_hand.Goals as goal

pub returns : goal.returns
returns c = λ f t f_few t_few.
    hand_at c.args.from c.args.to f t c.args.counts.now (slice_set c.args.counts.now c.from.result (slice_index c.args.counts.now c.from.result + 1))
    c.requires.workers.0 c.requires.workers.1 f_few t_few c.told-counts (ap (λ n. slice_set c.args.counts.now n (slice_index c.args.counts.now n + 1)) c.from.ensures)
