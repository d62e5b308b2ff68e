use Rattle.vg_model.proofs.LegEnds.{all_at}
use Rattle.vg_report.specs.Seen.{line_seen}
use Rattle.vg_check.specs.Hands.{IsOnWorkers}
use Rattle.vg_check.proofs.PushLemmas.{below_more}
use Rattle.vg_check.proofs.pushes.first_unlawful.Goals as goal

pub is_lawful-requires-clause-workers : goal.is_lawful-requires-clause-workers
is_lawful-requires-clause-workers c = all_at IsOnWorkers c.args.trips.now c.loop-k.k c.get-trip.result c.get-trip.ensures c.requires.workers

pub loop-k-preserved : goal.loop-k-preserved
loop-k-preserved c =
    below_more c.args.slots c.loop-k.k c.args.lines.now c.args.trips.now (line_seen c.get-congested.result) c.get-trip.result c.loop-k.invariant c.get-congested.ensures c.get-trip.ensures
    (c.is_lawful.ensures.0 c.if-not-is_lawful.false)
