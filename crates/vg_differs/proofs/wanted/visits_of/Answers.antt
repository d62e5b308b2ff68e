-- For the loop of `visits_of`: one packet more.
use Rattle.std.proofs.Common.{◌∙◌}
use Rattle.vg_differs.proofs.SentLemmas.{pushed_items, visits_next}
use Rattle.vg_differs.proofs.wanted.visits_of.Goals as goal

pub loop-number-preserved : goal.loop-number-preserved
loop-number-preserved c =
    pushed_items _ c.loop-number.lists.items _ c.in_ok-trace_of.field-0 c.in_ok-push.ensures.items
    ∙ visits_next c.args.trips.now c.loop-number.number c.get.result c.get.ensures c.loop-number.invariant c.in_ok-trace_of.ensures
