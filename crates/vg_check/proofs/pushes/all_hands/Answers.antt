use Rattle.std.proofs.Common.{sym, arith}
use Rattle.std.proofs.lemmas.Option.{slice_get_within, get_or_from_slice_get}
use Rattle.vg_check.proofs.PushLemmas.{hands_none, hands_next, hands_all}
use Rattle.vg_check.proofs.pushes.all_hands.Goals as goal

pub loop-k-init : goal.loop-k-init
loop-k-init c = hands_none c.args.trips.now

pub loop-k-preserved : goal.loop-k-preserved
loop-k-preserved c =
    let trips = c.args.trips.now in
    let k = c.loop-k.k in
    let t = c.get-trip.result in
    hands_next trips c.loop-k.counts c.add_hands.new.counts k t c.legs.result.now c.loop-k.invariant (slice_get_within trips k t c.get-trip.ensures) (sym (get_or_from_slice_get trips k t t c.get-trip.ensures))
    c.legs.ensures.legs c.legs.ensures.few c.add_hands.array_long c.add_hands.ensures

pub returns : goal.returns
returns c = hands_all c.args.trips.now c.loop-k.counts c.loop-k.k c.loop-k.invariant (omega arith)
