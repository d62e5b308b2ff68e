use Rattle.std.proofs.Common.{◌≡◌, length, ap, arith}
use Rattle.std.proofs.lemmas.List.{length-map}
use Rattle.vg_counters.proofs.NoteLemmas.{merged_whole}
use Rattle.vg_counters.proofs.tracing.merge.Goals as goal

pub returns : goal.returns
returns c =
    let count : c.len-number-end.result ≡ length c.index-parts-0.result =
    omega (arith, simp length-map at (ap length c.first.view_is), c.first.inside.packets.ok.0, c.len-number-end.ensures) in
    merged_whole (λ nodes. nodes.items) c.len-number-end.result c.loop-number.number _ c.index-parts-0.result c.loop-number.lists.items
    c.index-parts-0.is c.requires.size count c.loop-number-test.false c.loop-number.auto.number-end c.loop-number.invariant
