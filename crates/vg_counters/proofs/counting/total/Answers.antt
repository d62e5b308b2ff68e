use Rattle.std.proofs.Common.{◌≡◌, length, rules}
use Rattle.vg_counters.proofs.TotalLemmas.{total_none, total_more, total_all}
use Rattle.vg_counters.proofs.counting.total.Goals as goal

pub loop-part-init : goal.loop-part-init
loop-part-init c =
    let nodes : c.len.result ≡ length c.index-parts-0.result.visits = search (rules, c.first.view_is, c.len.ensures) in
    let interfaces : c.len-2.result ≡ length c.index-parts-0.result.sends = search (rules, c.first.view_is, c.len-2.ensures) in
    total_none _ c.index-parts-0.result c.len.result c.len-2.result _ c.index-parts-0.is c.requires.size nodes interfaces c.in_ok-whole.ensures

pub loop-part-preserved : goal.loop-part-preserved
loop-part-preserved c =
    total_more c.loop-part.part-index _ c.part-item.result c.loop-part.whole _ c.loop-part-test.true c.part-item.is c.loop-part.invariant c.add.ensures

pub returns : goal.returns
returns c = total_all c.loop-part.part-index _ _ c.loop-part-test.false c.loop-part.invariant
