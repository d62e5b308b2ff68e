use Rattle.std.proofs.Common.{◌≡◌, ◌∙◌, ap, get_or, rules}
use Rattle.std.proofs.Math.Seq.{map-set_same}
use Rattle.vg_threads.specs.Starts.{started_tie}
use Rattle.vg_threads.proofs.driving.turn_all_here.Goals as goal

pub loop-k-preserved : goal.loop-k-preserved
loop-k-preserved g c =
    let was = c.index_mut.result.now in let items = c.loop-k.started.items in
    let is : was ≡ get_or items c.loop-k.k was = search rules in
    map-set_same started_tie items c.loop-k.k c.turn_here.new.started was (c.turn_here.ensures ∙ ap started_tie is) ∙ c.loop-k.invariant
