-- `put_neighbors`, the commands for the neighbors: one neighbor more.
use Rattle.std.proofs.Common.{[], ap, sym}
use Rattle.std.specs.Option.{option_map_or}
use Rattle.vg_diff.specs.Linux.{neighbor_both, neighbor_at}
use Rattle.vg_diff.proofs.LinuxLemmas.{each_put}
use Rattle.vg_diff.proofs.linux.put_neighbors.Goals as goal

pub loop-number-preserved : goal.loop-number-preserved
loop-number-preserved c =
    let graph = c.args.graph.now in
    let i = c.loop-number.number in
    each_put (neighbor_at graph) i c.args.out.now.items c.loop-number.out.items _ (neighbor_both graph i c.adjacency_at.result.now)
    c.in_ok-put_neighbor_both.ensures (sym (ap (λ o. option_map_or (neighbor_both graph i) o []) c.adjacency_at.ensures)) c.loop-number.invariant
