-- For `put_ends`: its clause.
use Rattle.std.proofs.Common.{◌++◌, ◌∙◌, ap, ap₂}
use Rattle.std.proofs.lemmas.Result.{on_ok_weaker}
use Rattle.vg_ways.specs.Counts.{texts_below, neighbor_text, alone_text, interface_text, node_text}
use Rattle.vg_ways.specs.Tallies.{tally_in}
use Rattle.vg_ways.proofs.TableLemmas.{four}
use Rattle.vg_ways.proofs.tables.put_ends.Goals as goal

pub returns : goal.returns
returns c =
    let names = c.args.names.now in
    let t = tally_in c.args.tally.now in
    let size = c.args.size in
    let neighbors = texts_below (neighbor_text names t.left) size.neighbors in
    let interfaces = texts_below (interface_text names t.sent) size.interfaces in
    let drops = texts_below (node_text names t.dropped) size.nodes in
    on_ok_weaker c.put_drops.result
    (λ e.
    e
    ∙ ap (λ xs. xs ++ drops)
    (c.in_ok-put_interfaces.ensures
    ∙ ap (λ xs. xs ++ interfaces) (c.in_ok-put_alone.ensures ∙ ap₂ (λ xs n. xs ++ alone_text n) c.in_ok-put_neighbors.ensures c.alone.ensures))
    ∙ four c.args.out.now.items neighbors (alone_text t.alone) interfaces drops)
    c.put_drops.ensures
