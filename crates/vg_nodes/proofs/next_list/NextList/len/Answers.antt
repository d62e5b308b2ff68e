use Rattle.std.proofs.Common.{length, sym, ap, ◌∙◌, arith}
use Rattle.vg_nodes.proofs.RunLemmas.{length-entries}
use Rattle.vg_nodes.proofs.next_list.NextList.len.Goals as goal

pub returns-clause-count : goal.returns-clause-count
returns-clause-count c =
    let q = c.self.inside in
    c.len.ensures.count ∙ (sym (length-entries q.closed.items q.slot q.indexes) ∙ ap length c.self.view_is)

pub returns-clause-few : goal.returns-clause-few
returns-clause-few c =
    let q = c.self.inside in
    omega (arith, length-entries q.closed.items q.slot q.indexes, ap length c.self.view_is, c.self.invariant.0.few)
