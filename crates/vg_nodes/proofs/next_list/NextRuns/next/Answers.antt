use Rattle.std.proofs.Common.{◌≡◌, length, sym, ◌∙◌}
use Rattle.std.proofs.lemmas.Bool.{eqb-true}
use Rattle.vg_nodes.proofs.RunLemmas.{entries-none}
use Rattle.vg_nodes.proofs.next_list.NextRuns.next.Goals as goal

pub returns-then-is_empty : goal.returns-then-is_empty
returns-then-is_empty c =
    let q = c.self.inside in
    let few : length q.indexes.now ≡ 0 = eqb-true _ 0 (sym c.is_empty.ensures ∙ c.if-is_empty.true) in
    let none = sym c.self.view_is ∙ entries-none q.closed.now q.slot q.indexes.now few in
    (none, none)
