-- For the clause of `put_in_order`: what a sort leaves.
use Rattle.vg_match.proofs.MergeLemmas.{sorted_from}
use Rattle.vg_match.proofs.matching.put_in_order.Goals as goal

pub returns-clause-order : goal.returns-clause-order
returns-clause-order c =
    sorted_from c.args.hashed.now.items c.sort_unstable.new.self.items c.requires c.sort_unstable.ensures.permutation c.sort_unstable.ensures.sorted
