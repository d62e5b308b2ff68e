-- For the clause of `in_order`: what is put in order are the entries.
use Rattle.vg_match.proofs.MergeLemmas.{entries_moved}
use Rattle.vg_match.proofs.matching.in_order.Goals as goal

pub returns : goal.returns
returns c = record {
  hashed = c.put_in_order.ensures.order;
  moved = entries_moved c.args.entries.now c.in_ok-hashed.hashed.items c.put_in_order.new.hashed.items c.in_ok-hashed.ensures.entries c.put_in_order.ensures.moved;
}
