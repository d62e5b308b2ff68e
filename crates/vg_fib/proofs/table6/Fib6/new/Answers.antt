use Rattle.vg_fib.proofs.PrefixLemmas.{are6}
use Rattle.vg_fib.proofs.TableLemmas.{empty_table}
use Rattle.vg_fib.proofs.OrderLemmas.{order_empty}
use Rattle.vg_fib.proofs.table6.Fib6.new.Goals as goal

pub invariant_of-result : goal.invariant_of-result
invariant_of-result c = rw (c.new.ensures.items, c.new-2.ensures.items) (empty_table are6, order_empty)
