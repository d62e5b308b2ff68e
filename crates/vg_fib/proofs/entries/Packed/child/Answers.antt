-- For `Packed::child`: a number with the highest bit is a child's.
use Rattle.vg_fib.proofs.EntryLemmas.{child_written}
use Rattle.vg_fib.proofs.entries.Packed.child.Goals as goal

pub returns : goal.returns
returns c = child_written c.args.number
