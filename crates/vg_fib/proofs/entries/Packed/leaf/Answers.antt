-- For `Packed::leaf`: a number without the highest bit is a leaf's.
use Rattle.vg_fib.proofs.EntryLemmas.{leaf_read}
use Rattle.vg_fib.proofs.entries.Packed.leaf.Goals as goal

pub returns : goal.returns
returns c = leaf_read c.args.number c.requires
