use Rattle.std.proofs.Common.{◌≡◌, ◌*◌, ◌++◌}
use Rattle.std.proofs.Math.ListN.{replicate}
use Rattle.vg_fib.specs.declared.entries.Entry.TheVariants.{Leaf}
use Rattle.vg_fib.proofs.trie.add_leaves.Given as goal

-- the entries of the children so far are added
abbrev pub invariant-loop : goal.invariant-loop
invariant-loop l = l.entries.items ≡ l.initial.entries.items ++ replicate (256 * l.counter) (Leaf 0)
