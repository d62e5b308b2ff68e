use Rattle.vg_model.specs.Route.{ip4}
use Rattle.vg_fib.proofs.HeirLemmas.{IsHeirOf}
use Rattle.vg_fib.proofs.trie.heir.Given as goal

-- the heir among the places so far
abbrev pub invariant-loop-place : goal.invariant-loop-place
invariant-loop-place l = IsHeirOf ip4 l.slots l.prefix l.place l.heir
