use Rattle.vg_fib.proofs.BestLemmas as lemmas
use Rattle.vg_fib.proofs.PrefixLemmas.{are4, are6}
use Rattle.vg_fib.proofs.laws.covering_prefix_is_unique.Goals as goal

pub returns : goal.returns
returns c = record { of_ip4 = lemmas.covering_prefix_is_unique are4; of_ip6 = lemmas.covering_prefix_is_unique are6 }
