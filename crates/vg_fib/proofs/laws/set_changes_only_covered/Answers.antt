use Rattle.vg_fib.proofs.BestLemmas as lemmas
use Rattle.vg_fib.proofs.PrefixLemmas.{are4, are6}
use Rattle.vg_fib.proofs.laws.set_changes_only_covered.Goals as goal

pub returns : goal.returns
returns c = record { of_ip4 = lemmas.set_changes_only_covered are4; of_ip6 = lemmas.set_changes_only_covered are6 }
