use Rattle.vg_fib.proofs.BestLemmas as lemmas
use Rattle.vg_fib.proofs.PrefixLemmas.{are4, are6}
use Rattle.vg_fib.proofs.laws.set_route_is_found.Goals as goal

pub returns : goal.returns
returns c = record { of_ip4 = lemmas.set_route_is_found are4; of_ip6 = lemmas.set_route_is_found are6 }
