use Rattle.vg_fib.proofs.BestLemmas as lemmas
use Rattle.vg_fib.proofs.PrefixLemmas.{are4, are6}
use Rattle.vg_fib.proofs.laws.order_is_free.Goals as goal

pub returns : goal.returns
returns c = record { of_ip4 = lemmas.order_is_free are4; of_ip6 = lemmas.order_is_free are6 }
