use Rattle.vg_check.proofs.CongestionLemmas.{none_congested, lossless_alike}
use Rattle.vg_check.proofs.laws.lossless_queues_send_all.Goals as goal

pub returns-clause-congestion : goal.returns-clause-congestion
returns-clause-congestion c = none_congested

pub returns-clause-alike : goal.returns-clause-alike
returns-clause-alike c = lossless_alike
