use Rattle.vg_kinds.proofs.AroundLemmas.{around_uncongested}
use Rattle.vg_ip6.specs.Visit.{ip6_visit_of}
use Rattle.vg_ip6.specs.lawful.KindLaws.{ip6_never}
use Rattle.vg_ip6.proofs.laws.ip6_kinds_never_congest.Goals as goal

pub returns : goal.returns
returns c = around_uncongested ip6_visit_of ip6_never
