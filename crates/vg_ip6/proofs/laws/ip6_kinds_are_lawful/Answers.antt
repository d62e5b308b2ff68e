use Rattle.vg_ip6.specs.lawful.KindLaws.{ip6_laws}
use Rattle.vg_ip6.proofs.laws.ip6_kinds_are_lawful.Goals as goal

pub returns : goal.returns
returns c = ip6_laws
