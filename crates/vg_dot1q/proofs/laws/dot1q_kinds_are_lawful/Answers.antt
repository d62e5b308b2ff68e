use Rattle.vg_dot1q.specs.lawful.KindLaws.{dot1q_laws}
use Rattle.vg_dot1q.proofs.laws.dot1q_kinds_are_lawful.Goals as goal

pub returns : goal.returns
returns c = dot1q_laws
