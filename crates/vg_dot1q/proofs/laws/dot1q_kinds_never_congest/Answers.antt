use Rattle.vg_kinds.proofs.AroundLemmas.{around_uncongested}
use Rattle.vg_dot1q.specs.Visit.{dot1q_visit_of}
use Rattle.vg_dot1q.specs.lawful.KindLaws.{dot1q_never}
use Rattle.vg_dot1q.proofs.laws.dot1q_kinds_never_congest.Goals as goal

pub returns : goal.returns
returns c = around_uncongested dot1q_visit_of dot1q_never
