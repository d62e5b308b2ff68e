use Rattle.vg_fork.proofs.KeptLemmas.{forked_of}
use Rattle.vg_fork.proofs.forks.Fork.adjacencies.Goals as goal

pub returns-clause-kept : goal.returns-clause-kept
returns-clause-kept c = forked_of c.self.inside c.args.self.now c.self.view_is c.self.invariant
