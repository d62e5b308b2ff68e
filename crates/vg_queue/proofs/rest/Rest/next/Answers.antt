use Rattle.vg_queue.proofs.LineLemmas.{takes, rest, next}
use Rattle.vg_queue.proofs.rest.Rest.next.Goals as goal

pub pop_as-requires-clause-rule : goal.pop_as-requires-clause-rule
pop_as-requires-clause-rule g c = (takes _ _ c.args.self.now.both.1, rest _ _ c.args.self.now.both.1)

pub invariant_of-self-clause-prefix : goal.invariant_of-self-clause-prefix
invariant_of-self-clause-prefix g c =
    (next _ _ _ c.args.self.now.both.0 c.args.self.now.both.1 c.args.self.now.prefix c.pop_as.ensures.rule).prefix
