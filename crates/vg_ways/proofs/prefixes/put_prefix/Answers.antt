-- For `put_prefix`: its clause `set`, where the prefix is put.
use Rattle.vg_ways.proofs.PrefixLemmas.{prefix_put}
use Rattle.vg_ways.proofs.prefixes.put_prefix.Goals as goal

pub returns-in_ok-push-clause-set : goal.returns-in_ok-push-clause-set
returns-in_ok-push-clause-set c =
    prefix_put c.in_ok-insert.field-0 c.if-branch.true c.args.prefixes.now.items c.args.prefix c.args.set.now c.insert.new.self
    c.in_ok-insert.ensures.added c.in_ok-insert.ensures.updates c.requires
