use Rattle.std.proofs.Common.{◌∙◌}
use Rattle.std.proofs.lemmas.List.{get_or_default}
use Rattle.std.specs.Prelude.{None}
use Rattle.vg_fib.proofs.FollowLemmas.{levels_put}
use Rattle.vg_fib.proofs.trie.Levels.put_at.Goals as goal

pub returns-in_ok-put : goal.returns-in_ok-put
returns-in_ok-put c =
    levels_put c.args.slots.now c.args.place c.in-Some.route c.args.self.now c.put.new.self
    (get_or_default c.args.slots.now c.args.place None _ c.requires.place ∙ c.in-Some.is) c.in_ok-put.ensures
