use Rattle.std.proofs.Common.{◌+◌, ◌≤◌, length, subst, ap, arith}
use Rattle.std.proofs.Math.ListN.{set, length-set}
use Rattle.std.specs.Prelude.{None}
use Rattle.vg_model.specs.Route.{ip4}
use Rattle.vg_fib.specs.declared.numbers.Change.TheVariants.{Goes}
use Rattle.vg_fib.specs.Numbers.{IsHeir, changed_by, length_at}
use Rattle.vg_fib.specs.Trie.{IsPut}
use Rattle.vg_fib.proofs.PrefixLemmas.{are4}
use Rattle.vg_fib.proofs.NumberLemmas.{best_within}
use Rattle.vg_fib.proofs.FollowLemmas.{levels_after}
use Rattle.vg_fib.proofs.trie.Levels.take_out.Goals as goal

pub put-requires-clause-fits : goal.put-requires-clause-fits
put-requires-clause-fits c =
    let slots = c.as_slice.result.now in
    let within = best_within are4 slots (λ k. length_at ip4 slots k ≤ c.args.prefix.len) c.args.prefix.addr c.heir-heir.result c.heir-heir.ensures.best in
    omega (arith, within, ap length c.as_slice.ensures.value, length-set c.args.slots.now.items c.args.place None, c.requires.few)

pub returns-clause-has : goal.returns-clause-has
returns-clause-has c =
    let left = set c.args.slots.now.items c.args.place None in
    let heir : IsHeir ip4 left c.args.prefix c.heir-heir.result = subst (λ xs. IsHeir ip4 xs c.args.prefix c.heir-heir.result) c.as_slice.ensures.value
    c.heir-heir.ensures in
    let put : IsPut c.args.prefix (changed_by ip4 left (Goes (c.args.place + 1) c.heir-heir.result)) c.args.self.now c.put.new.self =
    subst (λ xs. IsPut c.args.prefix (changed_by ip4 xs (Goes (c.args.place + 1) c.heir-heir.result)) c.args.self.now c.put.new.self)
    c.as_slice-2.ensures.value c.in_ok-put.ensures in
    levels_after c.args.slots.now.items c.args.place c.heir-heir.result c.args.prefix c.args.self.now c.put.new.self c.requires.stands heir c.requires.has put
