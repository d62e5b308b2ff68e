use Rattle.std.proofs.Common.{length, subst, sym}
use Rattle.vg_model.specs.Route.{ip4}
use Rattle.vg_fib.specs.Table.{IsTable}
use Rattle.vg_fib.specs.Trie.{HasFirst}
use Rattle.vg_fib.proofs.HeirLemmas.{all_there}
use Rattle.vg_fib.proofs.FollowLemmas.{rest_added}
use Rattle.vg_fib.proofs.trie.Mtrie.grown.Goals as goal

pub invariant_of-result : goal.invariant_of-result
invariant_of-result c =
    let all = all_there c.args.fib.now c.args.known c.args.slots.items c.add_slots.new.slots.items c.requires.first
    (rest_added c.args.fib.now c.routes.result.now c.args.known c.args.slots.items c.add_slots.new.slots.items c.routes.ensures.routes c.in_ok-add_slots.ensures) in
    record {
      table = subst (IsTable ip4) (sym all) (record { one_route_each = c.routes.ensures.one_route_each; few = c.routes.ensures.few });
      has = subst (λ xs. HasFirst xs (length xs) c.put_from.new.self) c.as_slice.ensures.value c.in_ok-put_from.ensures;
    }

pub returns : goal.returns
returns c = all_there c.args.fib.now c.args.known c.args.slots.items c.add_slots.new.slots.items c.requires.first
    (rest_added c.args.fib.now c.routes.result.now c.args.known c.args.slots.items c.add_slots.new.slots.items c.routes.ensures.routes c.in_ok-add_slots.ensures)
