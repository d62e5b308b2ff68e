use Rattle.std.proofs.Common.{◌≡◌, ◌+◌, ◌-◌, arith, map, length, drop, ap, subst, sym, ◌∙◌}
use Rattle.std.specs.Prelude.{Some}
use Rattle.vg_model.specs.Route.{ip6}
use Rattle.vg_fib.specs.Table.{IsTable}
use Rattle.vg_fib.specs.Spans.{HasFirst6}
use Rattle.vg_fib.proofs.HeirLemmas.{all_there}
use Rattle.vg_fib.proofs.FollowLemmas.{known_few, rest_added, added_length, spans_added}
use Rattle.vg_fib.proofs.spans.Spans6.grown.Goals as goal

pub put_from-requires-clause-all : goal.put_from-requires-clause-all
put_from-requires-clause-all c =
    let is = rest_added c.args.fib.now c.routes.result.now c.args.known c.args.slots.items c.add_slots.new.slots.items c.routes.ensures.routes
    c.in_ok-add_slots.ensures in
    omega (
      arith,
      known_few c.args.fib.now c.args.known c.args.slots.items c.requires.first,
      added_length c.args.fib.now c.args.known c.args.slots.items
          c.add_slots.new.slots.items is,
      ap length c.as_slice.ensures.value,
    )

pub put_from-requires-clause-has : goal.put_from-requires-clause-has
put_from-requires-clause-has c =
    let is = rest_added c.args.fib.now c.routes.result.now c.args.known c.args.slots.items c.add_slots.new.slots.items c.routes.ensures.routes
    c.in_ok-add_slots.ensures in
    let n : length c.args.slots.items ≡ length c.as_slice.result.now - length c.args.fib.now + c.args.known =
    omega (
      arith,
      known_few c.args.fib.now c.args.known c.args.slots.items c.requires.first,
      added_length c.args.fib.now c.args.known c.args.slots.items
          c.add_slots.new.slots.items is,
      ap length c.as_slice.ensures.value,
      c.requires.first.few,
    ) in
    subst (λ n. HasFirst6 c.as_slice.result.now n c.args.spans) n (spans_added c.args.slots.items (map (λ route. Some route) (drop c.args.known c.args.fib.now))
    c.as_slice.result.now c.args.spans (c.as_slice.ensures.value ∙ is) c.requires.has)

pub invariant_of-result : goal.invariant_of-result
invariant_of-result c =
    let all = all_there c.args.fib.now c.args.known c.args.slots.items c.add_slots.new.slots.items c.requires.first
    (rest_added c.args.fib.now c.routes.result.now c.args.known c.args.slots.items c.add_slots.new.slots.items c.routes.ensures.routes c.in_ok-add_slots.ensures) in
    record {
      table = subst (IsTable ip6) (sym all) (record { one_route_each = c.routes.ensures.one_route_each; few = c.routes.ensures.few });
      has = subst (λ xs. HasFirst6 xs (length xs) c.put_from.new.self) c.as_slice.ensures.value c.in_ok-put_from.ensures;
    }

pub returns : goal.returns
returns c = all_there c.args.fib.now c.args.known c.args.slots.items c.add_slots.new.slots.items c.requires.first
    (rest_added c.args.fib.now c.routes.result.now c.args.known c.args.slots.items c.add_slots.new.slots.items c.routes.ensures.routes c.in_ok-add_slots.ensures)
