use Rattle.std.proofs.Common.{◌≡◌, ℕ, ◌<◌, length, get_or, refl, sym, subst, arith}
use Rattle.vg_fib.specs.Numbers.{AreFrom}
use Rattle.vg_fib.specs.Trie.{IsPutAt}
use Rattle.vg_fib.proofs.PrefixLemmas.{are4}
use Rattle.vg_fib.proofs.NumberLemmas.{ArePut, best_among, put_all, number_after_turn}
use Rattle.vg_fib.proofs.trie.Levels.put_from.Goals as goal

pub put_at-requires-clause-place : goal.put_at-requires-clause-place
put_at-requires-clause-place c =
    let order = c.deref-place-items.result.now in
    let from : AreFrom c.args.known (length c.args.slots.now) order =
    subst (AreFrom c.args.known (length c.args.slots.now)) (sym c.deref-place-items.ensures.value) c.in_ok-order.ensures in
    omega (arith, c.from.ensures, from.within c.loop-place.place-index (omega (arith, c.loop-place-test.true)))

pub put_at-requires-clause-room : goal.put_at-requires-clause-room
put_at-requires-clause-room c =
    let before = c.loop-place.invariant in
    let order = c.deref-place-items.result.now in
    let from : AreFrom c.args.known (length c.args.slots.now) order =
    subst (AreFrom c.args.known (length c.args.slots.now)) (sym c.deref-place-items.ensures.value) c.in_ok-order.ensures in (
      omega (arith, before.second, c.requires.room.second, from.count, c.loop-place-test.true),
      omega (arith, before.third, c.requires.room.third, from.count, c.loop-place-test.true),
    )

pub loop-place-preserved : goal.loop-place-preserved
loop-place-preserved c =
    let put = c.in_ok-put_at.ensures in
    let before = c.loop-place.invariant in
    let slots = c.args.slots.now in
    let order = c.deref-place-items.result.now in
    let turn = c.loop-place.place-index in
    let q : ℕ = get_or order turn 0 in
    let from : AreFrom c.args.known (length slots) order = subst (AreFrom c.args.known (length slots)) (sym c.deref-place-items.ensures.value) c.in_ok-order.ensures in
    let inside : q < length slots = from.within turn (omega (arith, c.loop-place-test.true)) in
    let here : IsPutAt slots q c.loop-place.self c.put_at.new.self = subst (λ k. IsPutAt slots k c.loop-place.self c.put_at.new.self) c.from.ensures put in
    record {
      shape = put.shape;
      numbers = λ address bound. number_after_turn are4 slots c.args.known turn q address _ _ order refl inside (before.numbers address bound)
          (here.numbers address bound);
      second = omega (arith, put.second_grows, before.second);
      third = omega (arith, put.third_grows, before.third);
    }

pub returns : goal.returns
returns c =
    let before = c.loop-place.invariant in
    let slots = c.args.slots.now in
    let order = c.deref-place-items.result.now in
    let turn = c.loop-place.place-index in
    let from : AreFrom c.args.known (length slots) order = subst (AreFrom c.args.known (length slots)) (sym c.deref-place-items.ensures.value) c.in_ok-order.ensures in
    let all : length order ≡ turn = omega (arith, c.loop-place-test.false, c.loop-place.auto.place-index-end) in
    record {
      shape = before.shape;
      numbers = λ address bound. best_among are4 slots (ArePut c.args.known order turn) (λ k. k < length slots) address _
          (λ k within _. subst (λ n. ArePut c.args.known order n k) all (put_all c.args.known (length slots) order k from within)) (before.numbers address bound);
    }
