use Rattle.std.proofs.Common.{◌≡◌, ℕ, ◌+◌, ◌-◌, ◌<◌, length, get_or, sym, ap, subst, arith, rules}
use Rattle.vg_fib.specs.Spans.{HasFirst6}
use Rattle.vg_fib.proofs.CutLemmas.{HasPut, put_begins, put_turn, put_skips, put_ends, order_within, slots_of, slot_read}
use Rattle.vg_fib.proofs.spans.Spans.put_from.Goals as goal
use Rattle.vg_fib.proofs.spans.Spans.put_from.Goals.{then-place-known+in_ok-put_at, else-place-known}

pub loop-place-init : goal.loop-place-init
loop-place-init c =
    let slots = c.args.slots.now in
    let empty : ℕ = length slots - length c.routes.result.now in
    put_begins slots (empty + c.args.known) (slots_of empty c.order-place-items.result.now) c.args.self.now
    (subst (λ n. HasFirst6 slots n c.args.self.now) (ap (λ routes. length slots - length routes + c.args.known) (sym c.routes.ensures.routes)) c.requires.has)

pub overflow_sub-empty : goal.overflow_sub-empty
overflow_sub-empty c = omega (arith, ap length c.routes.ensures.routes, c.requires.all)

pub overflow_add-empty : goal.overflow_add-empty
overflow_add-empty c =
    let within = order_within c.args.fib.now c.order-place-items.result.now c.loop-place.place-index c.order-place-items.ensures c.loop-place-test.true in
    let small : length c.args.slots.now - length c.routes.result.now + c.from-place.result < 8192 =
    omega (arith, within, c.from-place.ensures, ap length c.routes.ensures.routes, c.requires.all, c.requires.few) in
    search rules

pub put_at-requires-clause-place : goal.put_at-requires-clause-place
put_at-requires-clause-place c =
    let within = order_within c.args.fib.now c.order-place-items.result.now c.loop-place.place-index c.order-place-items.ensures c.loop-place-test.true in
    omega (arith, within, c.from-place.ensures, ap length c.routes.ensures.routes, c.requires.all)

pub put_at-requires-clause-shape : goal.put_at-requires-clause-shape
put_at-requires-clause-shape c = c.loop-place.invariant.shape

pub loop-place-preserved : goal.loop-place-preserved
loop-place-preserved c =
    let slots = c.args.slots.now in
    let order = c.order-place-items.result.now in
    let turn = c.loop-place.place-index in
    let empty : ℕ = length slots - length c.routes.result.now in
    let place = c.from-place.result in
    let at : get_or (slots_of empty order) turn 0 ≡ empty + place = slot_read empty turn place order c.loop-place-test.true c.from-place.ensures in
    let within = order_within c.args.fib.now order turn c.order-place-items.ensures c.loop-place-test.true in
    let inside : empty + place < length slots = omega (arith, within, c.from-place.ensures, ap length c.routes.ensures.routes, c.requires.all) in
    elim c.if-place-known.branch [
      | then-place-known+in_ok-put_at w ↦
          subst (HasPut slots (empty + c.args.known) (slots_of empty order) (turn + 1)) (sym w.self-is)
          (put_turn slots (empty + c.args.known) turn (empty + place) (slots_of empty order)
          c.loop-place.self w.put_at.new.self at inside w.in_ok-put_at.ensures c.loop-place.invariant)
      | else-place-known w ↦
          subst (HasPut slots (empty + c.args.known) (slots_of empty order) (turn + 1)) (sym w.self-is)
          (put_skips slots (empty + c.args.known) turn (empty + place) (slots_of empty order) c.loop-place.self at (omega
          (arith, w.if-place-known.false)) c.loop-place.invariant)
    ]

pub returns : goal.returns
returns c =
    let slots = c.args.slots.now in
    let empty : ℕ = length slots - length c.routes.result.now in
    put_ends slots c.args.fib.now (empty + c.args.known) c.loop-place.place-index empty c.order-place-items.result.now c.loop-place.self
    c.order-place-items.ensures c.loop-place-test.false
    (omega (arith, ap length c.routes.ensures.routes, c.requires.all)) (omega arith) c.loop-place.invariant
