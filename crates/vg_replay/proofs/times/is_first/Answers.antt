use Rattle.std.proofs.Common.{arith, ◌<◌}
use Rattle.std.proofs.lemmas.Bool.{eq-eqb, le-leb, leb-true, ltb-true}
use Rattle.vg_replay.proofs.TimeLemmas.{limit_is, is_first_zero, is_first_later, before_is_past, not_above}
use Rattle.vg_replay.proofs.times.is_first.Goals as goal

pub returns-then-generation-eq0 : goal.returns-then-generation-eq0
returns-then-generation-eq0 c = (
  (λ h. is_first_zero c.args.input.now.plan.now c.args.input.now.capture.now c.args.number c.requires.number c.args.generation c.limit.result
      (limit_is c.args.input.now.plan.now c.args.input.now.capture.now c.args.book.now c.args.generation c.limit.result c.requires.book c.limit.ensures) c.if-number-limit.true c.if-generation-eq0.true),
  (λ e. eq-eqb c.args.generation 0 c.if-generation-eq0.true),
)

pub returns-else-generation-eq0 : goal.returns-else-generation-eq0
returns-else-generation-eq0 c =
    let some : 0 < c.args.generation = omega (arith, c.if-generation-eq0.false) in
    let is = limit_is c.args.input.now.plan.now c.args.input.now.capture.now c.args.book.now c.args.generation c.limit.result c.requires.book c.limit.ensures in
    let is_before = limit_is c.args.input.now.plan.now c.args.input.now.capture.now c.args.book.now _ c.limit-else-generation-eq0.result c.requires.book c.limit-else-generation-eq0.ensures in (
      (λ h. is_first_later c.args.input.now.plan.now c.args.input.now.capture.now c.args.number c.requires.number c.args.generation c.limit.result c.limit-else-generation-eq0.result is is_before c.if-number-limit.true some
          (leb-true c.limit-else-generation-eq0.result c.args.number h)),
      (λ e. le-leb c.limit-else-generation-eq0.result c.args.number
          (before_is_past c.args.input.now.plan.now c.args.input.now.capture.now c.args.number c.requires.number c.args.generation c.limit-else-generation-eq0.result is_before some e)),
    )

pub returns-else-number-limit : goal.returns-else-number-limit
returns-else-number-limit c =
    let never = not_above c.args.input.now.plan.now c.args.input.now.capture.now c.args.number c.requires.number c.args.generation c.limit.result
    (limit_is c.args.input.now.plan.now c.args.input.now.capture.now c.args.book.now c.args.generation c.limit.result c.requires.book c.limit.ensures) c.if-number-limit.false in
    ((λ h. absurd (let below = ltb-true c.args.number c.limit.result h in omega (arith, below, c.if-number-limit.false))), (λ e. absurd (never e)))
