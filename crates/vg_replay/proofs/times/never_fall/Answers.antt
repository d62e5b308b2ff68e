use Rattle.std.proofs.Common.{◌+◌, drop}
use Rattle.std.proofs.lemmas.Bool.{false≢true}
use Rattle.vg_replay.proofs.CourseLemmas.{generations}
use Rattle.vg_replay.proofs.TimeLemmas.{next_leg_generation, fall_next, fall_low, fall_high}
use Rattle.vg_replay.proofs.times.never_fall.Goals as goal

pub returns-then-leg-lowest : goal.returns-then-leg-lowest
returns-then-leg-lowest c = (
  (λ h. absurd (false≢true h)),
  (λ h. absurd (fall_low c.args.count c.args.least c.loop-leg.lowest (generations c.args.legs.now) _ (drop (c.loop-leg.leg-index + 1) (generations c.args.legs.now)) _ c.loop-leg.invariant
      (next_leg_generation c.args.legs.now c.loop-leg.leg-index (record { worker = 0; generation = 0 }) c.loop-leg-test.true) c.if-leg-lowest.true h)),
)

pub returns-then-leg-count : goal.returns-then-leg-count
returns-then-leg-count c = (
  (λ h. absurd (false≢true h)),
  (λ h. absurd (fall_high c.args.count c.args.least c.loop-leg.lowest (generations c.args.legs.now) _ (drop (c.loop-leg.leg-index + 1) (generations c.args.legs.now)) _ c.loop-leg.invariant
      (next_leg_generation c.args.legs.now c.loop-leg.leg-index (record { worker = 0; generation = 0 }) c.loop-leg-test.true) c.if-leg-count.true h)),
)

pub loop-leg-preserved : goal.loop-leg-preserved
loop-leg-preserved c =
    fall_next c.args.count c.args.least c.loop-leg.lowest (generations c.args.legs.now) _ (drop (c.loop-leg.leg-index + 1) (generations c.args.legs.now)) _ c.loop-leg.invariant
    (next_leg_generation c.args.legs.now c.loop-leg.leg-index (record { worker = 0; generation = 0 }) c.loop-leg-test.true) c.if-leg-lowest.false c.if-leg-count.false
