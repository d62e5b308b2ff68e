-- For `fill_place`: each step takes the moving entry to the place of its number, and in the end one to the place.
use Rattle.std.proofs.Common.{◌≡◌, eqb, set, sym, ◌∙◌, arith}
use Rattle.std.specs.List.{HoldsAt}
use Rattle.std.proofs.lemmas.Bool.{OnTrue_from, eqb-true}
use Rattle.vg_fates.specs.declared.logs.LogEntry.{LogEntry}
use Rattle.vg_fates.specs.Logs.{fate_in}
use Rattle.vg_fates.proofs.HeldLemmas.{held_first, held_next, held_front, held_there}
use Rattle.vg_fates.proofs.logs.fill_place.Goals as goal

pub loop-step-init : goal.loop-step-init
loop-step-init c = held_first c.args.entries.now c.args.place _ c.requires

pub loop-step-preserved : goal.loop-step-preserved
loop-step-preserved c = held_next c.number_of-number.result _ c.loop-step.invariant (omega arith) (omega arith)

pub returns-then-number-place-clause-same : goal.returns-then-number-place-clause-same
returns-then-number-place-clause-same c = c.loop-step.invariant.same

pub returns-then-number-place-clause-front : goal.returns-then-number-place-clause-front
returns-then-number-place-clause-front c = held_front c.loop-step.invariant

pub returns-then-number-place-clause-there : goal.returns-then-number-place-clause-there
returns-then-number-place-clause-there c =
    OnTrue_from (eqb c.number_of-number.result c.args.place)
    (HoldsAt (λ (entry : LogEntry). (fate_in c.args.others.now entry).number ≡ c.args.place) (set c.loop-step.entries c.args.place c.loop-step.moving) c.args.place)
    (λ yes. held_there (λ (entry : LogEntry). (fate_in c.args.others.now entry).number) c.loop-step.invariant (sym c.number_of-number.ensures ∙ eqb-true c.number_of-number.result c.args.place yes))

pub returns-clause-same : goal.returns-clause-same
returns-clause-same c = c.loop-step.invariant.same

pub returns-clause-front : goal.returns-clause-front
returns-clause-front c = held_front c.loop-step.invariant
