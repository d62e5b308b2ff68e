-- For the clause `steps` of `Turns::read`: the steps that bytes say are those of main and of the workers.
use Rattle.std.proofs.Common.{◌≡◌, ℕ, ◌-◌, ◌<◌, Bool, true, false, List, [], ◌∷◌, Some, None, cond, refl, arith}
use Rattle.std.proofs.lemmas.Bool.Decides.{nat_tests}
use Rattle.std.specs.List.{AllByRecursion, cons_option}
use Rattle.vg_turns.specs.declared.steps.Step.{Step}
use Rattle.vg_turns.specs.declared.steps.Step.TheVariants.{Main, Worker}
use Rattle.vg_turns.specs.Turns.{is_main, is_worker, steps_said, IsStepOf}

-- with one more step, if there is one
with_step : (workers : ℕ) (steps : List Step) → AllByRecursion (IsStepOf workers) steps → (main worker : Bool) (number : ℕ) → (worker ≡ true → number < workers)
    → AllByRecursion (IsStepOf workers) (cons_option (cond main (Some Main) (cond worker (Some (Worker number)) None)) steps)
with_step workers steps all true worker number below = (tt, all)
with_step workers steps all false true number below = (below refl, all)
with_step workers steps all false false number below = all

digit_below : (workers byte : ℕ) → is_worker workers byte ≡ true → byte - 48 < workers
digit_below workers byte is = grind (arith, nat_tests)

pub steps_are_of : (workers : ℕ) (bytes : List ℕ) → AllByRecursion (IsStepOf workers) (steps_said workers bytes)
steps_are_of workers [] = tt
steps_are_of workers (byte ∷ bytes) =
    with_step workers (steps_said workers bytes) (steps_are_of workers bytes) (is_main byte) (is_worker workers byte) (byte - 48) (digit_below workers byte)
