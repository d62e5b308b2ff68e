use Rattle.std.proofs.Common.{◌≡◌, ℕ, ◌<◌, List, [], ◌∷◌, sym, arith}
use Rattle.std.specs.Prelude.{Option, Some, None, MatchOption}
use Rattle.std.proofs.lemmas.Option.{none-some, same_Some}
use Rattle.vg_script.specs.Events.{Event}
use Rattle.vg_process.specs.Left.{first_time, IsNothingDue}
use Rattle.vg_threads.proofs.events.make_next.Goals as goal

-- at the time of the first event an event is due
some_is_due : (events : List Event) (time : ℕ) → first_time events ≡ Some time → IsNothingDue time events → ⊥
some_is_due [] time first none = none-some time first
some_is_due (e ∷ es) time first none =
    let same : e.time ≡ time = same_Some e.time time first in
    let later : time < e.time = none 0 e (omega arith) in
    omega (arith, same, later)

-- what holds where nothing is given
at_none : {X : Type 0} (o : Option X) (P : Type 0) (Q : X → Type 0) → MatchOption o P Q → o ≡ None → P
at_none None P Q h e = h
at_none (Some x) P Q h e = absurd (none-some x (sym e))

pub unreachable-requires-in_default-2 : goal.unreachable-requires-in_default-2
unreachable-requires-in_default-2 c =
    let given = c.in_ok-due.ensures in
    let none = at_none c.in_ok-due.field-0 _ _ given.given c.in_default-2.is in
    some_is_due c.args.processes.now c.in-Some.time (sym c.in-Some.ensures) none.0
