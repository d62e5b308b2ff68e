use Rattle.std.proofs.Common.{◌≡◌, ◌+◌, Some, get_or, drop, refl, sym, ap, subst, ◌∙◌, arith}
use Rattle.std.specs.Prelude.{slice_get}
use Rattle.std.proofs.lemmas.Bool.{false≢true}
use Rattle.vg_model.specs.Journey.{Course}
use Rattle.vg_report.specs.Seen.{line_seen}
use Rattle.vg_replay.specs.Courses.{in_hand}
use Rattle.vg_replay.specs.Replays.{task_of}
use Rattle.vg_replay.specs.Trips.{IsKeptOf}
use Rattle.vg_replay.specs.Walks.{MayGo, IsGoneOn}
use Rattle.vg_replay.specs.declared.underway.Underway.{Underway}
use Rattle.vg_replay.proofs.InputLemmas.{on_ok, choice_at, sound_task, task_long}
use Rattle.vg_replay.proofs.TakeLemmas.{from_place, stays_behind, not_due_now, legs_below, here_now, can_be_counted, put_back_so}
use Rattle.vg_replay.proofs.PartLemmas.{as_walked, walked_is_kept}
use Rattle.vg_replay.proofs.UnderwayLemmas.{got_stuck}
use Rattle.vg_replay.proofs.underway.Underway.take_on.Goals as goal

pub returns-then-number-self : goal.returns-then-number-self
returns-then-number-self g c =
    let task = task_of g.K.KindSet.meaning c.args.input.now in
    let traced = c.args.input.now.traced in
    let now = c.args.fork.now.generation in
    let number = get_or c.args.numbers.now c.args.place 0 in
    let behind = drop (c.args.place + 1) c.args.numbers.now in
    let are = from_place task traced now c.args.numbers.now c.args.place c.args.self.now c.requires.place c.requires.underway in
    stays_behind task traced now number behind c.args.self.now are c.if-number-self.true

pub returns-then-not-is_due : goal.returns-then-not-is_due
returns-then-not-is_due g c =
    let task = task_of g.K.KindSet.meaning c.args.input.now in
    let traced = c.args.input.now.traced in
    let now = c.args.fork.now.generation in
    let number = get_or c.args.numbers.now c.args.place 0 in
    let behind = drop (c.args.place + 1) c.args.numbers.now in
    let are = from_place task traced now c.args.numbers.now c.args.place c.args.self.now c.requires.place c.requires.underway in
    let legs = c.as_slice-legs.result.now in
    let accepted = c.get-line.result.congested in
    let chosen = choice_at c.args.input.now.lines.now number (line_seen c.get-line.result) legs c.get-line.ensures c.as_slice-legs.ensures.legs in
    let at : slice_get c.args.self.now.trips number ≡ Some c.get-trip.result = c.get-trip.ensures in
    not_due_now task traced now number behind c.args.self.now are legs accepted chosen c.get-trip.result at
    (λ due. false≢true (sym c.if-not-is_due.true ∙ c.is_due.ensures.1 (due ∙ ap Some (sym c.generation.ensures))))

pub go_on-requires-clause-here : goal.go_on-requires-clause-here
go_on-requires-clause-here g c =
    let task = task_of g.K.KindSet.meaning c.args.input.now in
    let traced = c.args.input.now.traced in
    let now = c.args.fork.now.generation in
    let number = get_or c.args.numbers.now c.args.place 0 in
    let behind = drop (c.args.place + 1) c.args.numbers.now in
    let are = from_place task traced now c.args.numbers.now c.args.place c.args.self.now c.requires.place c.requires.underway in
    let legs = c.as_slice-legs.result.now in
    let accepted = c.get-line.result.congested in
    let chosen = choice_at c.args.input.now.lines.now number (line_seen c.get-line.result) legs c.get-line.ensures c.as_slice-legs.ensures.legs in
    let due = c.is_due.ensures.0 c.if-not-is_due.false ∙ ap Some c.generation.ensures in
    let at : slice_get c.args.self.now.trips number ≡ Some c.get-trip.result = c.get-trip.ensures in
    here_now task traced now number behind c.args.self.now are c.if-number-self.false legs accepted chosen c.get-trip.result at due

pub keep-requires-clause-generations : goal.keep-requires-clause-generations
keep-requires-clause-generations g c =
    let task = task_of g.K.KindSet.meaning c.args.input.now in
    let traced = c.args.input.now.traced in
    let now = c.args.fork.now.generation in
    let number = get_or c.args.numbers.now c.args.place 0 in
    let behind = drop (c.args.place + 1) c.args.numbers.now in
    let are = from_place task traced now c.args.numbers.now c.args.place c.args.self.now c.requires.place c.requires.underway in
    let legs = c.as_slice-legs.result.now in
    let accepted = c.get-line.result.congested in
    let chosen = choice_at c.args.input.now.lines.now number (line_seen c.get-line.result) legs c.get-line.ensures c.as_slice-legs.ensures.legs in
    legs_below task traced now number behind c.args.self.now are c.if-number-self.false legs accepted chosen

pub keep-requires-clause-count : goal.keep-requires-clause-count
keep-requires-clause-count g c =
    let task = task_of g.K.KindSet.meaning c.args.input.now in
    let traced = c.args.input.now.traced in
    let now = c.args.fork.now.generation in
    let number = get_or c.args.numbers.now c.args.place 0 in
    let behind = drop (c.args.place + 1) c.args.numbers.now in
    let are = from_place task traced now c.args.numbers.now c.args.place c.args.self.now c.requires.place c.requires.underway in
    let legs = c.as_slice-legs.result.now in
    let accepted = c.get-line.result.congested in
    let chosen = choice_at c.args.input.now.lines.now number (line_seen c.get-line.result) legs c.get-line.ensures c.as_slice-legs.ensures.legs in
    let due = c.is_due.ensures.0 c.if-not-is_due.false ∙ ap Some c.generation.ensures in
    let walked = in_hand c.go_on.new.walker in
    let at : slice_get c.args.self.now.trips number ≡ Some c.get-trip.result = c.get-trip.ensures in
    let long = task_long g.K.KindSet.meaning c.args.input.now in
    let few = c.know_few.ensures in
    let go : (trip : Course) → IsKeptOf c.in-Some.with_visits number walked trip
    → IsGoneOn task traced now number c.get-trip.result walked trip =
    subst (MayGo task traced now number c.get-trip.result walked) c.in-Some.is c.in_ok-with_visits.ensures in
    let trip : Course = as_walked number walked in
    let gone = go trip (walked_is_kept c.in-Some.with_visits number walked) in
    let sound = sound_task g.K.KindSet.meaning c.args.input.now g.met.K.KindSet.lawful c.know_graphs.ensures c.requires.input in
    λ none.
    can_be_counted task traced now number behind c.args.self.now are c.if-number-self.false legs accepted chosen c.get-trip.result at due walked trip gone sound (omega (arith, long, few)) none

pub returns-in-Some : goal.returns-in-Some
returns-in-Some g c =
    let task = task_of g.K.KindSet.meaning c.args.input.now in
    let traced = c.args.input.now.traced in
    let now = c.args.fork.now.generation in
    let number = get_or c.args.numbers.now c.args.place 0 in
    let behind = drop (c.args.place + 1) c.args.numbers.now in
    let are = from_place task traced now c.args.numbers.now c.args.place c.args.self.now c.requires.place c.requires.underway in
    let legs = c.as_slice-legs.result.now in
    let accepted = c.get-line.result.congested in
    let chosen = choice_at c.args.input.now.lines.now number (line_seen c.get-line.result) legs c.get-line.ensures c.as_slice-legs.ensures.legs in
    let due = c.is_due.ensures.0 c.if-not-is_due.false ∙ ap Some c.generation.ensures in
    let walked = in_hand c.go_on.new.walker in
    let at : slice_get c.args.self.now.trips number ≡ Some c.get-trip.result = c.get-trip.ensures in
    let mid : Underway = record { trips = c.args.self.now.trips; schedule = c.args.self.now.schedule; counts = c.args.self.now.counts; walker = c.go_on.new.walker; stuck = c.args.self.now.stuck } in
    let go : (trip : Course) → IsKeptOf c.in-Some.with_visits number walked trip
    → IsGoneOn task traced now number c.get-trip.result walked trip =
    subst (MayGo task traced now number c.get-trip.result walked) c.in-Some.is c.in_ok-with_visits.ensures in
    on_ok c.keep.result _ _ c.keep.ensures (λ kept.
    put_back_so task traced now number behind c.args.self.now are c.if-number-self.false legs accepted chosen c.get-trip.result at due walked kept.0 (go kept.0 kept.1) mid c.keep.new.self refl refl refl refl refl kept.2)

pub returns-in-None : goal.returns-in-None
returns-in-None g c =
    let task = task_of g.K.KindSet.meaning c.args.input.now in
    let traced = c.args.input.now.traced in
    let now = c.args.fork.now.generation in
    let number = get_or c.args.numbers.now c.args.place 0 in
    let behind = drop (c.args.place + 1) c.args.numbers.now in
    let are = from_place task traced now c.args.numbers.now c.args.place c.args.self.now c.requires.place c.requires.underway in
    let walked = in_hand c.go_on.new.walker in
    got_stuck task traced now number behind c.args.self.now _ are c.if-number-self.false (subst (MayGo task traced now number c.get-trip.result walked) c.in-None.is c.in_ok-with_visits.ensures) refl refl refl refl
