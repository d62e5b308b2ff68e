use Rattle.std.proofs.Common.{refl, sym, ap, subst, ◌∙◌}
use Rattle.std.specs.Vec.{vec_len}
use Rattle.std.proofs.lemmas.Bool.{eqb-true}
use Rattle.vg_fork.specs.Forked.{Forked}
use Rattle.vg_replay.specs.Replays.{task_of}
use Rattle.vg_replay.specs.Underway.{IsDue, AreUnderway}
use Rattle.vg_replay.proofs.UnderwayLemmas.{none_left, taken_out}
use Rattle.vg_replay.proofs.replaying.pass.Goals as goal

pub returns-then-is_empty : goal.returns-then-is_empty
returns-then-is_empty g c =
    let none = eqb-true (vec_len c.take-numbers.result) 0 (sym c.is_empty.ensures ∙ c.if-is_empty.true) in
    none_left (task_of g.K.KindSet.meaning c.args.input.now) c.args.input.now.traced c.args.generation _ c.take-numbers.result.items (sym c.take-numbers.result.ok.0 ∙ none)
    (taken_out (task_of g.K.KindSet.meaning c.args.input.now) c.args.input.now.traced c.args.generation c.args.underway.now _ c.take-numbers.result.items c.requires.underway
    c.take-numbers.ensures.numbers c.take-numbers.ensures.left refl refl refl)

pub take_all-requires-clause-underway : goal.take_all-requires-clause-underway
take_all-requires-clause-underway g c =
    subst (λ now. AreUnderway (task_of g.K.KindSet.meaning c.args.input.now) c.args.input.now.traced (IsDue now c.as_slice.result.now c.take-numbers.new.self)
    (record { trips = c.args.underway.now.trips; schedule = c.take-numbers.new.self; counts = c.args.underway.now.counts; walker = c.args.underway.now.walker; stuck = c.args.underway.now.stuck }))
    (sym (ap (λ (f : Forked). f.generation) c.in_ok-fork.ensures))
    (taken_out (task_of g.K.KindSet.meaning c.args.input.now) c.args.input.now.traced c.args.generation c.args.underway.now _ c.as_slice.result.now c.requires.underway
    (c.as_slice.ensures.value ∙ c.take-numbers.ensures.numbers) c.take-numbers.ensures.left refl refl refl)
