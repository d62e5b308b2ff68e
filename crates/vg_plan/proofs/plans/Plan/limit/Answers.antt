use Rattle.std.proofs.Common.{◌≡◌, ◌+◌, ◌∙◌, ap, subst, length, refl}
use Rattle.std.specs.Prelude.{slice_get, Some}
use Rattle.std.proofs.lemmas.Option.{slice_get_read}
use Rattle.vg_capture.specs.Time.{stamp_at}
use Rattle.vg_plan.specs.Front.{IsFront}
use Rattle.vg_plan.specs.Plan.{Planned, limit_of}
use Rattle.vg_plan.specs.Times.{AreTimes}
use Rattle.vg_plan.proofs.WindowLemmas.{limit_by_front, limit_of_last}
use Rattle.vg_plan.proofs.plans.Plan.limit.Goals as goal

pub returns-in-Some : goal.returns-in-Some
returns-in-Some c =
    let times : AreTimes c.self.inside.script c.deref.result.now = rw c.deref.ensures.value c.self.invariant.times in
    let at : slice_get c.deref.result.now c.args.generation ≡ Some c.in-Some.event.now =
    slice_get_read c.deref.result.now (length c.deref.result.now) c.args.generation c.in-Some.event.now refl c.in-Some.ensures.lookup.3.0 c.in-Some.ensures.lookup.1 in
    let front : IsFront c.args.capture.now.nanos c.args.capture.now.packets (stamp_at c.args.capture.now 0 + c.in-Some.event.now) c.front.result =
    subst (λ n. IsFront c.args.capture.now.nanos c.args.capture.now.packets n c.front.result) c.due-due.ensures c.front.ensures.front in
    limit_by_front c.self.inside.script c.deref.result.now c.args.capture.now c.args.generation c.in-Some.event.now c.front.result times at front
    ∙ ap (λ (p : Planned). limit_of p.script c.args.capture.now c.args.generation) c.self.view_is

pub returns-in-None : goal.returns-in-None
returns-in-None c =
    let times : AreTimes c.self.inside.script c.deref.result.now = rw c.deref.ensures.value c.self.invariant.times in
    c.count.ensures
    ∙ (limit_of_last c.self.inside.script c.deref.result.now c.args.capture.now c.args.generation times c.in-None.ensures.lookup.3
    ∙ ap (λ (p : Planned). limit_of p.script c.args.capture.now c.args.generation) c.self.view_is)
