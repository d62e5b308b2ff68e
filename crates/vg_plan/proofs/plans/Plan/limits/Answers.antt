use Rattle.std.proofs.Common.{◌+◌, ◌≤◌, get_or, length, ap, sym, subst, arith}
use Rattle.vg_script.specs.declared.scripts.Script.{Script}
use Rattle.vg_plan.specs.Front.{stamp_in, IsFront}
use Rattle.vg_plan.specs.Plan.{Planned, IsPlan}
use Rattle.vg_plan.specs.Times.{AreTimes}
use Rattle.vg_plan.proofs.BookLemmas.{found_next, found_all, length_found}
use Rattle.vg_plan.proofs.plans.Plan.limits.Goals as goal

pub front-early-requires-clause-within : goal.front-early-requires-clause-within
front-early-requires-clause-within c = c.loop-event.invariant.passed.within

pub front-early-requires-clause-early : goal.front-early-requires-clause-early
front-early-requires-clause-early c =
    rw c.due-due.ensures
    (λ i early. c.loop-event.invariant.passed.before i c.loop-event.event-index early (omega arith) c.loop-event-test.true)

pub loop-event-preserved : goal.loop-event-preserved
loop-event-preserved c =
    let times : AreTimes c.args.self.now.script c.deref-event-items.result.now =
    subst (λ (s : Script). AreTimes s c.deref-event-items.result.now) (ap (λ (p : Planned). p.script) c.self.view_is) (rw c.deref-event-items.ensures.value c.self.invariant.times) in
    let front : IsFront c.args.capture.now.nanos c.args.capture.now.packets (stamp_in c.args.capture.now.nanos c.args.capture.now.packets 0 + get_or c.deref-event-items.result.now c.loop-event.event-index 0) c.front-early.result =
    subst (λ n. IsFront c.args.capture.now.nanos c.args.capture.now.packets n c.front-early.result) c.due-due.ensures c.front-early.ensures.front in
    found_next c.args.self.now.script c.deref-event-items.result.now c.args.capture.now c.loop-event.limits.items c.push.new.self.items c.loop-event.event-index c.loop-event.early c.front-early.result
    times c.loop-event.invariant c.loop-event-test.true front c.in_ok-push.ensures.items

pub returns-clause-limits : goal.returns-clause-limits
returns-clause-limits c =
    let times : AreTimes c.args.self.now.script c.deref-event-items.result.now =
    subst (λ (s : Script). AreTimes s c.deref-event-items.result.now) (ap (λ (p : Planned). p.script) c.self.view_is) (rw c.deref-event-items.ensures.value c.self.invariant.times) in
    found_all c.args.self.now c.deref-event-items.result.now c.args.capture.now c.loop-event.limits.items c.push-2.new.self.items c.loop-event.event-index c.loop-event.early c.count.result
    (subst IsPlan c.self.view_is c.self.invariant.planned) times c.loop-event.invariant (omega arith) c.count.ensures c.in_ok-push-2.ensures.items

pub returns-clause-few : goal.returns-clause-few
returns-clause-few c =
    let few : length c.deref-event-items.result.now ≤ 999 = subst (λ ns. length ns ≤ 999) (sym c.deref-event-items.ensures.value) c.self.invariant.times.few in
    let found = length_found c.args.self.now.script c.deref-event-items.result.now c.args.capture.now c.loop-event.limits.items c.loop-event.event-index c.loop-event.early c.loop-event.invariant in
    omega (arith, found, few, c.in_ok-push-2.ensures.len)
