-- For `Stages::prefixes`: its loop, what calls require, its clause.
use Rattle.std.proofs.Common.{◌≡◌, map, ap, subst, ◌∙◌}
use Rattle.vg_plan.specs.Run.{seen}
use Rattle.vg_script.specs.declared.scripts.Script.{Script}
use Rattle.vg_script.specs.Events.{events}
use Rattle.vg_ways.specs.Counts.{with_sets, with_sets6}
use Rattle.vg_ways.specs.Known.{AreKnown}
use Rattle.vg_ways.specs.Stages.{Shown}
use Rattle.vg_ways.proofs.PrefixLemmas.{sets_begun, sets_more, sets_done}
use Rattle.vg_ways.proofs.stages.Stages.prefixes.Goals as goal

pub put_all-requires : goal.put_all-requires
put_all-requires c = c.new-known.ensures.whole

pub loop-event-init : goal.loop-event-init
loop-event-init c =
    let script = c.args.self.now.plan.script in
    let none = c.new-known.result in
    let same : c.script.result.now ≡ script = c.script.ensures.script ∙ ap (λ (s : Shown). s.plan.script) c.self.view_is in
    sets_begun script c.as_slice-event-items.result.now none c.put_all.new.self c.new-known.ensures
    (subst (λ (s : Script). AreKnown (with_sets none.prefixes.items s.start) (with_sets6 none.prefixes6.items s.start) c.put_all.new.self) same c.in_ok-put_all.ensures)

pub loop-event-preserved : goal.loop-event-preserved
loop-event-preserved c =
    sets_more c.args.self.now.plan.script (record { within = c.loop-event-test.true; read = c.event-item.is }) c.loop-event.invariant c.in_ok-put_all-2.ensures

pub returns : goal.returns
returns c =
    let script = c.args.self.now.plan.script in
    let runs = c.as_slice-event-items.result.now in
    let are : map seen runs ≡ events script =
    ap (map seen) c.as_slice-event-items.ensures.value ∙ c.self.invariant.events ∙ ap (λ (s : Shown). events s.plan.script) c.self.view_is in
    sets_done script runs c.loop-event.event-index c.loop-event.known are c.loop-event-test.false c.loop-event.invariant
