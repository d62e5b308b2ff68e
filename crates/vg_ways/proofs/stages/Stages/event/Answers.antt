-- For `Stages::event`: its clause.
use Rattle.std.proofs.Common.{◌≡◌, ◌-◌, ◌<◌, ◌≤◌, ◌==◌, false, length, ap, ◌∙◌, arith}
use Rattle.std.proofs.lemmas.Bool.Decides.{nat_tests}
use Rattle.vg_ways.specs.Events.{event_of}
use Rattle.vg_ways.specs.Stages.{Shown}
use Rattle.vg_ways.proofs.StageLemmas.{event_is, no_event}
use Rattle.vg_ways.proofs.stages.Stages.event.Goals as goal

pub returns-then-place-len : goal.returns-then-place-len
returns-then-place-len c =
    let made = c.self.inside.events.items in
    let g = c.args.generation in
    let later : g == 0 ≡ false = grind (arith, nat_tests) in
    let within : g - 1 < length made = omega arith in
    event_is c.self.inside.plan.now.script g c.self.invariant.events later (record { within = within; read = c.index.ensures })
    ∙ ap (λ (s : Shown). event_of s.plan.script g) c.self.view_is

pub returns-else-place-len : goal.returns-else-place-len
returns-else-place-len c =
    let made = c.self.inside.events.items in
    let g = c.args.generation in
    let later : g == 0 ≡ false = grind (arith, nat_tests) in
    let past : length made ≤ g - 1 = omega arith in
    no_event c.self.inside.plan.now.script made g c.self.invariant.events later past
    ∙ ap (λ (s : Shown). event_of s.plan.script g) c.self.view_is
