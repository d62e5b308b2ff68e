use Rattle.std.proofs.Common.{rules, of_calls, ◌≡◌, map, ap, ◌∙◌}
use Rattle.std.specs.Prelude.{flat_map}
use Rattle.std.proofs.lemmas.Fn.{always_returns_same}
use Rattle.std.proofs.lemmas.List.{take_all}
use Rattle.vg_script.specs.Events.{events_of}
use Rattle.vg_plan.specs.Run.{seen}
use Rattle.vg_plan.proofs.RunLemmas.{key_of, runs_are}
use Rattle.vg_plan.proofs.events.in_order.Goals as goal

pub returns : goal.returns
returns c =
    let sorted = c.sort_unstable_by_key.ensures.sorted key_of (always_returns_same _ _ _ (λ a r f k. search (rules, of_calls))) in
    let all : map seen c.loop-block.runs.items ≡ flat_map events_of c.args.script.now.blocks =
    c.loop-block.invariant
    ∙ (ap (flat_map events_of) (take_all c.loop-block.block-index c.as_slice-block-items.result.now c.loop-block-test.false)
    ∙ ap (flat_map events_of) c.as_slice-block-items.ensures) in
    runs_are c.args.script.now c.loop-block.runs.items c.sort_unstable_by_key.new.self.items c.requires all c.sort_unstable_by_key.ensures.permutation sorted
