use Rattle.std.proofs.Common.{◌≡◌, map, take}
use Rattle.std.specs.Prelude.{flat_map}
use Rattle.vg_script.specs.Events.{events_of}
use Rattle.vg_plan.specs.Run.{seen}
use Rattle.vg_plan.proofs.events.in_order.Given as goal

abbrev pub invariant-loop-block : goal.invariant-loop-block
invariant-loop-block l = map seen l.runs.items ≡ flat_map events_of (take l.block-index l.block-items)
