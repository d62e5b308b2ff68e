use Rattle.std.proofs.Common.{◌≡◌, map, ap, ◌∙◌, arith}
use Rattle.std.proofs.lemmas.List.{take_all}
use Rattle.vg_script.specs.Events.{events_of, in_order}
use Rattle.vg_process.specs.Rest.{left}
use Rattle.vg_process.proofs.BlockLemmas.{orderly_script, joined-map}
use Rattle.vg_process.proofs.schedule.Processes.new.Goals as goal

pub invariant_of-result : goal.invariant_of-result
invariant_of-result c =
    let blocks = c.args.script.now.blocks in
    let made = c.loop-block.invariant in
    let all : c.loop-block.states.items ≡ map events_of blocks = made.states ∙ ap (map events_of) (take_all c.loop-block.block-index c.as_slice-blocks.result.now (omega arith) ∙ c.as_slice-blocks.ensures) in
    record { times = c.in_ok-new.ensures ∙ made.times; orderly = rw all (orderly_script c.args.script.now c.requires) }

pub returns : goal.returns
returns c =
    let blocks = c.args.script.now.blocks in
    let made = c.loop-block.invariant in
    let all : c.loop-block.states.items ≡ map events_of blocks = made.states ∙ ap (map events_of) (take_all c.loop-block.block-index c.as_slice-blocks.result.now (omega arith) ∙ c.as_slice-blocks.ensures) in
    ap left all ∙ ap in_order (joined-map blocks)
