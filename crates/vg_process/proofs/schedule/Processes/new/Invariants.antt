use Rattle.std.proofs.Common.{◌≡◌, map, take}
use Rattle.vg_script.specs.Events.{events_of}
use Rattle.vg_process.specs.Left.{first_time}
use Rattle.vg_process.proofs.schedule.Processes.new.Given as goal

-- the states of the blocks so far
abbrev pub invariant-loop-block : goal.invariant-loop-block
invariant-loop-block l = record {
  states : l.states.items ≡ map events_of (take l.block-index l.blocks);
  times : l.times.items ≡ map first_time l.states.items;
}
