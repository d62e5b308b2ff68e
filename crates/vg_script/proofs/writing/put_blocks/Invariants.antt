use Rattle.std.proofs.Common.{◌≡◌, ◌++◌, take, flat_map}
use Rattle.vg_script.specs.Plain.{line_text, block_lines}
use Rattle.vg_script.proofs.writing.put_blocks.Given as goal

abbrev pub invariant-loop-block : goal.invariant-loop-block
invariant-loop-block l = l.out.items ≡ l.fn.out.items ++ flat_map line_text (flat_map block_lines (take l.block-index l.blocks))
