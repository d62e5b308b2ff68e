-- `put_block_remarks`, the comments on blocks: the loop over these.
use Rattle.std.proofs.Common.{◌≡◌, ◌++◌, codes, take, flat_map}
use Rattle.vg_script.specs.declared.scripts.Block.{Block}
use Rattle.vg_diff.specs.Linux.{line_remark, block_line}
use Rattle.vg_diff.proofs.linux.put_block_remarks.Given as goal

abbrev pub invariant-loop-block : goal.invariant-loop-block
invariant-loop-block l = l.out.items ≡ l.fn.out.items ++ flat_map (λ (block : Block). line_remark (block_line block) (codes "a block")) (take l.block-index l.blocks)
