-- For `put_hex`: its loop.
use Rattle.std.proofs.Common.{◌≡◌, ◌++◌, take, flat_map}
use Rattle.vg_diff.specs.Texts.{pair_text}
use Rattle.vg_diff.proofs.texts.put_hex.Given as goal

abbrev pub invariant-loop-byte : goal.invariant-loop-byte
invariant-loop-byte l = l.out.items ≡ l.fn.out.items ++ flat_map pair_text (take l.byte-index l.bytes)
