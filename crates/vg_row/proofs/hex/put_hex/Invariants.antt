-- `put_hex`, what a text of digits adds: the loop over its bytes.
use Rattle.std.proofs.Common.{◌≡◌, ◌<◌, None, IfSome, length}
use Rattle.vg_row.specs.Hex.{hex_read}
use Rattle.vg_row.proofs.hex.put_hex.Given as goal

-- the bytes so far and the rest come to what the text comes to
abbrev pub invariant-loop-rest : goal.invariant-loop-rest
invariant-loop-rest l = (hex_read l.out.items l.high l.rest ≡ hex_read l.initial.out.items None l.fn.text) × IfSome l.high (λ digit. digit < 16)

abbrev pub decreases-loop-rest : goal.decreases-loop-rest
decreases-loop-rest l = length l.rest
