-- For `put_pairs`: its loop.
use Rattle.std.proofs.Common.{◌≡◌, ◌++◌, ◌∷◌, take, flat_map}
use Rattle.vg_script.specs.Plain.{pair_text}
use Rattle.vg_diff.proofs.addresses.put_pairs.Given as goal

abbrev pub invariant-loop-byte : goal.invariant-loop-byte
invariant-loop-byte l = l.out.items ≡ l.initial.out.items ++ flat_map (λ byte. 58 ∷ pair_text byte) (take l.byte-index l.others)
