-- For `put_parts`: its loop.
use Rattle.std.proofs.Common.{◌≡◌, ◌++◌, ◌∷◌, decimal, take, flat_map}
use Rattle.vg_diff.proofs.addresses.put_parts.Given as goal

abbrev pub invariant-loop-number : goal.invariant-loop-number
invariant-loop-number l = l.out.items ≡ l.initial.out.items ++ flat_map (λ number. 46 ∷ decimal number) (take l.number-index l.others)
