use Rattle.std.proofs.Common.{◌≡◌, ◌++◌, take}
use Rattle.vg_model.proofs.members.Members.of.Given as goal

abbrev pub invariant-loop-number : goal.invariant-loop-number
invariant-loop-number l = l.members ≡ take 1 l.numbers ++ take l.number-index l.others
