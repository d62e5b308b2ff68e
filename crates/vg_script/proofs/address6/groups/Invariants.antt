use Rattle.std.specs.Option.{option_copied}
use Rattle.vg_script.proofs.PartLemmas.{AreGroupsRead, left_of}
use Rattle.vg_script.proofs.address6.groups.Given as goal

abbrev pub invariant-loop-rest : goal.invariant-loop-rest
invariant-loop-rest l = AreGroupsRead l.fn.text l.groups.items (option_copied l.rest)

abbrev pub decreases-loop-rest : goal.decreases-loop-rest
decreases-loop-rest l = left_of (option_copied l.rest)
