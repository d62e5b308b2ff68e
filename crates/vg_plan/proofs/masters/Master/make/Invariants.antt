use Rattle.std.proofs.Common.{◌≡◌, drop}
use Rattle.vg_model.specs.Edit.{apply_all}
use Rattle.vg_plan.proofs.masters.Master.make.Given as goal

abbrev pub invariant-loop-edit : goal.invariant-loop-edit
invariant-loop-edit l = apply_all l.fn.self l.edit-items ≡ apply_all l.self (drop l.edit-index l.edit-items)
