-- `put_there`, the classes of the packets that came though they had to be dropped: the loop over the errors.
use Rattle.std.proofs.Common.{◌≡◌, ◌++◌, take, flat_map}
use Rattle.vg_model.specs.declared.kinds.DropError.{DropError}
use Rattle.vg_diff.specs.Classes.{there_class}
use Rattle.vg_diff.proofs.classes.put_there.Given as goal

abbrev pub invariant-loop-error : goal.invariant-loop-error
invariant-loop-error l = l.out.items ≡ l.fn.out.items ++ flat_map (λ (error : DropError). there_class l.found l.rows error) (take l.error-index l.errors)
