use Rattle.std.proofs.Common.{◌≡◌, ◌++◌, take}
use Rattle.vg_model.specs.Errors.{all_errors}
use Rattle.vg_check.specs.Reports.{made_of, made_by}
use Rattle.vg_check.proofs.reporting.put_errors.Given as goal

abbrev pub invariant-loop-error : goal.invariant-loop-error
invariant-loop-error l = l.entries.items ≡ l.initial.entries.items ++ made_of l.name (made_by l.counts.drops l.node) (take l.error-index all_errors)
