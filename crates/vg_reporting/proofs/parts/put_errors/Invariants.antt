use Rattle.std.proofs.Common.{◌≡◌, ◌++◌, take}
use Rattle.vg_model.specs.Errors.{all_errors}
use Rattle.vg_reporting.specs.Reports.{made_of, made_by}
use Rattle.vg_reporting.proofs.parts.put_errors.Given as goal

abbrev pub invariant-loop-error : goal.invariant-loop-error
invariant-loop-error l = l.entries.items ≡ l.initial.entries.items ++ made_of l.name (made_by l.counts.drops l.node) (take l.error-index all_errors)
