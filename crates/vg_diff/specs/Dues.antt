-- What is due for what was found, or where nothing is compared.
use Rattle.std.specs.Prelude.{◌≡◌, Option, Some, None, Result, Ok, Err}
use Rattle.vg_diff.specs.declared.refusals.Stop.{Stop}
use Rattle.vg_diff.specs.declared.refusals.Stop.TheVariants as stops
use Rattle.vg_diff.specs.declared.top.Due.{Due}
use Rattle.vg_diff.specs.Refusals.{status_of, line_of}

-- what was found, or the line of the refusal and its status; nothing where memory ran out
abbrev pub IsDueFor : Result Due Stop → Option Due → Type 0
IsDueFor found None = Unit {0}
IsDueFor (Ok other) (Some due) = (due.status ≡ other.status) × (due.text.items ≡ other.text.items)
IsDueFor (Err stops.Memory) (Some due) = ⊥
IsDueFor (Err (stops.Refused refusal)) (Some due) = (due.status ≡ status_of refusal) × (due.text.items ≡ line_of refusal)
