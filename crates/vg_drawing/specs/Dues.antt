-- What is due for a drawing, or where none is made.
use Rattle.std.specs.Prelude.{◌≡◌, ℕ, List, Option, Some, None, Result, Ok, Err}
use Rattle.vg_drawing.specs.declared.refusals.Stop.{Stop}
use Rattle.vg_drawing.specs.declared.refusals.Stop.TheVariants as stops
use Rattle.vg_drawing.specs.declared.top.Due.{Due}
use Rattle.vg_drawing.specs.Run.{status_of, line_of}

-- the drawing and 0, or the line of the refusal and its status; nothing where memory ran out
abbrev pub IsDueFor : Result (List ℕ) Stop → Option Due → Type 0
IsDueFor drawn None = Unit {0}
IsDueFor (Ok text) (Some due) = (due.status ≡ 0) × (due.text ≡ text)
IsDueFor (Err stops.Memory) (Some due) = ⊥
IsDueFor (Err (stops.Refused refusal)) (Some due) = (due.status ≡ status_of refusal) × (due.text ≡ line_of refusal)
