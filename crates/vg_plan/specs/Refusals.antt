-- Why the edits of a script can't be made.
use Rattle.std.specs.Prelude.{◌≡◌, ◌≢◌, ◌⊎◌, ℕ, Result, Err}
use Rattle.vg_model.specs.Edit.{Cause}
use Rattle.vg_script.specs.declared.errors.ScriptCause.{ScriptCause}
use Rattle.vg_script.specs.declared.errors.ScriptCause.TheVariants as causes
use Rattle.vg_script.specs.declared.errors.ScriptError.{ScriptError}
use Rattle.vg_script.specs.Causes.{cause_of}

-- memory ran out, which names no line
abbrev pub out_of_memory : ScriptError
out_of_memory = record { line = 0; cause = causes.Memory }

-- the refusal of a script for an edit: the line of the edit, and why it can't be made
abbrev pub error_of : ℕ × Cause → ScriptError
error_of refusal = record { line = refusal.0; cause = cause_of refusal.1 }

-- the edits are refused, and this is the refusal; or memory ran out
abbrev pub IsRefusalOf : {X : Type 0} → Result X (ℕ × Cause) → ScriptError → Type 0
IsRefusalOf made error = (error ≡ out_of_memory) ⊎ ((refusal : ℕ × Cause) × (made ≡ Err refusal) × (error ≡ error_of refusal))

-- an edit is refused for this cause, but for want of memory
abbrev pub IsCauseOf : {X : Type 0} → Result X Cause → ScriptCause → Type 0
IsCauseOf edited cause = cause ≢ causes.Memory → (why : Cause) × (edited ≡ Err why) × (cause ≡ cause_of why)
