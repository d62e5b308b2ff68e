-- For `route_in`: a script that is refused takes out no route.
use Rattle.std.proofs.Common.{◌≡◌, ℕ, refl, sym, ap}
use Rattle.std.specs.Prelude.{Result, None}
use Rattle.vg_script.specs.declared.errors.ScriptCause.{ScriptCause}
use Rattle.vg_script.specs.declared.errors.ScriptCause.TheVariants as causes
use Rattle.vg_script.specs.declared.errors.ScriptError.{ScriptError}
use Rattle.vg_script.specs.declared.scripts.Script.{Script}
use Rattle.vg_script.specs.Reading.{refused, IsRefusal}
use Rattle.vg_why.specs.Routes.{taken_out_by}

-- but for want of memory the answer is the refusal
refusal_is : (this : Result Script ScriptError) (line : ℕ) (cause : ScriptCause) → (cause ≡ causes.Memory → ⊥) → IsRefusal this line cause → this ≡ refused line cause
refusal_is this line causes.Memory isnt h = absurd (isnt refl)
refusal_is this line cause isnt h = h

pub none_taken_out : (this : Result Script ScriptError) (line : ℕ) (cause : ScriptCause) → (cause ≡ causes.Memory → ⊥) → IsRefusal this line cause
    → None ≡ taken_out_by this
none_taken_out this line cause isnt h = ap taken_out_by (sym (refusal_is this line cause isnt h))
