-- For what `Master::make_one` refuses: a group of one edit is refused for that edit.
use Rattle.std.proofs.Common.{◌≡◌, ◌≢◌, ◌∷◌, [], refl, ap, ◌∙◌, inl, inr}
use Rattle.std.specs.Prelude.{◌⊎◌}
use Rattle.vg_model.specs.declared.edits.EditLine.{EditLine}
use Rattle.vg_model.specs.Edit.{apply, apply_all}
use Rattle.vg_model.specs.Graph.{Graph}
use Rattle.vg_script.specs.declared.errors.ScriptCause.{ScriptCause}
use Rattle.vg_script.specs.declared.errors.ScriptCause.TheVariants.{Memory}
use Rattle.vg_script.specs.declared.errors.ScriptError.{ScriptError}
use Rattle.vg_plan.specs.Refusals.{IsCauseOf, IsRefusalOf, out_of_memory}
use Rattle.vg_plan.proofs.masters.Master.make_one.Goals as goal

refused_alone : (g : Graph) (line : EditLine) (cause : ScriptCause) (error : ScriptError)
    → (error ≡ out_of_memory) ⊎ ((cause ≢ Memory) × (error ≡ record { line = line.line; cause = cause }))
    → IsCauseOf (apply g line.edit) cause → IsRefusalOf (apply_all g (line ∷ [])) error
refused_alone g line cause error (inl memory) refused = inl memory
refused_alone g line cause error (inr said) refused =
    let why = refused said.0 in
    inr ((line.line, why.0), rw (why.1, apply_all) refl, said.1 ∙ ap (λ named. record { line = line.line; cause = named }) why.2)

pub returns-in-Err-clause-refused : goal.returns-in-Err-clause-refused
returns-in-Err-clause-refused c =
    refused_alone c.args.self.now c.args.only.now c.in-Err.cause c.refusal.result c.refusal.ensures.either c.in-Err.ensures.refused
