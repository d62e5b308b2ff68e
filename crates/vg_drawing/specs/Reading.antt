-- Why a script or a report isn't read.
use Rattle.std.specs.Prelude.{◌≡◌, ◌≢◌, ℕ, List, Option, Some}
use Rattle.vg_outside.specs.Files.{Files, FailedLoad}
use Rattle.vg_script.specs.declared.errors.ScriptCause.TheVariants as script_causes
use Rattle.vg_drawing.specs.declared.refusals.Refusal.{Refusal}
use Rattle.vg_drawing.specs.declared.refusals.Refusal.TheVariants as refusals
use Rattle.vg_drawing.specs.Run.{IsScriptRefusal, IsScriptFault, IsReportFault}

-- a file couldn't be loaded, and the fact holds of its name
abbrev pub IsLoadOf : (List ℕ → Type 0) → Refusal → Type 0
IsLoadOf P refusals.Usage = ⊥
IsLoadOf P (refusals.Generation count) = ⊥
IsLoadOf P (refusals.Load name) = P name.now
IsLoadOf P (refusals.Script error) = ⊥
IsLoadOf P (refusals.Report error) = ⊥

-- the text is refused
abbrev pub IsScriptRefusalFor : List ℕ → Refusal → Type 0
IsScriptRefusalFor text refusals.Usage = ⊥
IsScriptRefusalFor text (refusals.Generation count) = ⊥
IsScriptRefusalFor text (refusals.Load name) = ⊥
IsScriptRefusalFor text (refusals.Script error) = IsScriptRefusal text error × (error.cause ≢ script_causes.Memory)
IsScriptRefusalFor text (refusals.Report error) = ⊥

-- the script of this name couldn't be loaded, or it is refused
abbrev pub IsScriptStop : Option Files → List ℕ → (before after : List ℕ → ℕ) → Refusal → Type 0
IsScriptStop files name before after refusals.Usage = ⊥
IsScriptStop files name before after (refusals.Generation count) = ⊥
IsScriptStop files name before after (refusals.Load failed) = (failed.now ≡ name) × FailedLoad files name (before name) (after name)
IsScriptStop files name before after (refusals.Script error) = IsScriptFault files name error
IsScriptStop files name before after (refusals.Report error) = ⊥

-- the report couldn't be loaded, or it is none
abbrev pub IsReportStop : Option Files → Option (List ℕ) → (before after : List ℕ → ℕ) → Refusal → Type 0
IsReportStop files named before after refusals.Usage = ⊥
IsReportStop files named before after (refusals.Generation count) = ⊥
IsReportStop files named before after (refusals.Load failed) = (named ≡ Some failed.now) × FailedLoad files failed.now (before failed.now) (after failed.now)
IsReportStop files named before after (refusals.Script error) = ⊥
IsReportStop files named before after (refusals.Report error) = (name : List ℕ) × (named ≡ Some name) × IsReportFault files name error
