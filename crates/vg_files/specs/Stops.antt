-- Why a run stops before its end.
use Rattle.std.specs.Prelude.{◌≡◌, ◌≢◌, ℕ, List, Ok, Err}
use Rattle.vg_model.specs.Graph.{Graph}
use Rattle.vg_capture.specs.declared.captures.Capture.{Capture}
use Rattle.vg_capture.specs.declared.errors.CaptureError.TheVariants as faults
use Rattle.vg_capture.specs.Savefile.{capture_of}
use Rattle.vg_turns.specs.declared.steps.Step.{Step}
use Rattle.vg_turns.specs.Turns.{turns as turns_in}
use Rattle.vg_files.specs.Plan.{graphs_of, MakesPlan}
use Rattle.vg_files.specs.Files.{FileBytes}
use Rattle.vg_files.specs.declared.reading.Input.{Input}
use Rattle.vg_files.specs.declared.refusals.Refusal.{Refusal}
use Rattle.vg_files.specs.declared.refusals.Refusal.TheVariants as refusals
use Rattle.vg_files.specs.declared.refusals.Stop.{Stop}
use Rattle.vg_files.specs.declared.refusals.Stop.TheVariants as stops

-- the fact holds of the refusal, where it isn't for want of memory
abbrev pub OnRefusal : (Refusal → Type 0) → Stop → Type 0
OnRefusal P stops.Memory = Unit {0}
OnRefusal P (stops.Refused refusal) = P refusal

-- a file couldn't be loaded, and the fact holds of its name
abbrev pub IsLoadOf : (List ℕ → Type 0) → Refusal → Type 0
IsLoadOf P refusals.Usage = ⊥
IsLoadOf P (refusals.Load name) = P name.now
IsLoadOf P (refusals.Capture fault) = ⊥
IsLoadOf P (refusals.Script error) = ⊥
IsLoadOf P (refusals.Turns place) = ⊥
IsLoadOf P (refusals.Save name) = ⊥
IsLoadOf P (refusals.Verdict verdict) = ⊥

-- what was loaded is refused, for so many workers: the capture is no savefile; or it is one, and the script is none whose edits can all be
-- made; or both are accepted, and the turns file has a faulty byte
abbrev pub IsRefusedFor : (workers : ℕ) → FileBytes → Refusal → Type 0
IsRefusedFor workers bytes refusals.Usage = ⊥
IsRefusedFor workers bytes (refusals.Load name) = ⊥
IsRefusedFor workers bytes (refusals.Capture fault) = (capture_of bytes.capture ≡ Err fault) × (fault ≢ faults.Memory)
IsRefusedFor workers bytes (refusals.Script error) = ((c : Capture) × (capture_of bytes.capture ≡ Ok c)) × (graphs_of bytes.script ≡ Err error)
IsRefusedFor workers bytes (refusals.Turns place) =
    ((c : Capture) × (capture_of bytes.capture ≡ Ok c)) × ((graphs : List Graph) × (graphs_of bytes.script ≡ Ok graphs))
    × (turns_in workers bytes.turns ≡ Err place)
IsRefusedFor workers bytes (refusals.Save name) = ⊥
IsRefusedFor workers bytes (refusals.Verdict verdict) = ⊥

-- all is accepted: these are the capture and the plan, and the turns file is kept
pub record AreRead (workers : ℕ) (bytes : FileBytes) (input : Input) : Type 0 where
  pub is_capture : capture_of bytes.capture ≡ Ok input.capture
  pub makes : MakesPlan bytes.script input.plan
  pub steps : List Step
  pub are_turns : turns_in workers bytes.turns ≡ Ok steps
