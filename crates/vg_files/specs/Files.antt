-- The files that a run reads.
use Rattle.std.specs.Prelude.{◌≡◌, ◌⊎◌, ℕ, ◌+◌, List, [], Option, Some, None, IfSome, IsSome, unwrap_or}
use Rattle.vg_outside.specs.Files.{Files, file, FirstBytes, HoldsBytes}
use Rattle.vg_capture.specs.Savefile.{largest_file}
use Rattle.vg_script.specs.Reading.{largest_script}
use Rattle.vg_turns.specs.Turns.{most_bytes}
use Rattle.vg_words.specs.Command.{Run}
use Rattle.vg_files.specs.declared.loading.Files as loading

-- the bytes of a run's capture, of its script and of its turns file; where it has no turns file, no bytes
pub record FileBytes : Type 0 where
  pub capture : List ℕ
  pub script : List ℕ
  pub turns : List ℕ

-- what holds of the turns file of this name; where none is named, there are no bytes
abbrev pub OfTurns : (List ℕ → List ℕ → Type 0) → Option (List ℕ) → List ℕ → Type 0
OfTurns P None bytes = bytes ≡ []
OfTurns P (Some name) bytes = P name bytes

-- where the folder tells its files, these are the bytes of the run's
pub record HoldsFiles (files : Option Files) (run : Run) (bytes : FileBytes) : Type 0 where
  pub capture : HoldsBytes files run.capture bytes.capture
  pub script : HoldsBytes files run.script bytes.script
  pub turns : OfTurns (HoldsBytes files) run.turns bytes.turns

-- where the folder tells its files, this one is there
abbrev pub IsThere : Option Files → List ℕ → Type 0
IsThere files name = IfSome files (λ fs. IsSome (file fs name))

-- the file is loaded next: the capture; the script, once the capture was there; or the turns file that the run has, once both were there
abbrev pub IsLoadedNext : Option Files → Run → List ℕ → Type 0
IsLoadedNext files run name =
    (name ≡ run.capture) ⊎ (((name ≡ run.script) × IsThere files run.capture)
    ⊎ ((run.turns ≡ Some name) × IsThere files run.capture × IsThere files run.script))

-- what a folder gave for a run's files, of each up to its greatest length and one byte more
pub record AreFirstBytes (files : Option Files) (run : Run) (bytes : FileBytes) : Type 0 where
  pub capture : FirstBytes files run.capture (largest_file + 1) bytes.capture
  pub script : FirstBytes files run.script (largest_script + 1) bytes.script
  pub turns : OfTurns (λ name. FirstBytes files name (most_bytes + 1)) run.turns bytes.turns

-- what was loaded
abbrev pub bytes_of : loading.Files → FileBytes
bytes_of files = record { capture = files.capture; script = files.script; turns = unwrap_or files.turns [] }
