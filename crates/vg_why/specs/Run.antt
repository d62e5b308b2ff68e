-- What a call prints and answers.
use Rattle.std.specs.Prelude.{◌≡◌, ◌⊎◌, ℕ, List, Option, Some, None, Ok, Err, Result}
use Rattle.std.specs.Borrow.{Bor}
use Rattle.vg_outside.specs.Files.{Files, FailedLoad}
use Rattle.vg_words.specs.Command.{texts}
use Rattle.vg_files.specs.Checks.{CheckBytes}
use Rattle.vg_files.specs.Refusals.{status_of, line_of}
use Rattle.vg_files.specs.declared.refusals.Refusal.{Refusal}
use Rattle.vg_files.specs.declared.refusals.Refusal.TheVariants as refusals
use Rattle.vg_files.specs.declared.refusals.Stop.{Stop}
use Rattle.vg_files.specs.declared.refusals.Stop.TheVariants as stops
use Rattle.vg_why.specs.declared.top.Due.{Due}
use Rattle.vg_why.specs.Asked.{Ask, asked}
use Rattle.vg_why.specs.Files.{AreLoaded, IsLoadedNext, IsFound, IsRefusedBy}

-- a call: its words, and of the folder its files where it names them, and how often calls on a name have failed, before and after
pub record Call : Type 0 where
  pub words : List (List ℕ)
  pub files : Option Files
  pub faults : List ℕ → ℕ
  pub faults_after : List ℕ → ℕ

-- a call, by what its contract sees of it
abbrev pub called : List (Bor (List ℕ)) → Option Files → (faults faults_after : List ℕ → ℕ) → Call
called words files faults faults_after = record { words = texts words; files = files; faults = faults; faults_after = faults_after }

-- the words ask for this text, over the files of the folder
pub record IsWhy (call : Call) (text : List ℕ) : Type 0 where
  pub ask : Ask
  pub is_ask : asked call.words ≡ Some ask
  pub bytes : CheckBytes
  pub loaded : AreLoaded call.files ask bytes
  pub found : IsFound ask.asked bytes text

-- the files were loaded, and are refused so
abbrev pub IsRefusedAt : Call → Ask → Refusal → Type 0
IsRefusedAt call ask refusal = (bytes : CheckBytes) × AreLoaded call.files ask bytes × IsRefusedBy ask.asked bytes refusal

-- why nothing else is printed: a file couldn't be loaded, or what was loaded is refused
abbrev pub IsRefusedWith : Call → Ask → Refusal → Type 0
IsRefusedWith call ask (refusals.Load name) =
    IsLoadedNext call.files ask name.now × FailedLoad call.files name.now (call.faults name.now) (call.faults_after name.now)
IsRefusedWith call ask refusal = IsRefusedAt call ask refusal

-- the words ask for nothing that there is; or what they ask for is refused
abbrev pub IsRefused : Call → Refusal → Type 0
IsRefused call refusal =
    ((refusal ≡ refusals.Usage) × (asked call.words ≡ None)) ⊎ ((ask : Ask) × (asked call.words ≡ Some ask) × IsRefusedWith call ask refusal)

-- what is due at the end of a call: a status, and a text to print
abbrev pub IsDue : Call → ℕ → List ℕ → Type 0
IsDue call status text =
    ((status ≡ 0) × IsWhy call text) ⊎ ((refusal : Refusal) × (status ≡ status_of refusal) × IsRefused call refusal × (text ≡ line_of refusal))

-- the text and 0, or the line of the refusal and its status; nothing where memory ran out
abbrev pub IsDueFor : Result (List ℕ) Stop → Option Due → Type 0
IsDueFor told None = Unit {0}
IsDueFor (Ok text) (Some due) = (due.status ≡ 0) × (due.text ≡ text)
IsDueFor (Err stops.Memory) (Some due) = ⊥
IsDueFor (Err (stops.Refused refusal)) (Some due) = (due.status ≡ status_of refusal) × (due.text ≡ line_of refusal)
