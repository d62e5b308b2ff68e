-- For `load_files` and `load_checked`: files that couldn't be loaded.
use Rattle.std.proofs.Common.{◌≡◌, ℕ, ◌≤◌, List, take, refl, sym, ap, subst, ◌∙◌, inl, inr}
use Rattle.std.specs.Prelude.{Option, Some, None, IsSome, IsSomeAnd}
use Rattle.vg_outside.specs.Files.{Files, file, FirstBytes, FailedLoad, IsAbsent}
use Rattle.vg_words.specs.Command.{Run}
use Rattle.vg_files.specs.declared.refusals.Refusal.{Refusal}
use Rattle.vg_files.specs.declared.refusals.Refusal.TheVariants as refusals
use Rattle.vg_files.specs.declared.refusals.Stop.{Stop}
use Rattle.vg_files.specs.declared.refusals.Stop.TheVariants as stops
use Rattle.vg_files.specs.Files.{IsThere, IsLoadedNext}
use Rattle.vg_files.specs.Stops.{OnRefusal, IsLoadOf}
use Rattle.vg_files.proofs.PrintLemmas.{rose_later}

-- a file of which bytes were loaded is there
pub is_there : (files : Option Files) (name bytes : List ℕ) (n : ℕ) → FirstBytes files name n bytes → IsThere files name
is_there None name bytes n h = tt
is_there (Some files) name bytes n h = found (file files name) h
  where
    found : (o : Option (List ℕ)) → IsSomeAnd o (λ all. bytes ≡ take n all) → IsSome o
    found None h = absurd h
    found (Some all) h = refl

-- a load that failed, by what was there before the loads before it
failed_before : (files now : Option Files) (name : List ℕ) (first before after : ℕ) → now ≡ files → first ≤ before → FailedLoad now name before after → FailedLoad files name first after
failed_before files now name first before after same less (inl rose) = inl (rose_later first before after less rose)
failed_before files now name first before after same less (inr absent) = inr (subst (λ fs. IsAbsent fs name) same absent)

load_of : (P Q : List ℕ → Type 0) (refusal : Refusal) → ((name : List ℕ) → P name → Q name) → IsLoadOf P refusal → IsLoadOf Q refusal
load_of P Q refusals.Usage f h = h
load_of P Q (refusals.Load name) f h = f name.now h
load_of P Q (refusals.Capture fault) f h = h
load_of P Q (refusals.Script error) f h = h
load_of P Q (refusals.Turns place) f h = h
load_of P Q (refusals.Save name) f h = h
load_of P Q (refusals.Verdict verdict) f h = h

pub on_load : (P Q : List ℕ → Type 0) (stop : Stop) → ((name : List ℕ) → P name → Q name) → OnRefusal (IsLoadOf P) stop → OnRefusal (IsLoadOf Q) stop
on_load P Q stops.Memory f h = h
on_load P Q (stops.Refused refusal) f h = load_of P Q refusal f h

-- the turns file is loaded behind the other two
pub turns_next : (files : Option Files) (run : Run) (turns failed capture script : List ℕ) (m n : ℕ) → run.turns ≡ Some turns → failed ≡ turns
    → FirstBytes files run.capture m capture → FirstBytes files run.script n script → IsLoadedNext files run failed
turns_next files run turns failed capture script m n named same first second =
    inr (inr (named ∙ ap Some (sym same), is_there files run.capture capture m first, is_there files run.script script n second))

-- so the load of it is the one that failed
pub turns_failed : (files now : Option Files) (run : Run) (turns : List ℕ) (first before after : List ℕ → ℕ) (capture script : List ℕ) (m n : ℕ) → run.turns ≡ Some turns
    → FirstBytes files run.capture m capture → FirstBytes files run.script n script → now ≡ files → ((other : List ℕ) → first other ≤ before other) → (failed : List ℕ)
    → (failed ≡ turns) × FailedLoad now turns (before turns) (after turns) → IsLoadedNext files run failed × FailedLoad files failed (first failed) (after failed)
turns_failed files now run turns first before after capture script m n named one two same later failed h = (
  turns_next files run turns failed capture script m n named h.0 one two,
  subst (λ name. FailedLoad files name (first name) (after name)) (sym h.0) (failed_before files now turns (first turns) (before turns) (after turns) same (later turns) h.1),
)

-- the load that failed is the next one, by what was there before the loads before it
pub failed_next : (files now : Option Files) (name : List ℕ) (first before after : List ℕ → ℕ) (IsNext : List ℕ → Type 0) → IsNext name → now ≡ files
    → ((other : List ℕ) → first other ≤ before other) → (failed : List ℕ) → (failed ≡ name) × FailedLoad now name (before name) (after name)
    → IsNext failed × FailedLoad files failed (first failed) (after failed)
failed_next files now name first before after IsNext next same later failed h = (
  subst IsNext (sym h.0) next,
  subst (λ n. FailedLoad files n (first n) (after n)) (sym h.0) (failed_before files now name (first name) (before name) (after name) same (later name) h.1),
)
