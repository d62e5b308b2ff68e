-- For `why` and `why_run`: refusals of a call, and what is due.
use Rattle.std.proofs.Common.{◌≡◌, ℕ, ◌≤◌, List, sym, subst, ◌∙◌, inl, inr, arith}
use Rattle.std.specs.Prelude.{Some, Result, Ok, Err, IfOk, IfErr}
use Rattle.vg_outside.specs.Files.{FailedLoad}
use Rattle.vg_files.specs.Checks.{CheckBytes}
use Rattle.vg_files.specs.Refusals.{status_of, line_of}
use Rattle.vg_files.specs.Stops.{OnRefusal, IsLoadOf}
use Rattle.vg_files.specs.declared.refusals.Refusal.{Refusal}
use Rattle.vg_files.specs.declared.refusals.Refusal.TheVariants as refusals
use Rattle.vg_files.specs.declared.refusals.Stop.{Stop}
use Rattle.vg_files.specs.declared.refusals.Stop.TheVariants as stops
use Rattle.vg_why.specs.declared.top.Due.{Due}
use Rattle.vg_why.specs.Asked.{Ask, asked}
use Rattle.vg_why.specs.Files.{AreLoaded, IsLoadedNext, IsRefusedBy}
use Rattle.vg_why.specs.Run.{Call, IsWhy, IsRefused, IsDue, IsDueFor}

-- a fact of all refusals of one kind holds of those of another
pub on_refusal : (P Q : Refusal → Type 0) (stop : Stop) → ((refusal : Refusal) → P refusal → Q refusal) → OnRefusal P stop → OnRefusal Q stop
on_refusal P Q stops.Memory f h = tt
on_refusal P Q (stops.Refused refusal) f h = f refusal h

-- the load that failed was next
pub load_refused : (call : Call) (ask : Ask) (refusal : Refusal) → asked call.words ≡ Some ask
    → IsLoadOf (λ failed. IsLoadedNext call.files ask failed × FailedLoad call.files failed (call.faults failed) (call.faults_after failed)) refusal → IsRefused call refusal
load_refused call ask refusals.Usage is h = absurd h
load_refused call ask (refusals.Load name) is h = inr (ask, is, h)
load_refused call ask (refusals.Capture fault) is h = absurd h
load_refused call ask (refusals.Script error) is h = absurd h
load_refused call ask (refusals.Turns place) is h = absurd h
load_refused call ask (refusals.Save name) is h = absurd h
load_refused call ask (refusals.Verdict verdict) is h = absurd h

-- what was loaded is refused
pub found_refused : (call : Call) (ask : Ask) {bytes : CheckBytes} (refusal : Refusal) → asked call.words ≡ Some ask → AreLoaded call.files ask bytes
    → IsRefusedBy ask.asked bytes refusal → IsRefused call refusal
found_refused call ask {bytes = bytes} refusals.Usage is loaded h = inr (ask, is, (bytes, loaded, h))
found_refused call ask {bytes = bytes} (refusals.Load name) is loaded h = absurd h
found_refused call ask {bytes = bytes} (refusals.Capture fault) is loaded h = inr (ask, is, (bytes, loaded, h))
found_refused call ask {bytes = bytes} (refusals.Script error) is loaded h = inr (ask, is, (bytes, loaded, h))
found_refused call ask {bytes = bytes} (refusals.Turns place) is loaded h = absurd h
found_refused call ask {bytes = bytes} (refusals.Save name) is loaded h = absurd h
found_refused call ask {bytes = bytes} (refusals.Verdict verdict) is loaded h = inr (ask, is, (bytes, loaded, h))

-- what is answered: the text that is asked for, or why there is none
pub record IsAnswer (call : Call) (told : Result (List ℕ) Stop) : Type 0 where
  pub ok : IfOk told (IsWhy call)
  pub err : IfErr told (OnRefusal (IsRefused call))

-- what is due at the end of a call
pub due_is : {call : Call} (told : Result (List ℕ) Stop) (due : Due) → IsAnswer call told → IsDueFor told (Some due) → IsDue call due.status due.text
due_is {call = call} (Ok text) due answer h = inl (h.0, subst (IsWhy call) (sym h.1) answer.ok)
due_is (Err stops.Memory) due answer h = absurd h
due_is (Err (stops.Refused refusal)) due answer h = inr (refusal, h.0, answer.err, h.1)

-- where the status isn't 0, it is that of a refusal
pub refused_at : (call : Call) (status : ℕ) (text : List ℕ) → IsDue call status text → 2 ≤ status
    → (refusal : Refusal) × (status ≡ status_of refusal) × IsRefused call refusal × (text ≡ line_of refusal)
refused_at call status text (inl told) h = absurd (omega (arith, told.0, h))
refused_at call status text (inr refused) h = refused

-- where it is 0, the text is what was asked for
pub told_at : (call : Call) (status : ℕ) (text : List ℕ) → IsDue call status text → status ≡ 0 → IsWhy call text
told_at call status text (inl told) h = told.1
told_at call status text (inr refused) h = absurd (above refused.0 (sym refused.1 ∙ h))
  where
    above : (refusal : Refusal) → status_of refusal ≡ 0 → ⊥
    above refusals.Usage e = omega (arith, e)
    above (refusals.Load name) e = omega (arith, e)
    above (refusals.Capture fault) e = omega (arith, e)
    above (refusals.Script error) e = omega (arith, e)
    above (refusals.Turns place) e = omega (arith, e)
    above (refusals.Save name) e = omega (arith, e)
    above (refusals.Verdict verdict) e = omega (arith, e)
