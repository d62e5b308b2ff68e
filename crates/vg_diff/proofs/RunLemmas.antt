-- For the clauses of `found` and `diff_run`: what is due at the end of a call.
use Rattle.std.proofs.Common.{◌≡◌, ℕ, ◌≤◌, List, sym, subst, inl, inr, arith}
use Rattle.std.specs.Prelude.{◌⊎◌, Some, Result, Ok, Err, IfOk, IfErr}
use Rattle.vg_diff.specs.declared.refusals.Refusal.{Refusal}
use Rattle.vg_diff.specs.declared.refusals.Refusal.TheVariants as refusals
use Rattle.vg_diff.specs.declared.refusals.Stop.{Stop}
use Rattle.vg_diff.specs.declared.refusals.Stop.TheVariants as stops
use Rattle.vg_diff.specs.declared.top.Due.{Due}
use Rattle.vg_diff.specs.Dues.{IsDueFor}
use Rattle.vg_diff.specs.Refusals.{status_of, line_of}
use Rattle.vg_diff.specs.Run.{Call, IsFoundBy, IsRefused, IsDue}
use Rattle.vg_diff.specs.Stops.{OnRefusal}

-- what is due at the end of a call
pub due_is : (call : Call) (found : Result Due Stop) (due : Due) → IfOk found (λ d. IsFoundBy call d.status d.text.items) × IfErr found (OnRefusal (IsRefused call))
    → IsDueFor found (Some due) → IsDue call due.status due.text.items
due_is call (Ok d) due (ok, err) h =
    inl (subst (λ status. IsFoundBy call status due.text.items) (sym h.0) (subst (λ text. IsFoundBy call d.status text) (sym h.1) ok))
due_is call (Err stops.Memory) due (ok, err) h = absurd h
due_is call (Err (stops.Refused refusal)) due (ok, err) h = inr (refusal, h.0, err, h.1)

-- what was found has the status 0 or 9
found_status : (call : Call) (status : ℕ) (text : List ℕ) → IsFoundBy call status text → (status ≡ 0) ⊎ (status ≡ 9)
found_status call status text (inl compared) = compared.answers.answers_in.is_answer.either
found_status call status text (inr router) = inl router.2.is_status

-- a refusal a status from 2 to 5
refusal_status : (refusal : Refusal) → (2 ≤ status_of refusal) × (status_of refusal ≤ 5)
refusal_status refusals.Usage = (omega arith, omega arith)
refusal_status (refusals.Load name) = (omega arith, omega arith)
refusal_status (refusals.Capture error) = (omega arith, omega arith)
refusal_status (refusals.Report error) = (omega arith, omega arith)
refusal_status (refusals.Script error) = (omega arith, omega arith)
refusal_status refusals.Packets = (omega arith, omega arith)

-- where the status is 0 or 9, what is due was found
pub found_at : (call : Call) (status : ℕ) (text : List ℕ) → IsDue call status text → (status ≡ 0) ⊎ (status ≡ 9) → IsFoundBy call status text
found_at call status text (inl found) at = found
found_at call status text (inr refused) (inl at) = absurd (omega (arith, at, refused.1, (refusal_status refused.0).0))
found_at call status text (inr refused) (inr at) = absurd (omega (arith, at, refused.1, (refusal_status refused.0).1))

-- where it is one from 2 to 5, what is due is the line of a refusal
pub refused_at : (call : Call) (status : ℕ) (text : List ℕ) → IsDue call status text → 2 ≤ status → status ≤ 5
    → (refusal : Refusal) × (status ≡ status_of refusal) × IsRefused call refusal × (text ≡ line_of refusal)
refused_at call status text (inl found) low high = elim (found_status call status text found) [
  | inl zero_status ↦ absurd (omega (arith, zero_status, low))
  | inr nine ↦ absurd (omega (arith, nine, high))
]
refused_at call status text (inr refused) low high = refused

-- what is due has one of these statuses
pub known_status : (call : Call) (status : ℕ) (text : List ℕ) → IsDue call status text
    → ((status ≡ 0) ⊎ (status ≡ 9)) ⊎ ((2 ≤ status) × (status ≤ 5))
known_status call status text (inl found) = inl (found_status call status text found)
known_status call status text (inr refused) = inr (subst (λ s. (2 ≤ s) × (s ≤ 5)) (sym refused.1) (refusal_status refused.0))

-- a fact of all refusals of one kind holds of those of another
pub on_refusal : (P Q : Refusal → Type 0) (stop : Stop) → ((refusal : Refusal) → P refusal → Q refusal) → OnRefusal P stop → OnRefusal Q stop
on_refusal P Q stops.Memory f h = tt
on_refusal P Q (stops.Refused refusal) f h = f refusal h
