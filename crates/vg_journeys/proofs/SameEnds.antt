-- For `laws::turns_add_trips` and `laws::turns_run_under_their_generation`: ends of packets are told apart by a test.
use Rattle.std.proofs.Common.{◌≡◌, ℕ, Bool, List, [], ◌∷◌, refl, sym, ap, ◌∙◌}
use Rattle.std.specs.Prelude.{bytes_eq, slice_get, unwrap_or}
use Rattle.std.specs.Bool.{Decides}
use Rattle.std.specs.Cmp.Lexicographic.{pointwise}
use Rattle.vg_model.specs.declared.kinds.DropError.{DropError}
use Rattle.vg_model.specs.declared.kinds.DropError.TheVariants as errors
use Rattle.vg_model.specs.Errors.{all_errors, error_number}
use Rattle.vg_model.specs.Leg.{Outcome, Sent, Dropped, Handed}
use Rattle.vg_pool.specs.Contents.{Contents, nothing}
use Rattle.vg_journeys.specs.Ended.{Ended}
use Rattle.vg_journeys.specs.Trips.{Arrival, Drawn, Taken}
use Rattle.vg_journeys.proofs.SameArrivals.{code, decode, back, codes_decide}

-- the error of this place in the order
error_at : ℕ → DropError
error_at place = unwrap_or (slice_get all_errors place) errors.Short

error_back : (error : DropError) → error_at (error_number error) ≡ error
unfolding error_at
error_back errors.Short = refl
error_back errors.TooLong = refl
error_back errors.UnknownType = refl
error_back errors.WrongMac = refl
error_back errors.BadVersion = refl
error_back errors.BadHeaderLength = refl
error_back errors.BadLength = refl
error_back errors.BadChecksum = refl
error_back errors.TtlZero = refl
error_back errors.Unchecked = refl
error_back errors.NoRoute = refl
error_back errors.RouteDrop = refl
error_back errors.Local = refl
error_back errors.TtlExpired = refl
error_back errors.MtuExceeded = refl
error_back errors.InterfaceDown = refl
error_back errors.Congestion = refl
error_back errors.HandoffLimit = refl
error_back errors.Blackhole = refl

-- an outcome in numbers, and back
outcome_code : Outcome → List ℕ
outcome_code (Sent interface) = interface ∷ []
outcome_code (Dropped node error) = node ∷ error_number error ∷ []
outcome_code (Handed node worker) = node ∷ worker ∷ 0 ∷ []

outcome_at : List ℕ → Outcome
outcome_at [] = Sent 0
outcome_at (interface ∷ []) = Sent interface
outcome_at (node ∷ error ∷ []) = Dropped node (error_at error)
outcome_at (node ∷ worker ∷ n ∷ ns) = Handed node worker

outcome_back : (outcome : Outcome) → outcome_at (outcome_code outcome) ≡ outcome
unfolding outcome_at outcome_code
outcome_back (Sent interface) = refl
outcome_back (Dropped node error) = ap (Dropped node) (error_back error)
outcome_back (Handed node worker) = refl

contents_of : Arrival → Contents
contents_of (Drawn number bytes) = nothing 1
contents_of (Taken worker node c) = c

ended_code : Ended → List (List ℕ)
ended_code e = outcome_code e.outcome ∷ code (Taken 0 0 e.contents)

ended_at : List (List ℕ) → Ended
ended_at [] = record { outcome = Sent 0; contents = nothing 1 }
ended_at (outcome ∷ rest) = record { outcome = outcome_at outcome; contents = contents_of (decode rest) }

ended_back : (e : Ended) → ended_at (ended_code e) ≡ e
unfolding ended_at ended_code contents_of
ended_back e = rw (outcome_back e.outcome, back (Taken 0 0 e.contents)) refl

pub same_ended : Ended → Ended → Bool
same_ended x y = pointwise bytes_eq (ended_code x) (ended_code y)

pub same_ended_decides : (x y : Ended) → Decides (same_ended x y) (x ≡ y)
unfolding same_ended
same_ended_decides x y = (
  λ h. sym (ended_back x) ∙ ap ended_at ((codes_decide (ended_code x) (ended_code y)).0 h) ∙ ended_back y,
  λ e. (codes_decide (ended_code x) (ended_code y)).1 (ap ended_code e),
)
