-- Journeys that have come so far.
use Rattle.std.specs.Prelude.{◌≡◌, ℕ, suc, Bool, true, false, [], ◌∷◌, ◌++◌, length, Option, Some, None}
use Rattle.vg_model.specs.declared.fates.Leg.{Leg}
use Rattle.vg_model.specs.Graph.{Graph, handoff_dequeue}
use Rattle.vg_model.specs.Visit.{Visit}
use Rattle.vg_model.specs.Leg.{Way}
use Rattle.vg_model.specs.Journey.{Course, leg_from, last_leg, handed_over}
use Rattle.vg_replay.specs.Legs.{outcome_of, IsUnlessDropped}
use Rattle.vg_replay.specs.declared.walkers.Walker.{Walker}

-- the journey of the packet that is walked, as far as it has come
abbrev pub in_hand : Walker → Course
in_hand w = record { legs = w.legs; outcome = outcome_of w.outcome; packet = w.buffer.packet; visits = w.visits.items }

-- this is the course, but for the packet where it was dropped
pub record IsLike (course now : Course) : Type 0 where
  pub legs : now.legs ≡ course.legs
  pub outcome : now.outcome ≡ course.outcome
  pub packet : IsUnlessDropped course.outcome now.packet course.packet
  pub visits : now.visits ≡ course.visits

-- the course with one more leg
abbrev pub with_leg : Course → Leg → Way → Course
with_leg course here way = record { legs = course.legs ++ here ∷ []; outcome = way.outcome; packet = way.packet; visits = course.visits ++ way.visits }

-- a first leg that is there is gone; or it isn't there
abbrev pub MayBegin : Option Way → Leg → Course → Bool → Type 0
MayBegin leg here now true = (way : Way) × (leg ≡ Some way) × IsLike (last_leg here way) now
MayBegin leg here now false = leg ≡ None

-- the next leg of a packet that was handed over
abbrev pub next_leg : Visit → Graph → (workers : ℕ) → Course → ℕ × ℕ → Option Way
next_leg visit g workers course from = leg_from visit g workers from.1 (suc (length course.legs)) handoff_dequeue from.0 course.packet

-- a packet was handed over, and is gone one leg more
pub record GoesOn (visit : Visit) (g : Graph) (workers generation : ℕ) (before now : Course) : Type 0 where
  pub from : ℕ × ℕ
  pub way : Way
  pub over : handed_over before.outcome ≡ Some from
  pub is : next_leg visit g workers before from ≡ Some way
  pub like : IsLike (with_leg before (record { worker = from.1; generation = generation }) way) now

-- it is gone one leg more, or has none
abbrev pub MayGoOn : Visit → Graph → (workers generation : ℕ) → (before now : Course) → Bool → Type 0
MayGoOn visit g workers generation before now true = GoesOn visit g workers generation before now
MayGoOn visit g workers generation before now false = (from : ℕ × ℕ) → handed_over before.outcome ≡ Some from → next_leg visit g workers before from ≡ None
