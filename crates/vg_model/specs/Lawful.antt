-- Which choices a run may make (this project's profile).
use Rattle.std.specs.Prelude.{◌≡◌, ℕ, ◌+◌, ◌<◌, ◌≤◌, ◌&&◌, ◌==◌, List, [], ◌∷◌, length, sum_by, map, Option, Some, None, if◌then◌else◌}
use Rattle.std.specs.List.{AllByRecursion}
use Rattle.vg_model.specs.declared.fates.Leg.{Leg}
use Rattle.vg_model.specs.Leg.{Outcome, Sent, Dropped, Handed}
use Rattle.vg_model.specs.Graph.{Graph}
use Rattle.vg_model.specs.Visit.{Visit}
use Rattle.vg_model.specs.Journey.{Journey, Choice, journeys}

-- how often a leg on the one worker is followed by a leg on the other
abbrev pub hands_in : ℕ → ℕ → List Leg → ℕ
hands_in from to [] = 0
hands_in from to (leg ∷ []) = 0
hands_in from to (leg ∷ next ∷ legs) =
    (if leg.worker == from && next.worker == to then 1 else 0) + hands_in from to (next ∷ legs)

-- the same over all journeys
abbrev pub hands : ℕ → ℕ → List Journey → ℕ
hands from to js = sum_by (λ j. hands_in from to j.course.legs) js

-- generations from this one on never fall, and all are below so many
abbrev pub NeverFall : ℕ → ℕ → List ℕ → Type 0
NeverFall count least [] = Unit {0}
NeverFall count least (g ∷ gs) = (least ≤ g) × (g < count) × NeverFall count g gs

-- the first leg is under this generation, and the later ones under no earlier one
abbrev pub StartsAt : ℕ → ℕ → List ℕ → Type 0
StartsAt count first [] = ⊥
StartsAt count first (g ∷ gs) = (g ≡ first) × NeverFall count first (g ∷ gs)

-- the worker of the last leg
abbrev pub last_worker : List Leg → ℕ
last_worker [] = 0
last_worker (leg ∷ []) = leg.worker
last_worker (leg ∷ next ∷ legs) = last_worker (next ∷ legs)

-- a refused push: the queue had accepted at least as many frames as it has slots, and no more than packets went over it
abbrev pub IsRefusalLawful : ℕ → List Journey → Journey → Option ℕ → Outcome → Type 0
IsRefusalLawful slots js j (Some accepted) (Handed node worker) =
    (slots ≤ accepted) × (accepted ≤ hands (last_worker j.course.legs) worker js)
IsRefusalLawful slots js j (Some accepted) (Sent interface) = ⊥
IsRefusalLawful slots js j (Some accepted) (Dropped node error) = ⊥
IsRefusalLawful slots js j None outcome = Unit {0}

-- the choices behind these journeys are lawful, of so many generations and with so many slots in a handoff queue:
-- `first i` is the generation at the time of packet i
pub record AreLawful (count slots : ℕ) (first : ℕ → ℕ) (js : List Journey) : Type 0 where
  pub generations : AllByRecursion (λ j. StartsAt count (first j.number) (map (λ l. l.generation) j.course.legs)) js
  pub refusals : AllByRecursion (λ j. IsRefusalLawful slots js j j.accepted j.course.outcome) js

-- the choices are lawful for these packets: each packet has its journey under its choice, and these are the journeys
pub record AreLawfulChoices (visit : Visit) (graphs : List Graph) (workers slots : ℕ) (first : ℕ → ℕ)
    (packets : List (List ℕ)) (choices : List Choice) (js : List Journey) : Type 0 where
  pub are_journeys : journeys visit graphs workers packets choices ≡ Some js
  pub lawful : AreLawful (length graphs) slots first js
