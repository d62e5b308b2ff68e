-- For the clauses of `Walker::step` and `kept` of `Lists::note`: the packet that is walked.
use Rattle.std.proofs.Common.{◌≡◌, ℕ, suc, [], ◌∷◌, ◌++◌, Bool, true, length, sym, ap, subst, ◌∙◌}
use Rattle.std.specs.Prelude.{Option, Some}
use Rattle.vg_model.specs.declared.kinds.DropError.{DropError}
use Rattle.vg_model.specs.Packet.{Packet}
use Rattle.vg_model.specs.Graph.{Graph, handoff_dequeue}
use Rattle.vg_model.specs.Visit.{Visit}
use Rattle.vg_model.specs.Leg.{Way}
use Rattle.vg_model.specs.Leg as model
use Rattle.vg_model.specs.Journey.{Course, leg_from, handed_over}
use Rattle.vg_replay.specs.declared.legs.Outcome.{Outcome}
use Rattle.vg_replay.specs.declared.legs.Outcome.TheVariants as outcomes
use Rattle.vg_replay.specs.Legs.{outcome_of, IsUnlessDropped, IsLegOf, MayBeLeg}
use Rattle.vg_replay.specs.Courses.{GoesOn}
use Rattle.vg_replay.specs.Trips.{IsKeptOf}

-- a leg more
pub walker_goes_on : (visit : Visit) (g : Graph) (workers generation node worker number : ℕ) (before now : Course) (found : Option Outcome) (outcome : Outcome)
    → MayBeLeg (leg_from visit g workers worker number handoff_dequeue node before.packet) now.packet before.visits now.visits found → found ≡ Some outcome → number ≡ suc (length before.legs)
    → before.outcome ≡ model.Handed node worker → now.outcome ≡ outcome_of outcome → now.legs ≡ before.legs ++ record { worker = worker; generation = generation } ∷ []
    → GoesOn visit g workers generation before now
walker_goes_on visit g workers generation node worker number before now found outcome leg is number_is over ends legs =
    let there : IsLegOf (leg_from visit g workers worker number handoff_dequeue node before.packet) now.packet before.visits now.visits outcome =
    subst (MayBeLeg (leg_from visit g workers worker number handoff_dequeue node before.packet) now.packet before.visits now.visits) is leg in
    record {
      from = (node, worker);
      way = there.way;
      over = ap handed_over over;
      is = ap (λ n. leg_from visit g workers worker n handoff_dequeue node before.packet) (sym number_is) ∙ there.is;
      like = record { legs = legs; outcome = ends ∙ sym there.outcome_is; packet = there.packet; visits = there.are_visits };
    }

-- what is kept of it
pub kept_of : (with_visits : Bool) (number : ℕ) (outcome : Outcome) (now trip : Course) → now.outcome ≡ outcome_of outcome → trip.legs ≡ now.legs → trip.outcome ≡ outcome_of outcome
    → trip.packet ≡ record now.packet { number = number } → (with_visits ≡ true → trip.visits ≡ now.visits)
    → IsKeptOf with_visits number now trip
kept_of with_visits number outcome now trip ends legs same packet visits = record {
  legs = legs;
  outcome = same ∙ sym ends;
  packet = subst (λ o. IsUnlessDropped o trip.packet (record now.packet { number = number })) (sym ends) (by outcome);
  number_is = ap (λ (p : Packet). p.number) packet;
  visits = visits;
}
  where
    by : (outcome : Outcome) → IsUnlessDropped (outcome_of outcome) trip.packet (record now.packet { number = number })
    by (outcomes.Sent interface) = packet
    by (outcomes.Dropped node error) = tt
    by (outcomes.Handed node worker) = packet

pub kept_none : (with_visits : Bool) (number node : ℕ) (error : DropError) (outcome : Outcome) (now trip : Course) → outcome ≡ outcomes.Dropped node error → now.outcome ≡ outcome_of outcome → trip.legs ≡ now.legs
    → trip.outcome ≡ outcome_of outcome → trip.packet.number ≡ number → (with_visits ≡ true → trip.visits ≡ now.visits) → IsKeptOf with_visits number now trip
kept_none with_visits number node error outcome now trip dropped ends legs same number_is visits = record {
  legs = legs;
  outcome = same ∙ sym ends;
  packet = subst (λ o. IsUnlessDropped o trip.packet (record now.packet { number = number })) (sym (ends ∙ ap outcome_of dropped)) tt;
  number_is = number_is;
  visits = visits;
}
