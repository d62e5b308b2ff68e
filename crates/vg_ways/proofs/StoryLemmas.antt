-- For `put_legs`: what is shown of legs, one leg after the other.
use Rattle.std.proofs.Common.{◌≡◌, ℕ, ◌+◌, ◌<◌, ◌≤◌, List, length, take, drop, get_or, refl, sym, subst, ◌∙◌}
use Rattle.std.proofs.lemmas.List.{drop_more, drop_all}
use Rattle.vg_model.specs.declared.fates.Leg.{Leg}
use Rattle.vg_model.specs.Packet.{Packet}
use Rattle.vg_model.specs.Visit.{Visit}
use Rattle.vg_plan.specs.Plan.{Planned}
use Rattle.vg_story.specs.declared.pieces.Piece.{Piece}
use Rattle.vg_ways.specs.Stories.{leg_len, AddsLeg, AddsLegs}

-- legs with these visits are shown, from this packet on and behind these pieces
pub record Telling : Type 0 where
  pub visit : Visit
  pub plan : Planned
  pub workers : ℕ
  pub legs : List Leg
  pub visits : List ℕ
  pub packet : Packet
  pub pieces : List Piece

-- how far that is: the plan, the visits that are left, the packet, and the pieces
pub record Standing : Type 0 where
  pub plan : Planned
  pub rest : List ℕ
  pub packet : Packet
  pub pieces : List Piece

-- the pieces show these legs
abbrev pub Tells : Telling → List Piece → Type 0
Tells t new = AddsLegs t.visit t.plan t.workers t.legs t.visits t.packet t.pieces new

-- they show the legs from a place on
abbrev pub TellsFrom : Telling → ℕ → Standing → List Piece → Type 0
TellsFrom t i s new = AddsLegs t.visit t.plan t.workers (drop i t.legs) s.rest s.packet s.pieces new

-- some of the legs are shown: what shows the others shows all
pub record IsOnTheWay (t : Telling) (i : ℕ) (s : Standing) : Type 0 where
  pub plan_is : s.plan ≡ t.plan
  pub later : (new : List Piece) → TellsFrom t i s new → Tells t new

-- the next leg is shown, whose visits these are
pub record IsNext (t : Telling) (i : ℕ) (s after : Standing) : Type 0 where
  pub d : Leg
  pub within : i < length t.legs
  pub here : List ℕ
  pub here_is : here ≡ take (leg_len s.rest) s.rest
  pub rest_is : after.rest ≡ drop (leg_len s.rest) s.rest
  pub same : after.plan ≡ s.plan
  pub told : AddsLeg t.visit s.plan t.workers (get_or t.legs i d) here s.packet after.packet s.pieces after.pieces

-- one leg more
pub one_leg_more : (t : Telling) (i : ℕ) (s after : Standing) → IsOnTheWay t i s → IsNext t i s after → IsOnTheWay t (i + 1) after
one_leg_more t i s after so_far next =
    let leg : Leg = get_or t.legs i next.d in
    record {
      plan_is = next.same ∙ so_far.plan_is;
      later = λ new others. so_far.later new
          (subst (λ ls. AddsLegs t.visit t.plan t.workers ls s.rest s.packet s.pieces new) (sym (drop_more t.legs i next.d next.within)) (
            after.packet,
            after.pieces,
            subst (λ q. AddsLeg t.visit q t.workers leg (take (leg_len s.rest) s.rest) s.packet after.packet s.pieces after.pieces) so_far.plan_is
                (subst (λ vs. AddsLeg t.visit s.plan t.workers leg vs s.packet after.packet s.pieces after.pieces) next.here_is next.told),
            subst (λ vs. AddsLegs t.visit t.plan t.workers (drop (i + 1) t.legs) vs after.packet after.pieces new) next.rest_is others,
          ));
    }

-- all legs are shown
pub all_legs_told : (t : Telling) (i : ℕ) (s : Standing) → length t.legs ≤ i → IsOnTheWay t i s → Tells t s.pieces
all_legs_told t i s past so_far =
    so_far.later s.pieces (subst (λ ls. AddsLegs t.visit t.plan t.workers ls s.rest s.packet s.pieces s.pieces) (sym (drop_all i t.legs past)) refl)
