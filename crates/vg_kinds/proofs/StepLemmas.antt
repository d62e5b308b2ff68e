-- For `ip6_kinds_are_lawful` and `ip6_kinds_never_congest` of vg_ip6, and `dot1q_kinds_are_lawful` and `dot1q_kinds_never_congest` of vg_dot1q: drops and ways
-- on as visits that keep the laws, and that are no drops by congestion.
use Rattle.std.proofs.Common.{◌≡◌, ℕ, ◌<◌, ◌≤◌, length, refl, sym, subst, arith}
use Rattle.std.specs.Prelude.{◌≢◌, Some}
use Rattle.vg_model.specs.declared.kinds.Kind.{Kind}
use Rattle.vg_model.specs.declared.kinds.DropError.{DropError}
use Rattle.vg_model.specs.declared.kinds.DropError.TheVariants as errors
use Rattle.vg_model.specs.declared.kinds.Step.TheVariants.{Next, Dropped}
use Rattle.vg_model.specs.Graph.{Graph, slots}
use Rattle.vg_model.specs.Packet.{Packet}
use Rattle.vg_model.specs.Valid.{IsPacket, IsVisitOf, IsStepOf, extent, most_room}
use Rattle.vg_model.specs.Visit.{dropped}
use Rattle.vg_kinds.specs.Around.{IsVisited, IsUncongested}

-- what a visit that sends a packet on may make of it
pub record IsOnward (p after : Packet) : Type 0 where
  pub number : after.number ≡ p.number
  pub no_larger : extent after ≤ extent p
  pub room : p.room ≤ most_room → after.room ≤ most_room
  pub packet : IsPacket after

-- nothing
pub as_it_was : (p : Packet) → IsPacket p → IsOnward p p
as_it_was p packet = record { number = refl; no_larger = omega arith; room = λ few. few; packet = packet }

-- other metadata than bytes, room and mark
pub with_adjacency : (p : Packet) (a : ℕ) → IsPacket p → IsOnward p (record p { adjacency = Some a })
with_adjacency p a packet =
    record { number = refl; no_larger = omega arith; room = λ few. few; packet = record { bytes = packet.bytes; sound = packet.sound } }

pub with_interface : (p : Packet) (i : ℕ) → IsPacket p → IsOnward p (record p { interface = Some i })
with_interface p i packet =
    record { number = refl; no_larger = omega arith; room = λ few. few; packet = record { bytes = packet.bytes; sound = packet.sound } }

module _ (g : Graph) (n : ℕ) (p : Packet) (kind : Kind) (is : IsVisited g n p kind) where
  pub drops : (error : DropError) → IsVisitOf g n p (dropped error p)
  drops error = record {
    step = subst (λ o. IsStepOf g o (Dropped error)) (sym is.node) tt;
    number = refl;
    no_larger = omega arith;
    room = λ few _. few;
    packet = is.packet;
  }

  pub goes_on : (slot : ℕ) → slot < length (slots kind) → (after : Packet) → IsOnward p after → IsVisitOf g n p (Next slot, after)
  goes_on slot h after onward = record {
    step = subst (λ o. IsStepOf g o (Next slot)) (sym is.node) h;
    number = onward.number;
    no_larger = onward.no_larger;
    room = λ few _. onward.room few;
    packet = onward.packet;
  }

-- a drop by another error is no drop by congestion, and a way on is none
pub own_drop : (p : Packet) (error : DropError) → error ≢ errors.Congestion → IsUncongested (dropped error p)
own_drop p error h e = h (same_error e)
  where
    same_error : Dropped error ≡ Dropped errors.Congestion → error ≡ errors.Congestion
    same_error e = cc

pub own_next : (slot : ℕ) (p : Packet) → IsUncongested (Next slot, p)
own_next slot p e = cc
