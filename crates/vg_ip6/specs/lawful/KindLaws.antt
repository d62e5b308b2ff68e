-- For `ip6_kinds_are_lawful` and `ip6_kinds_never_congest`: the visits of the IPv6 kinds keep the laws of visits, and none drops a packet by
-- congestion.
use Rattle.std.proofs.Common.{◌≡◌, ℕ, ◌<◌, Bool, true, false, not, ◌==◌, length, refl, sym, arith}
use Rattle.std.specs.Prelude.{Option, Some, None, slice_get, if◌then◌else◌, nat_lt}
use Rattle.std.proofs.lemmas.Bool.{or_parts, eqb-true, not-false}
use Rattle.std.proofs.lemmas.Option.{none-some}
use Rattle.vg_model.specs.declared.kinds.Kind.{Kind}
use Rattle.vg_model.specs.declared.kinds.Kind.TheVariants as kinds
use Rattle.vg_model.specs.declared.kinds.DropError.{DropError}
use Rattle.vg_model.specs.declared.kinds.DropError.TheVariants as errors
use Rattle.vg_model.specs.declared.kinds.Step.TheVariants.{Next}
use Rattle.vg_model.specs.declared.kinds.Interface.{Interface}
use Rattle.vg_model.specs.declared.kinds.Adjacency.{Adjacency}
use Rattle.vg_model.specs.Graph.{Graph, slots}
use Rattle.vg_model.specs.Packet.{Packet}
use Rattle.vg_model.specs.Visit.{Visit, next, datagram, version, adjacency_of}
use Rattle.vg_model.specs.Valid.{IsValid, IsPacket, IsVisitOf, IsKindSet, IsMac}
use Rattle.vg_model.proofs.LegEnds.{all_at}
use Rattle.vg_model.proofs.Journeys.{then_some}
use Rattle.vg_kinds.specs.Around.{IsVisited, AreLawful, IsUncongested, NeverCongest}
use Rattle.vg_kinds.proofs.AroundLemmas.{around_laws}
use Rattle.vg_kinds.proofs.StepLemmas.{as_it_was, with_adjacency, drops, goes_on, own_drop, own_next}
use Rattle.vg_ip6.specs.Header.{ip6_header_len, ip6_version, lacks_header}
use Rattle.vg_ip6.specs.Visit.{rewritten6, ip6_visit_of, ip6_visit}
use Rattle.vg_ip6.specs.lawful.RewriteLemmas.{IsRewritten6, rewritten6_is}
use Rattle.vg_ip6.specs.lawful.VisitCases.{to_neighbor, dual_cases, input_cases, lookup_cases, rewrite_cases}

-- an IPv4 header without a fault has version 4
version_by : (b c : Bool) (rest : Option DropError) → (if b then Some errors.Short else if not c then Some errors.BadVersion else rest) ≡ None → c ≡ true
version_by true c rest h = absurd (none-some _ (sym h))
version_by false false rest h = absurd (none-some _ (sym h))
version_by false true rest h = refl

-- a packet with an IPv6 header lacks the mark, since the version of an IPv4 header would be 4
pub no_mark : (p : Packet) → IsPacket p → lacks_header (datagram p) ≡ false → p.checked ≡ true → ⊥
no_mark p packet has marked =
    let d = datagram p in
    let four : version d ≡ 4 = eqb-true (version d) 4 (version_by (nat_lt (length d) 20) (version d == 4) _ (packet.sound marked)) in
    let six : version d ≡ 6 = eqb-true (version d) 6 (not-false _ (or_parts (nat_lt (length d) ip6_header_len) (not (version d == ip6_version)) has).1) in
    omega (arith, four, six)

module _ (g : Graph) (n : ℕ) (p : Packet) (kind : Kind) (is : IsVisited g n p kind) where
  stays : (slot : ℕ) → slot < length (slots kind) → IsVisitOf g n p (Next slot, p)
  stays slot h = goes_on g n p kind is slot h p (as_it_was p is.packet)

  to_adjacency : 0 < length (slots kind) → (a : ℕ) → IsVisitOf g n p (next (record p { adjacency = Some a }))
  to_adjacency h a = goes_on g n p kind is 0 h (record p { adjacency = Some a }) (with_adjacency p a is.packet)

  leaves : IsValid g → 0 < length (slots kind) → lacks_header (datagram p) ≡ false
      → (a : Adjacency) (i : Interface) → adjacency_of g p ≡ Some a → slice_get g.interfaces a.interface ≡ Some i → IsVisitOf g n p (next (to_neighbor a i p))
  leaves valid h has a i is_a is_i =
      let found = then_some (slice_get g.adjacencies) p.adjacency a is_a in
      let m1 : IsMac a.mac = all_at (λ (x : Adjacency). IsMac x.mac) g.adjacencies found.0 a found.2 valid.adjacency_macs in
      let m2 : IsMac i.mac = all_at (λ (x : Interface). IsMac x.mac) g.interfaces a.interface i is_i valid.interface_macs in
      let new : IsRewritten6 p.bytes (rewritten6 a i p.bytes) = rewritten6_is a i p.bytes m1 m2 is.packet.bytes has in
      goes_on g n p kind is 0 h (to_neighbor a i p) (record {
        number = refl;
        no_larger = omega (arith, new.len);
        room = λ few. few;
        packet = record { bytes = new.bytes; sound = λ marked. absurd (no_mark p is.packet has marked) };
      })

-- a visit of a node of each kind
pub ip6_lawful : AreLawful ip6_visit_of
ip6_lawful g n p kinds.EthernetDual valid is =
    dual_cases (IsVisitOf g n p) g p (λ error _. drops g n p kinds.EthernetDual is error)
    (stays g n p kinds.EthernetDual is 0 (omega arith)) (stays g n p kinds.EthernetDual is 1 (omega arith))
ip6_lawful g n p kinds.Ip6Input valid is =
    input_cases (IsVisitOf g n p) g p (λ error _. drops g n p kinds.Ip6Input is error) (stays g n p kinds.Ip6Input is 0 (omega arith))
ip6_lawful g n p kinds.Ip6Lookup valid is =
    lookup_cases (IsVisitOf g n p) g p (λ error _. drops g n p kinds.Ip6Lookup is error) (to_adjacency g n p kinds.Ip6Lookup is (omega arith))
ip6_lawful g n p kinds.Ip6Rewrite valid is =
    rewrite_cases (IsVisitOf g n p) g p (λ error _. drops g n p kinds.Ip6Rewrite is error) (leaves g n p kinds.Ip6Rewrite is valid (omega arith))
ip6_lawful g n p kind valid is = tt

-- around visits that keep the laws
pub ip6_laws : (inner : Visit) → IsKindSet inner → IsKindSet (ip6_visit inner)
ip6_laws inner lawful = around_laws ip6_visit_of ip6_lawful inner lawful

-- no visit of these kinds drops by congestion
pub ip6_never : NeverCongest ip6_visit_of
ip6_never kinds.EthernetDual g p = dual_cases IsUncongested g p (own_drop p) (own_next 0 p) (own_next 1 p)
ip6_never kinds.Ip6Input g p = input_cases IsUncongested g p (own_drop p) (own_next 0 p)
ip6_never kinds.Ip6Lookup g p = lookup_cases IsUncongested g p (own_drop p) (λ a. own_next 0 (record p { adjacency = Some a }))
ip6_never kinds.Ip6Rewrite g p = rewrite_cases IsUncongested g p (own_drop p) (λ _ a i _ _. own_next 0 (to_neighbor a i p))
ip6_never kind g p = tt
