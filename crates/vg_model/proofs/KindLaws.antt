-- For `ip4_kinds_are_lawful`, `ip4_kinds_leave_the_room` and `ip4_never_congests` of `vg_check`: what holds of a visit of a node of each IPv4 kind.
use Rattle.std.proofs.Common.{◌≡◌, ℕ, ◌<◌, ◌≤◌, Bool, true, false, not, ◌==◌, List, length, take, refl, sym, subst, arith}
use Rattle.std.specs.Prelude.{◌≢◌, ◌||◌, Option, Some, None, IfSome, option_map, option_and_then, slice_get, unwrap_or, if◌then◌else◌, nat_lt}
use Rattle.std.proofs.lemmas.Bool.{cond_both, ltb-true, not-false}
use Rattle.vg_model.specs.declared.kinds.Kind.{Kind}
use Rattle.vg_model.specs.declared.kinds.Kind.TheVariants as kinds
use Rattle.vg_model.specs.declared.kinds.DropError.{DropError}
use Rattle.vg_model.specs.declared.kinds.DropError.TheVariants as errors
use Rattle.vg_model.specs.declared.kinds.Step.{Step}
use Rattle.vg_model.specs.declared.kinds.Step.TheVariants.{Next, Tx, Dropped, Hand}
use Rattle.vg_model.specs.declared.kinds.Interface.{Interface}
use Rattle.vg_model.specs.declared.kinds.Adjacency.{Adjacency}
use Rattle.vg_model.specs.declared.routes.RouteTo.{RouteTo}
use Rattle.vg_model.specs.declared.routes.RouteTo.TheVariants as routes
use Rattle.vg_model.specs.Graph.{Graph, kind_at, slots}
use Rattle.vg_model.specs.Packet.{Packet}
use Rattle.vg_model.specs.Route.{best_route}
use Rattle.vg_model.specs.declared.kinds.HashKind.TheVariants.{Flow}
use Rattle.vg_model.specs.Hash.{flow_hash}
use Rattle.vg_model.specs.Members.{member}
use Rattle.vg_model.specs.Visit.{next, dropped, datagram, header_fault, ethernet_input, ip4_input, forwarded, ip4_lookup, rewritten, sent_over, over_interface, over_adjacency, ip4_rewrite, interface_output, transmit_interface}
use Rattle.vg_model.specs.Visit.{adjacency_of, visit_of, ip4_visit, destination, version, header_len, time_to_live, total_len, ethernet_len, is_foreign}
use Rattle.vg_model.specs.Bytes.{number16_at}
use Rattle.vg_model.specs.Header.{verifies}
use Rattle.vg_model.specs.Valid.{IsValid, IsTarget, IsPacket, IsVisitOf, IsStepOf, IsKindSet, IsMac}
use Rattle.vg_model.proofs.LegEnds.{all_at}
use Rattle.vg_model.proofs.Journeys.{then_some}
use Rattle.vg_model.proofs.Rewrites.{IsRewritten, rewritten_is}

-- what holds of a visit of a node of this kind
record IsVisit (g : Graph) (p : Packet) (kind : Kind) (after : Step × Packet) : Type 0 where
  -- it keeps the laws of visits
  lawful : (n : ℕ) → IsValid g → IsPacket p → kind_at g n ≡ Some kind → IsVisitOf g n p after
  -- it leaves the packet's room
  room : after.1.room ≡ p.room
  -- it is no drop by congestion
  uncongested : after.0 ≢ Dropped errors.Congestion

-- what holds of a packet that a visit sends on
record IsOnward (g : Graph) (p after : Packet) : Type 0 where
  number : after.number ≡ p.number
  room : after.room ≡ p.room
  no_longer : IsValid g → IsPacket p → length after.bytes ≤ length p.bytes
  packet : IsValid g → IsPacket p → IsPacket after

-- an error by which nodes drop: any but that of a full queue
abbrev IsOfNodes : DropError → Type 0
IsOfNodes errors.Congestion = ⊥
IsOfNodes error = Unit {0}

of_nodes : (error : DropError) → IsOfNodes error → error ≢ errors.Congestion
of_nodes errors.Congestion h = absurd h
of_nodes error h = λ e. cc

same_error : (error : DropError) → Dropped error ≡ Dropped errors.Congestion → error ≡ errors.Congestion
same_error error e = cc

-- the first fault of a header is an error of nodes
fault_by : (short version header total checksum zero_ttl : Bool)
    → IfSome (if short then Some errors.Short else if version then Some errors.BadVersion else if header then Some errors.BadHeaderLength
    else if total then Some errors.BadLength else if checksum then Some errors.BadChecksum else if zero_ttl then Some errors.TtlZero else None) IsOfNodes
fault_by true b c d e f = tt
fault_by false true c d e f = tt
fault_by false false true d e f = tt
fault_by false false false true e f = tt
fault_by false false false false true f = tt
fault_by false false false false false true = tt
fault_by false false false false false false = tt

fault_of_nodes : (d : List ℕ) → IfSome (header_fault d) IsOfNodes
fault_of_nodes d =
    fault_by (nat_lt (length d) 20) (not (version d == 4)) (nat_lt (header_len d) 20 || nat_lt (length d) (header_len d))
    (nat_lt (total_len d) (header_len d) || nat_lt (length d) (total_len d)) (not (verifies (take (header_len d) d))) (time_to_live d == 0)

-- the interface that a packet is transmitted on is there
in_range : (count : ℕ) (o : Option ℕ) → 1 ≤ count → unwrap_or (option_and_then (λ i. if nat_lt i count then Some i else None) o) 0 < count
in_range count None h = omega (arith, h)
in_range count (Some i) h = cond_both (nat_lt i count) (Some i) None (λ o. unwrap_or o 0 < count) (λ e. ltb-true i count e) (λ e. omega (arith, h))

module _ (g : Graph) (p : Packet) (kind : Kind) where
  -- the packet as it was
  stays : (step : Step) → (IsValid g → IsStepOf g (Some kind) step) → step ≢ Dropped errors.Congestion → IsVisit g p kind (step, p)
  stays step is uncongested = record {
    lawful = λ n valid packet at. record {
      step = subst (λ o. IsStepOf g o step) (sym at) (is valid);
      number = refl;
      no_larger = omega arith;
      room = λ few _. few;
      packet = packet;
    };
    room = refl;
    uncongested = uncongested;
  }

  drops : (error : DropError) → IsOfNodes error → IsVisit g p kind (dropped error p)
  drops error h = stays (Dropped error) (λ _. tt) (λ e. of_nodes error h (same_error error e))

  goes_on : 0 < length (slots kind) → IsVisit g p kind (next p)
  goes_on h = stays (Next 0) (λ _. h) (λ e. cc)

  -- over slot 0, with this packet after the visit
  goes_with : 0 < length (slots kind) → (after : Packet) → IsOnward g p after → IsVisit g p kind (next after)
  goes_with h after onward = record {
    lawful = λ n valid packet at. record {
      step = subst (λ o. IsStepOf g o (Next 0)) (sym at) h;
      number = onward.number;
      no_larger = omega (arith, onward.room, onward.no_longer valid packet);
      room = λ few _. omega (arith, onward.room, few);
      packet = onward.packet valid packet;
    };
    room = onward.room;
    uncongested = λ e. cc;
  }

  -- a test, and what follows in each case
  tested : (b : Bool) (x y : Step × Packet) → (b ≡ true → IsVisit g p kind x) → (b ≡ false → IsVisit g p kind y) → IsVisit g p kind (if b then x else y)
  tested b x y h k = cond_both b x y (IsVisit g p kind) h k

  -- ethernet-input
  ethernet_by : (b c d : Bool) → IsVisit g p kind (next p)
      → IsVisit g p kind (if b then dropped errors.Short p else if c then dropped errors.WrongMac p else if d then dropped errors.UnknownType p else next p)
  ethernet_by true c d h = drops errors.Short tt
  ethernet_by false true d h = drops errors.WrongMac tt
  ethernet_by false false true h = drops errors.UnknownType tt
  ethernet_by false false false h = h

  ethernet_laws : 0 < length (slots kind) → IsVisit g p kind (ethernet_input g p)
  ethernet_laws h =
      ethernet_by (nat_lt (length p.bytes) ethernet_len) (unwrap_or (option_map (λ i. is_foreign i p.bytes) (slice_get g.interfaces 0)) true)
      (not (number16_at p.bytes 12 == 0x0800)) (goes_on h)

  checked_laws : 0 < length (slots kind) → (o : Option DropError) → header_fault (datagram p) ≡ o → IfSome o IsOfNodes
      → IsVisit g p kind (unwrap_or (option_map (λ error. dropped error p) o) (next (record p { checked = true })))
  checked_laws h None e own = goes_with h (record p { checked = true }) (record {
    number = refl;
    room = refl;
    no_longer = λ _ _. omega arith;
    packet = λ _ packet. record { bytes = packet.bytes; sound = λ _. e };
  })
  checked_laws h (Some error) e own = drops error own

  input_laws : 0 < length (slots kind) → IsVisit g p kind (ip4_input p)
  input_laws h = checked_laws h (header_fault (datagram p)) refl (fault_of_nodes (datagram p))

  forwarded_laws : 0 < length (slots kind) → (o : Option RouteTo) (hash : ℕ) → IsVisit g p kind (forwarded o hash p)
  forwarded_laws h None hash = drops errors.NoRoute tt
  forwarded_laws h (Some routes.Drop) hash = drops errors.RouteDrop tt
  forwarded_laws h (Some routes.Local) hash = drops errors.Local tt
  forwarded_laws h (Some (routes.Via members)) hash = goes_with h (record p { adjacency = Some (member members hash) }) (record {
    number = refl;
    room = refl;
    no_longer = λ _ _. omega arith;
    packet = λ _ packet. record { bytes = packet.bytes; sound = packet.sound };
  })

  lookup_laws : 0 < length (slots kind) → IsVisit g p kind (ip4_lookup g p)
  lookup_laws h =
      let route : Option RouteTo = best_route g.routes (destination (datagram p)) in
      let hash = flow_hash Flow p.bytes in
      tested (not p.checked) (dropped errors.Unchecked p) (forwarded route hash p) (λ _. drops errors.Unchecked tt) (λ _. forwarded_laws h route hash)

  output_laws : 0 < length (slots kind) → IsVisit g p kind (interface_output g p)
  output_laws h =
      tested (unwrap_or (option_map (λ i. i.up) (slice_get g.interfaces (transmit_interface g p))) true) (next p) (dropped errors.InterfaceDown p)
      (λ _. goes_on h) (λ _. drops errors.InterfaceDown tt)

  sent_laws : 0 < length (slots kind) → (adjacency : Adjacency) (interface : Interface) → (IsValid g → IsMac adjacency.mac × IsMac interface.mac) → p.checked ≡ true
      → IsVisit g p kind (sent_over adjacency interface p)
  sent_laws h adjacency interface macs c =
      let after : Packet = record p { bytes = rewritten adjacency interface p.bytes; interface = Some adjacency.interface } in
      tested (time_to_live (datagram p) == 1) (dropped errors.TtlExpired p) (if nat_lt interface.mtu (total_len (datagram p)) then dropped errors.MtuExceeded p else next after)
      (λ _. drops errors.TtlExpired tt) (λ more.
      tested (nat_lt interface.mtu (total_len (datagram p))) (dropped errors.MtuExceeded p) (next after) (λ _. drops errors.MtuExceeded tt) (λ _.
      let new : IsValid g → IsPacket p → IsRewritten p.bytes after.bytes =
      λ valid packet. rewritten_is adjacency interface p.bytes (macs valid).0 (macs valid).1 packet.bytes (packet.sound c) more in
      goes_with h after (record {
        number = refl;
        room = refl;
        no_longer = λ valid packet. omega (arith, (new valid packet).len);
        packet = λ valid packet. record { bytes = (new valid packet).bytes; sound = λ _. (new valid packet).fault };
      })))

  interface_laws : 0 < length (slots kind) → p.checked ≡ true → (a : Adjacency) → (IsValid g → IsMac a.mac) → (o : Option Interface)
      → ((i : Interface) → o ≡ Some i → IsValid g → IsMac i.mac) → IsVisit g p kind (over_interface a o p)
  interface_laws h c a mac None macs = drops errors.NoRoute tt
  interface_laws h c a mac (Some i) macs = sent_laws h a i (λ valid. (mac valid, macs i refl valid)) c

  adjacency_laws : 0 < length (slots kind) → p.checked ≡ true → (o : Option Adjacency) → ((a : Adjacency) → o ≡ Some a → IsValid g → IsMac a.mac)
      → IsVisit g p kind (over_adjacency g o p)
  adjacency_laws h c None macs = drops errors.NoRoute tt
  adjacency_laws h c (Some a) macs = interface_laws h c a (macs a refl) (slice_get g.interfaces a.interface)
      (λ i e valid. all_at (λ (x : Interface). IsMac x.mac) g.interfaces a.interface i e valid.interface_macs)

  rewrite_laws : 0 < length (slots kind) → IsVisit g p kind (ip4_rewrite g p)
  rewrite_laws h =
      tested (not p.checked) (dropped errors.Unchecked p) (over_adjacency g (adjacency_of g p) p)
      (λ _. drops errors.Unchecked tt)
      (λ c. adjacency_laws h (not-false _ c) (adjacency_of g p) (λ a e valid.
      let found = then_some (slice_get g.adjacencies) p.adjacency a e in
      all_at (λ (x : Adjacency). IsMac x.mac) g.adjacencies found.0 a found.2 valid.adjacency_macs))

  transmit_laws : IsVisit g p kind (Tx (transmit_interface g p), p)
  transmit_laws = stays (Tx (transmit_interface g p)) (λ valid. in_range (length g.interfaces) p.interface valid.interfaces) (λ e. cc)

-- a visit of a node of each kind; the last line is for each kind that drops all packets, or that another set of kinds visits
kind_laws : (g : Graph) (p : Packet) (kind : Kind) → IsVisit g p kind (visit_of kind g p)
kind_laws g p kinds.EthernetInput = ethernet_laws g p kinds.EthernetInput (omega arith)
kind_laws g p kinds.Ip4Input = input_laws g p kinds.Ip4Input (omega arith)
kind_laws g p kinds.Ip4Lookup = lookup_laws g p kinds.Ip4Lookup (omega arith)
kind_laws g p kinds.Ip4Rewrite = rewrite_laws g p kinds.Ip4Rewrite (omega arith)
kind_laws g p kinds.InterfaceOutput = output_laws g p kinds.InterfaceOutput (omega arith)
kind_laws g p kinds.InterfaceTx = transmit_laws g p kinds.InterfaceTx
kind_laws g p kinds.Pass = goes_on g p kinds.Pass (omega arith)
kind_laws g p (kinds.WorkerHandoff hash) = stays g p (kinds.WorkerHandoff hash) (Hand (flow_hash hash p.bytes)) (λ _. (hash, refl)) (λ e. cc)
kind_laws g p kind = drops g p kind errors.Blackhole tt

-- a visit of any node: it has the kind of the node, where there is one of this number
module _ (g : Graph) (n : ℕ) (p : Packet) where
  abbrev visit_at : Option Kind → Step × Packet
  visit_at o = unwrap_or (option_map (λ kind. visit_of kind g p) o) (dropped errors.Blackhole p)

  lawful_at : IsValid g → IsPacket p → (o : Option Kind) → kind_at g n ≡ o → IsTarget o → IsVisitOf g n p (visit_at o)
  lawful_at valid packet None at target = absurd target
  lawful_at valid packet (Some kind) at target = (kind_laws g p kind).lawful n valid packet at

  room_at : (o : Option Kind) → (visit_at o).1.room ≡ p.room
  room_at None = refl
  room_at (Some kind) = (kind_laws g p kind).room

  uncongested_at : (o : Option Kind) → (visit_at o).0 ≢ Dropped errors.Congestion
  uncongested_at None = λ e. cc
  uncongested_at (Some kind) = (kind_laws g p kind).uncongested

-- the IPv4 kinds are a set of kinds
pub ip4_laws : IsKindSet ip4_visit
ip4_laws g n p valid target packet = lawful_at g n p valid packet (kind_at g n) refl target

-- no visit changes the room
pub room_stays : (g : Graph) (n : ℕ) (p : Packet) → (ip4_visit g n p).1.room ≡ p.room
room_stays g n p = room_at g n p (kind_at g n)

-- no visit is a drop by congestion
pub ip4_uncongested : (g : Graph) (n : ℕ) (p : Packet) → (ip4_visit g n p).0 ≢ Dropped errors.Congestion
ip4_uncongested g n p = uncongested_at g n p (kind_at g n)
