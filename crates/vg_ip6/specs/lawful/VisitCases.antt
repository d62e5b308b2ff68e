-- For `ip6_kinds_are_lawful` and `ip6_kinds_never_congest`: what holds of each drop and of each way on holds of a visit.
use Rattle.std.proofs.Common.{◌≡◌, ℕ, ◌+◌, Bool, true, false, not, ◌==◌, length, refl}
use Rattle.std.specs.Prelude.{◌≢◌, Option, Some, None, option_map, slice_get, unwrap_or, if◌then◌else◌, nat_lt, nat_le}
use Rattle.vg_model.specs.declared.kinds.DropError.{DropError}
use Rattle.vg_model.specs.declared.kinds.DropError.TheVariants as errors
use Rattle.vg_model.specs.declared.kinds.Step.{Step}
use Rattle.vg_model.specs.declared.kinds.Step.TheVariants.{Next}
use Rattle.vg_model.specs.declared.kinds.Interface.{Interface}
use Rattle.vg_model.specs.declared.kinds.Adjacency.{Adjacency}
use Rattle.vg_model.specs.declared.routes.RouteTo.{RouteTo}
use Rattle.vg_model.specs.declared.routes.RouteTo.TheVariants as routes
use Rattle.vg_model.specs.Bytes.{number16_at}
use Rattle.vg_model.specs.Graph.{Graph}
use Rattle.vg_model.specs.Packet.{Packet}
use Rattle.vg_model.specs.Members.{member}
use Rattle.vg_model.specs.Route.{best_route6}
use Rattle.vg_model.specs.Visit.{next, dropped, datagram, version, forwarded, ethernet_len, is_foreign, adjacency_of}
use Rattle.vg_ip6.specs.Header.{ip6_header_len, ip6_version, lacks_header, payload_len, hop_limit, destination6, flow_hash6}
use Rattle.vg_ip6.specs.Visit.{type_at, type_ip4, type_ip6, ethernet_dual, ip6_input, ip6_lookup, rewritten6, over_interface6, over_adjacency6, ip6_rewrite}

-- the packet as it leaves to a neighbor
abbrev pub to_neighbor : Adjacency → Interface → Packet → Packet
to_neighbor a i p = record p { bytes = rewritten6 a i p.bytes; interface = Some a.interface }

module _ (P : Step × Packet → Type 0) (g : Graph) (p : Packet) (drops : (error : DropError) → error ≢ errors.Congestion → P (dropped error p)) where
  dual_by : (b c d e : Bool) → P (Next 0, p) → P (Next 1, p)
      → P (if b then dropped errors.Short p else if c then dropped errors.WrongMac p else if d then (Next 0, p) else if e then (Next 1, p) else dropped errors.UnknownType p)
  dual_by true c d e one two = drops errors.Short (λ x. cc)
  dual_by false true d e one two = drops errors.WrongMac (λ x. cc)
  dual_by false false true e one two = one
  dual_by false false false true one two = two
  dual_by false false false false one two = drops errors.UnknownType (λ x. cc)

  pub dual_cases : P (Next 0, p) → P (Next 1, p) → P (ethernet_dual g p)
  dual_cases one two =
      dual_by (nat_lt (length p.bytes) ethernet_len) (unwrap_or (option_map (λ i. is_foreign i p.bytes) (slice_get g.interfaces 0)) true)
      (number16_at p.bytes type_at == type_ip4) (number16_at p.bytes type_at == type_ip6) one two

  input_by : (b c d e : Bool) → P (next p)
      → P (if b then dropped errors.Short p else if c then dropped errors.BadVersion p else if d then dropped errors.BadLength p else if e then dropped errors.TtlZero p else next p)
  input_by true c d e on = drops errors.Short (λ x. cc)
  input_by false true d e on = drops errors.BadVersion (λ x. cc)
  input_by false false true e on = drops errors.BadLength (λ x. cc)
  input_by false false false true on = drops errors.TtlZero (λ x. cc)
  input_by false false false false on = on

  pub input_cases : P (next p) → P (ip6_input p)
  input_cases on =
      let d = datagram p in
      input_by (nat_lt (length d) ip6_header_len) (not (version d == ip6_version)) (nat_lt (length d) (ip6_header_len + payload_len d)) (hop_limit d == 0) on

  -- a packet with a header, and one without
  header_by : (b : Bool) (x : Step × Packet) → (b ≡ false → P x) → P (if b then dropped errors.Unchecked p else x)
  header_by true x h = drops errors.Unchecked (λ x. cc)
  header_by false x h = h refl

  forwarded_by : (o : Option RouteTo) (hash : ℕ) → ((a : ℕ) → P (next (record p { adjacency = Some a }))) → P (forwarded o hash p)
  forwarded_by None hash on = drops errors.NoRoute (λ x. cc)
  forwarded_by (Some routes.Drop) hash on = drops errors.RouteDrop (λ x. cc)
  forwarded_by (Some routes.Local) hash on = drops errors.Local (λ x. cc)
  forwarded_by (Some (routes.Via members)) hash on = on (member members hash)

  pub lookup_cases : ((a : ℕ) → P (next (record p { adjacency = Some a }))) → P (ip6_lookup g p)
  lookup_cases on =
      let d = datagram p in
      let route : Option RouteTo = best_route6 g.routes6 (destination6 d) in
      header_by (lacks_header d) (forwarded route (flow_hash6 d) p) (λ _. forwarded_by route (flow_hash6 d) on)

  sent_by : (b c : Bool) (x : Step × Packet) → P x → P (if b then dropped errors.TtlExpired p else if c then dropped errors.MtuExceeded p else x)
  sent_by true c x on = drops errors.TtlExpired (λ x. cc)
  sent_by false true x on = drops errors.MtuExceeded (λ x. cc)
  sent_by false false x on = on

  interface_by : (a : Adjacency) (o : Option Interface) → ((i : Interface) → o ≡ Some i → P (next (to_neighbor a i p))) → P (over_interface6 a o p)
  interface_by a None on = drops errors.NoRoute (λ x. cc)
  interface_by a (Some i) on =
      let d = datagram p in
      sent_by (nat_le (hop_limit d) 1) (nat_lt i.mtu (ip6_header_len + payload_len d)) (next (to_neighbor a i p)) (on i refl)

  adjacency_by : (o : Option Adjacency)
      → ((a : Adjacency) (i : Interface) → o ≡ Some a → slice_get g.interfaces a.interface ≡ Some i → P (next (to_neighbor a i p))) → P (over_adjacency6 g o p)
  adjacency_by None on = drops errors.NoRoute (λ x. cc)
  adjacency_by (Some a) on = interface_by a (slice_get g.interfaces a.interface) (λ i e. on a i refl e)

  pub rewrite_cases : (lacks_header (datagram p) ≡ false
      → (a : Adjacency) (i : Interface) → adjacency_of g p ≡ Some a → slice_get g.interfaces a.interface ≡ Some i → P (next (to_neighbor a i p))) → P (ip6_rewrite g p)
  rewrite_cases on = header_by (lacks_header (datagram p)) (over_adjacency6 g (adjacency_of g p) p) (λ e. adjacency_by (adjacency_of g p) (on e))
