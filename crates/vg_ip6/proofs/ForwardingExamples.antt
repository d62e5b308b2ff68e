-- Worked examples of IPv6 forwarding.
use Rattle.std.proofs.Common.{◌≡◌, ℕ, ◌+◌, ◌*◌, ◌^◌, lit≤, true, false, List, [], ◌∷◌, ◌++◌, length, take, drop, replicate, map, refl, arith, Some}
use Rattle.std.specs.Prelude.{codes, set, Option, option_map}
use Rattle.std.specs.Int.{w16, to_be_bytes}
use Rattle.vg_model.specs.declared.fates.End.TheVariants as ends
use Rattle.vg_model.specs.declared.fates.Fate.{Fate}
use Rattle.vg_model.specs.declared.kinds.DropError.TheVariants as errors
use Rattle.vg_model.specs.declared.kinds.HashKind.TheVariants.{Flow}
use Rattle.vg_model.specs.declared.kinds.Kind.TheVariants as kinds
use Rattle.vg_model.specs.declared.edits.Edit.{Edit}
use Rattle.vg_model.specs.declared.edits.Edit.TheVariants as edits
use Rattle.vg_model.specs.declared.routes.Prefix6.{Prefix6}
use Rattle.vg_model.specs.declared.routes.RouteWord.TheVariants as words
use Rattle.vg_model.specs.Header.{ones_sum}
use Rattle.vg_model.specs.Hash.{flow_hash}
use Rattle.vg_model.specs.Graph.{Graph}
use Rattle.vg_model.specs.Visit.{Visit, ip4_visit}
use Rattle.vg_model.specs.Journey.{Journey, journeys, fates, sent}
use Rattle.vg_model.specs.Count.{trace}
use Rattle.vg_model.proofs.Frames.{ip, frame, plain_frame, arp_frame}
use Rattle.vg_model.proofs.ExampleGraphs.{built, adjacency, ended, under}
use Rattle.vg_ip6.specs.Header.{flow_hash6}
use Rattle.vg_ip6.specs.Visit.{ip6_visit}

-- the visits of the IPv6 kinds around those of the IPv4 kinds
abbrev pub visits : Visit
visits = ip6_visit ip4_visit

-- 2001:db8:: with this last group
abbrev pub documentation : ℕ → List ℕ
documentation last = 0x20 ∷ 1 ∷ 0x0d ∷ 0xb8 ∷ replicate 10 0 ++ to_be_bytes w16 last

-- an Ethernet header to 02:fe:00:00:00:00 with the type of IPv6, and a header with this payload length and hop limit, from 2001:db8::1
abbrev pub frame6_to : List ℕ → (payload hops : ℕ) → List ℕ
frame6_to destination payload hops =
    2 ∷ 0xfe ∷ 0 ∷ 0 ∷ 0 ∷ 0 ∷ 2 ∷ 0 ∷ 0 ∷ 0 ∷ 0 ∷ 1 ∷ 0x86 ∷ 0xdd ∷ 0x60 ∷ 0 ∷ 0 ∷ 0 ∷ []
    ++ to_be_bytes w16 payload ++ 0x3b ∷ hops ∷ [] ++ documentation 1 ++ destination

-- 54 bytes to 2001:db8::2
abbrev pub plain_frame6 : List ℕ
plain_frame6 = frame6_to (documentation 2) 0 0x40

-- its bytes one by one
plain_frame6_bytes : plain_frame6
    ≡ 0x02 ∷ 0xfe ∷ 0x00 ∷ 0x00 ∷ 0x00 ∷ 0x00 ∷ 0x02 ∷ 0x00 ∷ 0x00 ∷ 0x00 ∷ 0x00 ∷ 0x01 ∷ 0x86 ∷ 0xdd
    ∷ 0x60 ∷ 0x00 ∷ 0x00 ∷ 0x00 ∷ 0x00 ∷ 0x00 ∷ 0x3b ∷ 0x40
    ∷ 0x20 ∷ 0x01 ∷ 0x0d ∷ 0xb8 ∷ 0x00 ∷ 0x00 ∷ 0x00 ∷ 0x00 ∷ 0x00 ∷ 0x00 ∷ 0x00 ∷ 0x00 ∷ 0x00 ∷ 0x00 ∷ 0x00 ∷ 0x01
    ∷ 0x20 ∷ 0x01 ∷ 0x0d ∷ 0xb8 ∷ 0x00 ∷ 0x00 ∷ 0x00 ∷ 0x00 ∷ 0x00 ∷ 0x00 ∷ 0x00 ∷ 0x00 ∷ 0x00 ∷ 0x00 ∷ 0x00 ∷ 0x02 ∷ []
plain_frame6_bytes = refl

-- 2001:db8::/32
abbrev pub documentation_prefix : Prefix6
documentation_prefix = record { addr = 0x20010db8 * 2 ^ 96; len = 32; few = lit≤ tt; host_bits = refl }

-- a graph in which frames go over an Ethernet node for both; `via` are the adjacencies of the one IPv6 route
abbrev pub dual : (via : List (List ℕ)) → List Edit → Graph
dual via more =
    built
    (adjacency (codes "six") (codes "pg0") 0x66
    ∷ adjacency (codes "seven") (codes "pg0") 0x77
    ∷ edits.Route6 documentation_prefix (words.Via via)
    ∷ edits.Node (codes "eth") kinds.EthernetDual
    ∷ edits.Node (codes "in6") kinds.Ip6Input
    ∷ edits.Node (codes "look6") kinds.Ip6Lookup
    ∷ edits.Node (codes "re6") kinds.Ip6Rewrite
    ∷ edits.Arc (codes "re6") (codes "output") (codes "interface-output")
    ∷ edits.Arc (codes "look6") (codes "rewrite") (codes "re6")
    ∷ edits.Arc (codes "in6") (codes "lookup") (codes "look6")
    ∷ edits.Arc (codes "eth") (codes "ip6") (codes "in6")
    ∷ edits.Arc (codes "eth") (codes "ip4") (codes "ip4-input")
    ∷ edits.Arc (codes "pg-input") (codes "out") (codes "eth")
    ∷ more)

-- the same with one adjacency
abbrev pub to_six : Graph
to_six = dual (codes "six" ∷ []) []

-- a run of packets on one worker by one graph
abbrev pub run : Graph → List (List ℕ) → Option (List Journey)
run g packets = journeys visits (g ∷ []) 1 packets (map (λ p. under (0 ∷ [])) packets)

-- what became of the packets then
abbrev pub fates_of : Graph → List (List ℕ) → Option (List Fate)
fates_of g packets = option_map fates (run g packets)

-- what was transmitted then
abbrev pub sent_of : Graph → List (List ℕ) → Option (List (ℕ × List ℕ))
sent_of g packets = option_map sent (run g packets)

-- to the neighbor, from the interface, with a hop limit less by one
forwarded_over_six : sent_of to_six (plain_frame6 ∷ [])
    ≡ Some ((
      0,
      0x02 ∷ 0x00 ∷ 0x00 ∷ 0x00 ∷ 0x00 ∷ 0x66 ∷ 0x02 ∷ 0xfe ∷ 0x00 ∷ 0x00 ∷ 0x00 ∷ 0x00 ∷ 0x86 ∷ 0xdd
          ∷ 0x60 ∷ 0x00 ∷ 0x00 ∷ 0x00 ∷ 0x00 ∷ 0x00 ∷ 0x3b ∷ 0x3f ∷ (documentation 1 ++ documentation 2),
    ) ∷ [])
forwarded_over_six = refl

-- the nodes that it visits
forwarded_over_six_trace : option_map (map trace) (run to_six (plain_frame6 ∷ [])) ≡ Some ((0 ∷ 9 ∷ 10 ∷ 11 ∷ 12 ∷ 6 ∷ 7 ∷ []) ∷ [])
forwarded_over_six_trace = refl

-- in order: a hop limit of 1, a payload length beyond the end, a destination that no prefix covers
three_drops : fates_of to_six
    (frame6_to (documentation 2) 0 1
    ∷ frame6_to (documentation 2) 1 0x40
    ∷ frame6_to (set (documentation 2) 3 0xb9) 0 0x40
    ∷ [])
    ≡ Some (ended 0 (ends.Dropped 12 errors.TtlExpired)
    ∷ ended 1 (ends.Dropped 10 errors.BadLength)
    ∷ ended 2 (ends.Dropped 11 errors.NoRoute)
    ∷ [])
three_drops = refl

-- in order: a hop limit of 0, one byte too few, another version, IPv4, ARP; an IPv4 packet takes the slot of IPv4
other_drops : fates_of to_six
    (frame6_to (documentation 2) 0 0
    ∷ take 53 plain_frame6
    ∷ set plain_frame6 14 0x50
    ∷ plain_frame
    ∷ arp_frame
    ∷ [])
    ≡ Some (ended 0 (ends.Dropped 10 errors.TtlZero)
    ∷ ended 1 (ends.Dropped 10 errors.Short)
    ∷ ended 2 (ends.Dropped 10 errors.BadVersion)
    ∷ ended 3 (ends.Dropped 4 errors.NoRoute)
    ∷ ended 4 (ends.Dropped 9 errors.UnknownType)
    ∷ [])
unfolding ones_sum
other_drops = refl

-- a byte less than an Ethernet header, and a frame to a foreign address where the interface filters
short_and_foreign : fates_of
    (dual (codes "six" ∷ []) (edits.Interface (codes "pg0") (record { 0 = 2 ∷ 0xfe ∷ 0 ∷ 0 ∷ 0 ∷ 0 ∷ [] }) 1500 true true ∷ []))
    (take 13 plain_frame6 ∷ set plain_frame6 5 7 ∷ plain_frame6 ∷ [])
    ≡ Some (ended 0 (ends.Dropped 9 errors.Short) ∷ ended 1 (ends.Dropped 9 errors.WrongMac) ∷ ended 2 (ends.Tx 0) ∷ [])
short_and_foreign = refl

-- a hop limit of 2 leaves as 1, and a byte behind the payload stays
last_hop_and_padding : option_map (map {B = ℕ × List ℕ} (λ sent. (length sent.1, take 1 (drop 21 sent.1))))
    (sent_of to_six ((frame6_to (documentation 2) 0 2 ++ 7 ∷ []) ∷ [])) ≡ Some ((55, 1 ∷ []) ∷ [])
last_hop_and_padding = refl

-- as long as the mtu of 100, and a byte longer
mtu_of_six : fates_of
    (dual (codes "six" ∷ []) (edits.Interface (codes "pg0") (record { 0 = 2 ∷ 0xfe ∷ 0 ∷ 0 ∷ 0 ∷ 0 ∷ [] }) 100 true false ∷ []))
    ((frame6_to (documentation 2) 60 0x40 ++ replicate 60 0) ∷ (frame6_to (documentation 2) 61 0x40 ++ replicate 61 0) ∷ [])
    ≡ Some (ended 0 (ends.Tx 0) ∷ ended 1 (ends.Dropped 12 errors.MtuExceeded) ∷ [])
mtu_of_six = refl

-- an IPv4 packet of 46 bytes with the mark is no IPv6 packet at any of the three kinds
marked_ip4 : map (λ node. fates_of (dual (codes "six" ∷ []) (edits.Arc (codes "ip4-input") (codes "lookup") node ∷ []))
    (frame (ip 192 0 2 1) (ip 10 1 2 3) 64 40 60 ∷ []))
    (codes "in6" ∷ codes "look6" ∷ codes "re6" ∷ [])
    ≡ Some (ended 0 (ends.Dropped 10 errors.BadVersion) ∷ [])
    ∷ Some (ended 0 (ends.Dropped 11 errors.Unchecked) ∷ [])
    ∷ Some (ended 0 (ends.Dropped 12 errors.Unchecked) ∷ [])
    ∷ []
unfolding ones_sum
marked_ip4 = refl

-- a packet that no look-up gave an adjacency
no_adjacency : fates_of (dual (codes "six" ∷ []) (edits.Arc (codes "in6") (codes "lookup") (codes "re6") ∷ [])) (plain_frame6 ∷ [])
    ≡ Some (ended 0 (ends.Dropped 12 errors.NoRoute) ∷ [])
no_adjacency = refl

-- one address, all 128 bits of it
abbrev pub one_address : (last : ℕ) → Prefix6
one_address last = record { addr = 0x20010db8 * 2 ^ 96 + last; len = 128; few = lit≤ tt; host_bits = omega arith }

-- the longest match counts, to the last bit: one address is dropped, one is local, and the next goes on
last_bits_count : fates_of
    (dual (codes "six" ∷ []) (edits.Route6 (one_address 2) words.Drop ∷ edits.Route6 (one_address 4) words.Local ∷ []))
    (map (λ last. frame6_to (documentation last) 0 0x40) (2 ∷ 4 ∷ 3 ∷ []))
    ≡ Some (ended 0 (ends.Dropped 11 errors.RouteDrop) ∷ ended 1 (ends.Dropped 11 errors.Local) ∷ ended 2 (ends.Tx 0) ∷ [])
last_bits_count = refl

-- two flows, whose hashes differ in the fourth bit from below
abbrev pub two_flows : List (List ℕ)
two_flows = plain_frame6 ∷ frame6_to (documentation 10) 0 0x40 ∷ []

-- all groups but the last are the same in source and destination, so the words' exclusive or is that of the last ones
two_flows_hashes : map (λ f. flow_hash6 (drop 14 f)) two_flows ≡ 3 ∷ 11 ∷ []
two_flows_hashes = refl

-- the one goes over the first adjacency and the other over the second
two_flows_part : option_map (map (λ sent. take 6 sent.1)) (sent_of (dual (codes "six" ∷ codes "seven" ∷ []) []) two_flows)
    ≡ Some ((2 ∷ 0 ∷ 0 ∷ 0 ∷ 0 ∷ 0x66 ∷ []) ∷ (2 ∷ 0 ∷ 0 ∷ 0 ∷ 0 ∷ 0x77 ∷ []) ∷ [])
two_flows_part = refl

-- for a handoff an IPv6 frame has no addresses
no_handoff_hash : flow_hash Flow plain_frame6 ≡ 0
no_handoff_hash = refl
