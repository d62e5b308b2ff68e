-- Worked examples of VLAN tags and cross-connects.
use Rattle.std.proofs.Common.{◌≡◌, ℕ, zero, suc, true, false, List, [], ◌∷◌, take, map, refl, Some}
use Rattle.std.specs.Prelude.{codes, set, Option, option_map}
use Rattle.vg_model.specs.declared.fates.End.TheVariants as ends
use Rattle.vg_model.specs.declared.fates.Fate.{Fate}
use Rattle.vg_model.specs.declared.kinds.DropError.TheVariants as errors
use Rattle.vg_model.specs.declared.kinds.Kind.{Kind}
use Rattle.vg_model.specs.declared.kinds.Kind.TheVariants as kinds
use Rattle.vg_model.specs.declared.kinds.Step.TheVariants.{Next, Dropped}
use Rattle.vg_model.specs.declared.edits.Edit.TheVariants as edits
use Rattle.vg_model.specs.Header.{ones_sum}
use Rattle.vg_model.specs.Packet.{fresh}
use Rattle.vg_model.specs.KindWord.{vlan}
use Rattle.vg_model.specs.Tag.{cut, tagged}
use Rattle.vg_model.specs.Graph.{Graph}
use Rattle.vg_model.specs.Visit.{Visit, ip4_visit}
use Rattle.vg_model.specs.Journey.{Journey, journeys, fates, sent}
use Rattle.vg_model.specs.Count.{trace}
use Rattle.vg_model.proofs.Frames.{plain_frame}
use Rattle.vg_model.proofs.ExampleGraphs.{built, ended, under}
use Rattle.vg_dot1q.specs.Visit.{dot1q_match, dot1q_push, dot1q_visit}

-- the visits of these kinds around those of the IPv4 kinds
abbrev pub visits : Visit
visits = dot1q_visit ip4_visit

-- 20 bytes to 02:fe:00:00:00:00, from 02:00:00:00:00:01, with a tag of these two bytes, ARP, and two bytes more
abbrev pub tagged_frame : (high low : ℕ) → List ℕ
tagged_frame high low = 2 ∷ 0xfe ∷ 0 ∷ 0 ∷ 0 ∷ 0 ∷ 2 ∷ 0 ∷ 0 ∷ 0 ∷ 0 ∷ 1 ∷ 0x81 ∷ 0 ∷ high ∷ low ∷ 8 ∷ 6 ∷ 0 ∷ 1 ∷ []

-- VLAN 100 comes out on a trunk as VLAN 200; the rest goes to the Ethernet input
abbrev pub trunk : Graph
trunk =
    built
    (edits.Interface (codes "trunk") (record { 0 = 2 ∷ 0xfe ∷ 0 ∷ 0 ∷ 0 ∷ 1 ∷ [] }) 1500 true false
    ∷ edits.Node (codes "cut") (kinds.Dot1qMatch (vlan 100 tt tt))
    ∷ edits.Node (codes "tag") (kinds.Dot1qPush (vlan 200 tt tt))
    ∷ edits.Node (codes "cross") (kinds.CrossConnect 1)
    ∷ edits.Arc (codes "cross") (codes "out") (codes "interface-output")
    ∷ edits.Arc (codes "tag") (codes "out") (codes "cross")
    ∷ edits.Arc (codes "cut") (codes "match") (codes "tag")
    ∷ edits.Arc (codes "cut") (codes "else") (codes "ethernet-input")
    ∷ edits.Arc (codes "pg-input") (codes "out") (codes "cut")
    ∷ [])

-- a run of packets on one worker by one graph
abbrev pub run : Graph → List (List ℕ) → Option (List Journey)
run g packets = journeys visits (g ∷ []) 1 packets (map (λ p. under (0 ∷ [])) packets)

-- what became of the packets then
abbrev pub fates_of : Graph → List (List ℕ) → Option (List Fate)
fates_of g packets = option_map fates (run g packets)

-- what was transmitted then
abbrev pub sent_of : Graph → List (List ℕ) → Option (List (ℕ × List ℕ))
sent_of g packets = option_map sent (run g packets)

-- in order: VLAN 100 with priority 1, VLAN 101, and one byte less than a tag and a type
abbrev pub three_frames : List (List ℕ)
three_frames = tagged_frame 0x20 0x64 ∷ tagged_frame 0x20 0x65 ∷ take 17 (tagged_frame 0x20 0x64) ∷ []

-- the first ends on the trunk, the others at the Ethernet input
three_frames_fates : fates_of trunk three_frames
    ≡ Some (ended 0 (ends.Tx 1) ∷ ended 1 (ends.Dropped 2 errors.UnknownType) ∷ ended 2 (ends.Dropped 2 errors.UnknownType) ∷ [])
three_frames_fates = refl

-- it leaves with priority 0 and VLAN 200
three_frames_sent : sent_of trunk three_frames
    ≡ Some ((0, 2 ∷ 0xfe ∷ 0 ∷ 0 ∷ 0 ∷ 0 ∷ 2 ∷ 0 ∷ 0 ∷ 0 ∷ 0 ∷ 1 ∷ 0x81 ∷ 0 ∷ 0 ∷ 0xc8 ∷ 8 ∷ 6 ∷ 0 ∷ 1 ∷ []) ∷ [])
three_frames_sent = refl

-- the nodes that the first two visit
three_frames_traces : option_map (map trace) (run trunk (take 2 three_frames)) ≡ Some ((0 ∷ 9 ∷ 10 ∷ 11 ∷ 6 ∷ 7 ∷ []) ∷ (0 ∷ 9 ∷ 2 ∷ 8 ∷ []) ∷ [])
three_frames_traces = refl

-- one node of this kind, from the packet source to the transmitting node
abbrev pub through : Kind → Graph
through kind =
    built
    (edits.Node (codes "swap") kind
    ∷ edits.Arc (codes "swap") (codes "out") (codes "interface-tx")
    ∷ edits.Arc (codes "pg-input") (codes "out") (codes "swap")
    ∷ [])

-- a tag gets VLAN 300, and its priority and mark stay; a frame without a tag is dropped
renumbered_to_300 : sent_of (through (kinds.Dot1qRewrite (vlan 300 tt tt))) (tagged_frame 0xb0 0x64 ∷ []) ≡ Some ((0, tagged_frame 0xb1 0x2c) ∷ [])
renumbered_to_300 = refl

untagged_is_dropped : fates_of (through (kinds.Dot1qRewrite (vlan 300 tt tt))) (tagged_frame 0xb0 0x64 ∷ plain_frame ∷ [])
    ≡ Some (ended 0 (ends.Tx 0) ∷ ended 1 (ends.Dropped 9 errors.UnknownType) ∷ [])
unfolding ones_sum
untagged_is_dropped = refl

-- 13 bytes get no tag, 14 do
thirteen_and_fourteen_bytes : fates_of (through (kinds.Dot1qPush (vlan 200 tt tt))) (take 13 (tagged_frame 0 0) ∷ take 14 (tagged_frame 0 0) ∷ [])
    ≡ Some (ended 0 (ends.Dropped 9 errors.Short) ∷ ended 1 (ends.Tx 0) ∷ [])
thirteen_and_fourteen_bytes = refl

-- an interface that the graph lacks
cross_to_nowhere : fates_of (through (kinds.CrossConnect 1)) (plain_frame ∷ []) ≡ Some (ended 0 (ends.Dropped 9 errors.InterfaceDown) ∷ [])
unfolding ones_sum
cross_to_nowhere = refl

-- so many times
abbrev pub times : {X : Type 0} → ℕ → (X → X) → X → X
times zero f x = x
times (suc n) f x = f (times n f x)

-- a packet as it is received gets 16 tags and no more
sixteen_tags : map (λ n. (dot1q_push 7 (times n (tagged 7) (fresh 0 (take 14 (tagged_frame 0 0))))).0) (15 ∷ 16 ∷ []) ≡ Next 0 ∷ Dropped errors.TooLong ∷ []
sixteen_tags = refl

-- and loses 16 and no more
sixteen_cuts : map (λ n. (dot1q_match 7 (times n cut (fresh 0 (times 17 (λ p. record (tagged 7 p) { room = 64 }) (fresh 0 (take 14 (tagged_frame 0 0)))).bytes))).0) (15 ∷ 16 ∷ []) ≡ Next 0 ∷ Dropped errors.BadLength ∷ []
sixteen_cuts = refl

-- a frame with a tag of VLAN 1280 whose bytes behind the type are an IPv4 header as well
abbrev pub both_ways : List ℕ
both_ways = set (set plain_frame 12 0x81) 13 0

-- the IPv4 input gives it the mark, and a node of this kind gets it then and leads to the look-up
abbrev pub behind_input : Kind → (slot : List ℕ) → Graph
behind_input kind slot =
    built
    (edits.Node (codes "swap") kind
    ∷ edits.Arc (codes "swap") slot (codes "ip4-lookup")
    ∷ edits.Arc (codes "ip4-input") (codes "lookup") (codes "swap")
    ∷ edits.Arc (codes "pg-input") (codes "out") (codes "ip4-input")
    ∷ [])

-- a tag that goes, comes or is renumbered takes the mark away, also where the VLAN stays; what isn't of the VLAN keeps it, and so
-- does a cross-connect: the look-up then finds no route
the_mark_goes : map (λ g. fates_of g (both_ways ∷ []))
    (behind_input (kinds.Dot1qMatch (vlan 1280 tt tt)) (codes "match")
    ∷ behind_input (kinds.Dot1qPush (vlan 1 tt tt)) (codes "out")
    ∷ behind_input (kinds.Dot1qRewrite (vlan 1280 tt tt)) (codes "out")
    ∷ behind_input (kinds.Dot1qMatch (vlan 1281 tt tt)) (codes "else")
    ∷ behind_input (kinds.CrossConnect 0) (codes "out")
    ∷ [])
    ≡ Some (ended 0 (ends.Dropped 4 errors.Unchecked) ∷ [])
    ∷ Some (ended 0 (ends.Dropped 4 errors.Unchecked) ∷ [])
    ∷ Some (ended 0 (ends.Dropped 4 errors.Unchecked) ∷ [])
    ∷ Some (ended 0 (ends.Dropped 4 errors.NoRoute) ∷ [])
    ∷ Some (ended 0 (ends.Dropped 4 errors.NoRoute) ∷ [])
    ∷ []
unfolding ones_sum
the_mark_goes = refl
