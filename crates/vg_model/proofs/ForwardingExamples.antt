-- Worked examples of IPv4 forwarding.
use Rattle.std.proofs.Common.{◌≡◌, ℕ, lit≤, true, false, List, [], ◌∷◌, ◌++◌, length, take, drop, replicate, map, refl, Some}
use Rattle.std.specs.Prelude.{codes, option_map}
use Rattle.vg_model.specs.declared.fates.End.TheVariants as ends
use Rattle.vg_model.specs.declared.kinds.DropError.TheVariants as errors
use Rattle.vg_model.specs.declared.edits.Edit.{Edit}
use Rattle.vg_model.specs.declared.edits.Edit.TheVariants as edits
use Rattle.vg_model.specs.declared.kinds.HashKind.TheVariants.{Flow}
use Rattle.vg_model.specs.declared.routes.RouteWord.TheVariants as words
use Rattle.vg_model.specs.Header.{ones_sum}
use Rattle.vg_model.specs.Hash.{flow_hash}
use Rattle.vg_model.specs.Graph.{Graph}
use Rattle.vg_model.proofs.Frames.{ip, ethernet, frame, plain_frame, plain_header_lowered, full_header, full_header_lowered, header_with_options}
use Rattle.vg_model.proofs.ExampleGraphs.{built, adjacency, prefix, everywhere, route, east, fates_alone, sent_alone, ended}

-- the route to everywhere, over an adjacency of its own
abbrev pub to_all : Edit
to_all = route everywhere (codes "a0")

-- the route to 10.0.0.0/8
abbrev pub to_8 : Edit
to_8 = route (prefix (ip 10 0 0 0) 8 (lit≤ tt) refl) (codes "a8")

-- the route to 10.1.0.0/16
abbrev pub to_16 : Edit
to_16 = route (prefix (ip 10 1 0 0) 16 (lit≤ tt) refl) (codes "a16")

-- the graph with these routes, in this order
abbrev pub with_routes : List Edit → Graph
with_routes routes =
    built (adjacency (codes "a0") (codes "pg0") 0 ∷ adjacency (codes "a8") (codes "pg0") 8 ∷ adjacency (codes "a16") (codes "pg0") 0x16 ∷ routes)

-- the six orders of the routes
abbrev pub orders : List (List Edit)
orders =
    (to_all ∷ to_8 ∷ to_16 ∷ []) ∷ (to_all ∷ to_16 ∷ to_8 ∷ []) ∷ (to_8 ∷ to_all ∷ to_16 ∷ [])
    ∷ (to_8 ∷ to_16 ∷ to_all ∷ []) ∷ (to_16 ∷ to_all ∷ to_8 ∷ []) ∷ (to_16 ∷ to_8 ∷ to_all ∷ []) ∷ []

-- the longest match wins, whatever the order of the routes
longest_match_in_any_order : map (λ order. sent_alone (with_routes order) (plain_frame ∷ [])) orders
    ≡ replicate 6 (Some ((0, 2 ∷ 0 ∷ 0 ∷ 0 ∷ 0 ∷ 0x16 ∷ 2 ∷ 0xfe ∷ 0 ∷ 0 ∷ 0 ∷ 0 ∷ 8 ∷ 0 ∷ plain_header_lowered) ∷ []))
unfolding ones_sum
longest_match_in_any_order = refl

-- what is outside the longer prefixes goes over the shorter ones
shorter_matches : option_map (map (λ sent. take 6 sent.1)) (sent_alone (with_routes (to_all ∷ to_8 ∷ to_16 ∷ []))
    (frame (ip 192 0 2 1) (ip 10 2 0 1) 64 20 34 ∷ frame (ip 192 0 2 1) (ip 11 1 2 3) 64 20 34 ∷ []))
    ≡ Some ((2 ∷ 0 ∷ 0 ∷ 0 ∷ 0 ∷ 8 ∷ []) ∷ (2 ∷ 0 ∷ 0 ∷ 0 ∷ 0 ∷ 0 ∷ []) ∷ [])
unfolding ones_sum
shorter_matches = refl

-- a time to live of 1 is not forwarded, one of 2 is, and one of 0 is not taken in
times_to_live : fates_alone east (map (λ ttl. frame (ip 192 0 2 1) (ip 10 1 2 3) ttl 20 34) (1 ∷ 2 ∷ 0 ∷ []))
    ≡ Some (ended 0 (ends.Dropped 5 errors.TtlExpired) ∷ ended 1 (ends.Tx 0) ∷ ended 2 (ends.Dropped 3 errors.TtlZero) ∷ [])
unfolding ones_sum
times_to_live = refl

-- the one of 2 leaves with 1
time_to_live_falls_by_one : option_map (map (λ sent. take 1 (drop 22 sent.1))) (sent_alone east (frame (ip 192 0 2 1) (ip 10 1 2 3) 2 20 34 ∷ []))
    ≡ Some ((1 ∷ []) ∷ [])
unfolding ones_sum
time_to_live_falls_by_one = refl

-- the carry of a checksum goes round
checksum_goes_round : option_map (map (λ sent. drop 14 sent.1)) (sent_alone east ((ethernet ++ full_header) ∷ [])) ≡ Some (full_header_lowered ∷ [])
unfolding ones_sum
checksum_goes_round = refl

-- padding behind the datagram stays: the length, the checksum and the last 6 bytes of the frame transmitted
padding_stays : option_map (map {B = ℕ × List ℕ × List ℕ} (λ sent. (length sent.1, take 2 (drop 24 sent.1), drop 54 sent.1)))
    (sent_alone east (frame (ip 192 0 2 1) (ip 10 1 2 3) 64 40 60 ∷ []))
    ≡ Some ((60, 0xad ∷ 0xc0 ∷ [], replicate 6 0) ∷ [])
unfolding ones_sum
padding_stays = refl

-- the checksum that came in was 0xacc0
padded_frame_checksum : take 2 (drop 24 (frame (ip 192 0 2 1) (ip 10 1 2 3) 64 40 60)) ≡ 0xac ∷ 0xc0 ∷ []
unfolding ones_sum
padded_frame_checksum = refl

-- a header with options is forwarded; a total length beyond the frame's end is not
options_and_a_bad_length : fates_alone east ((ethernet ++ header_with_options) ∷ frame (ip 192 0 2 1) (ip 10 1 2 3) 64 21 34 ∷ [])
    ≡ Some (ended 0 (ends.Tx 0) ∷ ended 1 (ends.Dropped 3 errors.BadLength) ∷ [])
unfolding ones_sum
options_and_a_bad_length = refl

-- time to live, protocol and checksum of the header with options, as it leaves
options_are_summed : option_map (map (λ sent. take 4 (drop 22 sent.1))) (sent_alone east ((ethernet ++ header_with_options) ∷ []))
    ≡ Some ((63 ∷ 0x11 ∷ 0xaa ∷ 0xcf ∷ []) ∷ [])
unfolding ones_sum
options_are_summed = refl

-- an interface with a filter and a short mtu, and one that is down
abbrev pub filter_and_down : Graph
filter_and_down =
    built
    (edits.Interface (codes "pg0") (record { 0 = 2 ∷ 0xfe ∷ 0 ∷ 0 ∷ 0 ∷ 0 ∷ [] }) 100 true true
    ∷ edits.Interface (codes "lan") (record { 0 = 2 ∷ 0xfe ∷ 0 ∷ 0 ∷ 0 ∷ 1 ∷ [] }) 100 false false
    ∷ adjacency (codes "p") (codes "pg0") 5
    ∷ adjacency (codes "l") (codes "lan") 6
    ∷ route (prefix (ip 10 1 0 0) 16 (lit≤ tt) refl) (codes "p")
    ∷ route (prefix (ip 10 2 0 0) 16 (lit≤ tt) refl) (codes "l")
    ∷ [])

-- in order: to a foreign address; to all, and as long as the mtu; one byte longer; over the interface that is down; with no route
filter_mtu_and_interface_down : fates_alone filter_and_down
    ((2 ∷ 0 ∷ 0 ∷ 0 ∷ 0 ∷ 0x77 ∷ drop 6 plain_frame)
    ∷ (replicate 6 0xff ++ drop 6 (frame (ip 192 0 2 1) (ip 10 1 2 3) 64 100 114))
    ∷ frame (ip 192 0 2 1) (ip 10 1 2 3) 64 101 115
    ∷ frame (ip 192 0 2 1) (ip 10 2 0 1) 64 20 34
    ∷ frame (ip 192 0 2 1) (ip 172 16 0 1) 64 20 34
    ∷ [])
    ≡ Some (ended 0 (ends.Dropped 2 errors.WrongMac)
    ∷ ended 1 (ends.Tx 0)
    ∷ ended 2 (ends.Dropped 5 errors.MtuExceeded)
    ∷ ended 3 (ends.Dropped 6 errors.InterfaceDown)
    ∷ ended 4 (ends.Dropped 4 errors.NoRoute)
    ∷ [])
unfolding ones_sum
filter_mtu_and_interface_down = refl

-- a route over two adjacencies, and one in which the first stands twice
abbrev pub over_two : List (List ℕ) → Graph
over_two names =
    built (adjacency (codes "e0") (codes "pg0") 0x10 ∷ adjacency (codes "e1") (codes "pg0") 0x11
    ∷ edits.Route (prefix (ip 10 1 0 0) 16 (lit≤ tt) refl) (words.Via names) ∷ [])

-- two flows, whose hashes differ in the fourth bit from below
abbrev pub two_flows : List (List ℕ)
two_flows = frame (ip 192 0 2 1) (ip 10 1 2 3) 64 20 34 ∷ frame (ip 192 0 2 1) (ip 10 1 2 11) 64 20 34 ∷ []

-- their hashes
two_flows_hashes : map (flow_hash Flow) two_flows ≡ 0xCACBCBC9 ∷ 0xCACBCBC1 ∷ []
unfolding ones_sum
two_flows_hashes = refl

-- the one goes over the second adjacency and the other over the first
two_flows_part : option_map (map (λ sent. take 6 sent.1)) (sent_alone (over_two (codes "e0" ∷ codes "e1" ∷ [])) two_flows)
    ≡ Some ((2 ∷ 0 ∷ 0 ∷ 0 ∷ 0 ∷ 0x11 ∷ []) ∷ (2 ∷ 0 ∷ 0 ∷ 0 ∷ 0 ∷ 0x10 ∷ []) ∷ [])
unfolding ones_sum
two_flows_part = refl

-- an adjacency that stands twice counts twice
a_member_stands_twice : option_map (map (λ sent. take 6 sent.1)) (sent_alone (over_two (codes "e1" ∷ codes "e1" ∷ codes "e0" ∷ [])) (take 1 two_flows))
    ≡ Some ((2 ∷ 0 ∷ 0 ∷ 0 ∷ 0 ∷ 0x10 ∷ []) ∷ [])
unfolding ones_sum
a_member_stands_twice = refl
