-- Worked examples over the wire graph: frames go from the Ethernet input out again.
use Rattle.std.proofs.Common.{◌≡◌, ℕ, true, false, ◌==◌, List, [], ◌∷◌, length, take, map, refl, Some}
use Rattle.std.specs.Prelude.{option_map, nat_lt}
use Rattle.vg_model.specs.declared.fates.End.TheVariants as ends
use Rattle.vg_model.specs.declared.kinds.DropError.TheVariants as errors
use Rattle.vg_model.specs.Bytes.{number16_at}
use Rattle.vg_model.specs.Header.{ones_sum}
use Rattle.vg_model.specs.Packet.{fresh}
use Rattle.vg_model.specs.Leg.{Dropped, Sent, leg}
use Rattle.vg_model.specs.Visit.{ip4_visit}
use Rattle.vg_model.specs.Count.{trace, error_count, interface_count}
use Rattle.vg_model.proofs.Frames.{ip, frame, plain_frame, arp_frame}
use Rattle.vg_model.proofs.ExampleGraphs.{wire, run_alone, fates_alone, sent_alone, ended, node_counts}

-- two IPv4 frames, and one of ARP
abbrev pub two_frames_and_an_arp : List (List ℕ)
two_frames_and_an_arp = plain_frame ∷ plain_frame ∷ arp_frame ∷ []

-- the IPv4 frames are transmitted, and the other is dropped for its type
two_frames_and_an_arp_fates : fates_alone wire two_frames_and_an_arp
    ≡ Some (ended 0 (ends.Tx 0) ∷ ended 1 (ends.Tx 0) ∷ ended 2 (ends.Dropped 2 errors.UnknownType) ∷ [])
unfolding ones_sum
two_frames_and_an_arp_fates = refl

-- unchanged
two_frames_and_an_arp_sent : sent_alone wire two_frames_and_an_arp ≡ Some ((0, plain_frame) ∷ (1, plain_frame) ∷ [])
unfolding ones_sum
two_frames_and_an_arp_sent = refl

-- the counters of the nodes 0 to 8
two_frames_and_an_arp_nodes : option_map (node_counts (0 ∷ 1 ∷ 2 ∷ 3 ∷ 4 ∷ 5 ∷ 6 ∷ 7 ∷ 8 ∷ [])) (run_alone wire two_frames_and_an_arp)
    ≡ Some (3 ∷ 0 ∷ 3 ∷ 0 ∷ 0 ∷ 0 ∷ 0 ∷ 2 ∷ 1 ∷ [])
unfolding ones_sum
two_frames_and_an_arp_nodes = refl

-- the counters of the error and of the interface
two_frames_and_an_arp_counts : option_map {U = ℕ × ℕ} (λ js. (error_count 2 errors.UnknownType js, interface_count 0 js)) (run_alone wire two_frames_and_an_arp)
    ≡ Some (1, 2)
unfolding ones_sum
two_frames_and_an_arp_counts = refl

-- the nodes that each visited: a packet that is dropped ends at `error-drop`
two_frames_and_an_arp_traces : option_map (map trace) (run_alone wire two_frames_and_an_arp)
    ≡ Some ((0 ∷ 2 ∷ 7 ∷ []) ∷ (0 ∷ 2 ∷ 7 ∷ []) ∷ (0 ∷ 2 ∷ 8 ∷ []) ∷ [])
unfolding ones_sum
two_frames_and_an_arp_traces = refl

-- 13 bytes are no Ethernet header, 14 are one
thirteen_and_fourteen_bytes : fates_alone wire (take 13 plain_frame ∷ take 14 plain_frame ∷ [])
    ≡ Some (ended 0 (ends.Dropped 2 errors.Short) ∷ ended 1 (ends.Tx 0) ∷ [])
unfolding ones_sum
thirteen_and_fourteen_bytes = refl

-- frames of so many bytes
abbrev pub of_length : ℕ → List ℕ
of_length len = frame (ip 192 0 2 1) (ip 10 1 2 3) 64 20 len

-- the longest packet has 9216 bytes
longest_packet_and_one_more : fates_alone wire (of_length 9216 ∷ of_length 9217 ∷ [])
    ≡ Some (ended 0 (ends.Tx 0) ∷ ended 1 (ends.Dropped 0 errors.TooLong) ∷ [])
unfolding ones_sum
longest_packet_and_one_more = refl

-- a longer one is dropped by the packet source
longer_packets_are_counted : option_map (error_count 0 errors.TooLong) (run_alone wire (of_length 9216 ∷ of_length 9217 ∷ [])) ≡ Some 1
unfolding ones_sum
longer_packets_are_counted = refl

-- any frame that is short is dropped for that
short_frame_is_dropped : (i : ℕ) (bytes : List ℕ) → nat_lt (length bytes) 14 ≡ true
    → leg ip4_visit wire 1 0 1 2 (fresh i bytes) ≡ Some (record { outcome = Dropped 2 errors.Short; packet = fresh i bytes; visits = 2 ∷ [] })
short_frame_is_dropped i bytes short = rw short refl

-- any other frame that is not of IPv4 is dropped for its type
other_frame_is_dropped : (i : ℕ) (bytes : List ℕ) → nat_lt (length bytes) 14 ≡ false → (number16_at bytes 12 == 0x0800) ≡ false
    → leg ip4_visit wire 1 0 1 2 (fresh i bytes) ≡ Some (record { outcome = Dropped 2 errors.UnknownType; packet = fresh i bytes; visits = 2 ∷ [] })
other_frame_is_dropped i bytes whole other = rw (whole, other) refl

-- any frame of IPv4 is transmitted as it is
ip4_frame_is_sent : (i : ℕ) (bytes : List ℕ) → nat_lt (length bytes) 14 ≡ false → (number16_at bytes 12 == 0x0800) ≡ true
    → leg ip4_visit wire 1 0 1 2 (fresh i bytes) ≡ Some (record { outcome = Sent 0; packet = fresh i bytes; visits = 2 ∷ 7 ∷ [] })
ip4_frame_is_sent i bytes whole ip4 = rw (whole, ip4) refl
