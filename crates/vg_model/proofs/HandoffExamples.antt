-- Worked examples of packets that are handed from worker to worker.
use Rattle.std.proofs.Common.{◌≡◌, ℕ, List, [], ◌∷◌, replicate, map, refl, Some, None, rules}
use Rattle.std.specs.Prelude.{option_map}
use Rattle.vg_model.specs.declared.fates.End.TheVariants as ends
use Rattle.vg_model.specs.declared.fates.Fate.{Fate}
use Rattle.vg_model.specs.declared.kinds.DropError.TheVariants as errors
use Rattle.vg_model.specs.Header.{ones_sum}
use Rattle.vg_model.specs.Journey.{Choice, Journey, fates, sent}
use Rattle.vg_model.specs.Lawful.{AreLawful, hands}
use Rattle.vg_model.specs.Count.{trace, error_count, interface_count}
use Rattle.vg_model.proofs.Frames.{ip, frame, odd_frame}
use Rattle.vg_model.proofs.ExampleGraphs.{hand, hand_to_drop, five_handoffs, under, refused_under, run, journeys_of, run_alone, leg_on, node_counts}

-- four packets to worker 1: those that worker 0 draws are handed over
abbrev pub four_packets : List (List ℕ)
four_packets = replicate 4 odd_frame

-- packets 0 and 2 go over the queue to worker 1, and packets 1 and 3 are there
abbrev pub four_choices : List Choice
four_choices = under (0 ∷ 0 ∷ []) ∷ under (0 ∷ []) ∷ under (0 ∷ 0 ∷ []) ∷ under (0 ∷ []) ∷ []

-- a packet that is transmitted after these legs
abbrev pub sent_after : (number : ℕ) (workers : List ℕ) → Fate
sent_after number workers = record { number = number; legs = map leg_on workers; congested = None; end = ends.Tx 0 }

-- all are transmitted by worker 1
four_packets_fates : option_map fates (run (hand ∷ []) 2 four_packets four_choices)
    ≡ Some (sent_after 0 (0 ∷ 1 ∷ []) ∷ sent_after 1 (1 ∷ []) ∷ sent_after 2 (0 ∷ 1 ∷ []) ∷ sent_after 3 (1 ∷ []) ∷ [])
unfolding ones_sum
four_packets_fates = refl

-- two went over a queue, and all four visited the handoff node, once each
four_packets_nodes : option_map (node_counts (1 ∷ 9 ∷ [])) (run (hand ∷ []) 2 four_packets four_choices) ≡ Some (2 ∷ 4 ∷ [])
unfolding ones_sum
four_packets_nodes = refl

-- what is transmitted is what one worker transmits
four_packets_sent : option_map sent (run (hand ∷ []) 2 four_packets four_choices) ≡ option_map sent (run_alone hand four_packets)
unfolding ones_sum
four_packets_sent = refl

-- with queues of 64 slots the choices are lawful
four_packets_are_lawful : AreLawful 1 64 (λ number. 0) (journeys_of (hand ∷ []) 2 four_packets four_choices)
unfolding ones_sum
four_packets_are_lawful = record { generations = search rules; refusals = search rules }

-- five packets, of which the queue of one slot refuses the second one that is handed over
abbrev pub five_packets : List (List ℕ)
five_packets = replicate 5 odd_frame

-- the refusing queue had accepted so many
abbrev pub choices_refused_after : ℕ → List Choice
choices_refused_after accepted =
    under (0 ∷ 0 ∷ []) ∷ under (0 ∷ []) ∷ refused_under (0 ∷ []) accepted ∷ under (0 ∷ []) ∷ under (0 ∷ 0 ∷ []) ∷ []

-- their journeys then
abbrev pub five_refused_after : ℕ → List Journey
five_refused_after accepted = journeys_of (hand ∷ []) 2 five_packets (choices_refused_after accepted)

-- packet 2 is dropped as congested, and the others are transmitted
five_packets_fates : option_map fates (run (hand ∷ []) 2 five_packets (choices_refused_after 1))
    ≡ Some (sent_after 0 (0 ∷ 1 ∷ [])
    ∷ sent_after 1 (1 ∷ [])
    ∷ record { number = 2; legs = leg_on 0 ∷ []; congested = Some 1; end = ends.Dropped 9 errors.Congestion }
    ∷ sent_after 3 (1 ∷ [])
    ∷ sent_after 4 (0 ∷ 1 ∷ [])
    ∷ [])
unfolding ones_sum
five_packets_fates = refl

-- the counters of the nodes 0 to 9
five_packets_nodes : node_counts (0 ∷ 1 ∷ 2 ∷ 3 ∷ 4 ∷ 5 ∷ 6 ∷ 7 ∷ 8 ∷ 9 ∷ []) (five_refused_after 1) ≡ 5 ∷ 2 ∷ 4 ∷ 0 ∷ 0 ∷ 0 ∷ 0 ∷ 4 ∷ 1 ∷ 5 ∷ []
unfolding ones_sum
five_packets_nodes = refl

-- the counter of the interface
five_packets_interface : interface_count 0 (five_refused_after 1) ≡ 4
unfolding ones_sum
five_packets_interface = refl

-- the counter of the congestion at the handoff node
five_packets_congestion : error_count 9 errors.Congestion (five_refused_after 1) ≡ 1
unfolding ones_sum
five_packets_congestion = refl

-- two packets went from worker 0 to worker 1
five_packets_hands_there : hands 0 1 (five_refused_after 1) ≡ 2
unfolding ones_sum
five_packets_hands_there = refl

-- none went back
five_packets_hands_back : hands 1 0 (five_refused_after 1) ≡ 0
unfolding ones_sum
five_packets_hands_back = refl

-- the queue has one slot, and had accepted one
five_packets_are_lawful : AreLawful 1 1 (λ number. 0) (five_refused_after 1)
unfolding ones_sum
five_packets_are_lawful = record { generations = search rules; refusals = search rules }

-- a packet that is handed over goes on under a later generation, where all packets are dropped
abbrev pub over_a_change : List Choice
over_a_change = under (0 ∷ 1 ∷ []) ∷ under (1 ∷ []) ∷ []

-- both packets are dropped by `error-drop`, the first on its second leg
over_a_change_fates : option_map fates (run (hand ∷ hand_to_drop ∷ []) 2 (replicate 2 odd_frame) over_a_change)
    ≡ Some (record {
      number = 0;
      legs = record { worker = 0; generation = 0 } ∷ record { worker = 1; generation = 1 } ∷ [];
      congested = None;
      end = ends.Dropped 8 errors.Blackhole;
    }
    ∷ record { number = 1; legs = record { worker = 1; generation = 1 } ∷ []; congested = None; end = ends.Dropped 8 errors.Blackhole }
    ∷ [])
unfolding ones_sum
over_a_change_fates = refl

-- a drop that `error-drop` decides is one visit of it
over_a_change_drops : option_map (node_counts (8 ∷ [])) (run (hand ∷ hand_to_drop ∷ []) 2 (replicate 2 odd_frame) over_a_change) ≡ Some (2 ∷ [])
unfolding ones_sum
over_a_change_drops = refl

-- the generation at the time of packet 0 is 0, and at that of packet 1 it is 1
over_a_change_is_lawful : AreLawful 2 64 (λ number. number) (journeys_of (hand ∷ hand_to_drop ∷ []) 2 (replicate 2 odd_frame) over_a_change)
unfolding ones_sum
over_a_change_is_lawful = record { generations = search rules; refusals = search rules }

-- a packet from 10.0.0.2 to 10.0.0.1, whose destination and source choose worker 1 and worker 0
abbrev pub to_and_fro : List (List ℕ)
to_and_fro = frame (ip 10 0 0 2) (ip 10 0 0 1) 64 20 34 ∷ []

-- a leg on each of the workers in turn, and no fifth one
abbrev pub four_legs : List Choice
four_legs = under (0 ∷ 0 ∷ 0 ∷ 0 ∷ []) ∷ []

-- it ends at the fourth handoff
four_legs_fates : option_map fates (run (five_handoffs ∷ []) 2 to_and_fro four_legs)
    ≡ Some (record { number = 0; legs = map leg_on (0 ∷ 1 ∷ 0 ∷ 1 ∷ []); congested = None; end = ends.Dropped 12 errors.HandoffLimit } ∷ [])
unfolding ones_sum
four_legs_fates = refl

-- the nodes that visited it, in order
four_legs_trace : option_map (map trace) (run (five_handoffs ∷ []) 2 to_and_fro four_legs) ≡ Some ((0 ∷ 9 ∷ 1 ∷ 10 ∷ 1 ∷ 11 ∷ 1 ∷ 12 ∷ 8 ∷ []) ∷ [])
unfolding ones_sum
four_legs_trace = refl

-- it went over three queues, and the fifth handoff never saw it
four_legs_nodes : option_map (node_counts (1 ∷ 9 ∷ 10 ∷ 11 ∷ 12 ∷ 13 ∷ [])) (run (five_handoffs ∷ []) 2 to_and_fro four_legs)
    ≡ Some (3 ∷ 1 ∷ 1 ∷ 1 ∷ 1 ∷ 0 ∷ [])
unfolding ones_sum
four_legs_nodes = refl

-- it went twice from worker 0 to worker 1
four_legs_hands_there : hands 0 1 (journeys_of (five_handoffs ∷ []) 2 to_and_fro four_legs) ≡ 2
unfolding ones_sum
four_legs_hands_there = refl

-- and once back
four_legs_hands_back : hands 1 0 (journeys_of (five_handoffs ∷ []) 2 to_and_fro four_legs) ≡ 1
unfolding ones_sum
four_legs_hands_back = refl

-- the choice is lawful
four_legs_are_lawful : AreLawful 1 64 (λ number. 0) (journeys_of (five_handoffs ∷ []) 2 to_and_fro four_legs)
unfolding ones_sum
four_legs_are_lawful = record { generations = search rules; refusals = search rules }
