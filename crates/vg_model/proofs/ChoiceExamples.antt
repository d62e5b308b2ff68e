-- Choices that fit no journey, and choices that no run may make, each beside one that fits or is lawful.
use Rattle.std.proofs.Common.{◌≡◌, ℕ, List, [], ◌∷◌, refl, Some, None, rules, arith}
use Rattle.std.specs.Prelude.{Option, option_map}
use Rattle.vg_model.specs.declared.fates.End.TheVariants as ends
use Rattle.vg_model.specs.declared.fates.Fate.{Fate}
use Rattle.vg_model.specs.declared.kinds.DropError.TheVariants as errors
use Rattle.vg_model.specs.Header.{ones_sum}
use Rattle.vg_model.specs.Visit.{ip4_visit}
use Rattle.vg_model.specs.Journey.{Choice, Journey, journey, fate_of, fates}
use Rattle.vg_model.specs.Lawful.{AreLawful}
use Rattle.vg_model.proofs.Frames.{plain_frame, arp_frame, odd_frame}
use Rattle.vg_model.proofs.ExampleGraphs.{wire, hand, five_handoffs, under, refused_under, run, journeys_of, ended, leg_on}
use Rattle.vg_model.proofs.HandoffExamples.{five_refused_after, to_and_fro}

-- the fate of a frame over the wire, on one worker
abbrev pub wire_fate : List ℕ → Choice → Option Fate
wire_fate bytes choice = option_map fate_of (journey ip4_visit (wire ∷ []) 1 0 bytes choice)

-- the fate of a frame that worker 0 of two has to hand to worker 1
abbrev pub hand_fate : Choice → Option Fate
hand_fate choice = option_map fate_of (journey ip4_visit (hand ∷ []) 2 0 odd_frame choice)

-- one leg ends on the interface
transmitted_in_one_leg : wire_fate plain_frame (under (0 ∷ [])) ≡ Some (ended 0 (ends.Tx 0))
unfolding ones_sum
transmitted_in_one_leg = refl

-- no leg follows it
leg_after_transmission : wire_fate plain_frame (under (0 ∷ 0 ∷ [])) ≡ None
unfolding ones_sum
leg_after_transmission = refl

-- no queue refused it
refusal_after_transmission : wire_fate plain_frame (refused_under (0 ∷ []) 1) ≡ None
unfolding ones_sum
refusal_after_transmission = refl

-- the same of a packet that is dropped
dropped_in_one_leg : wire_fate arp_frame (under (0 ∷ [])) ≡ Some (ended 0 (ends.Dropped 2 errors.UnknownType))
unfolding ones_sum
dropped_in_one_leg = refl

-- no leg follows a drop
leg_after_a_drop : wire_fate arp_frame (under (0 ∷ 0 ∷ [])) ≡ None
unfolding ones_sum
leg_after_a_drop = refl

-- no queue refused a packet that was dropped before
refusal_after_a_drop : wire_fate arp_frame (refused_under (0 ∷ []) 1) ≡ None
unfolding ones_sum
refusal_after_a_drop = refl

-- each leg has a generation, and so has the first
no_generation : wire_fate plain_frame (under []) ≡ None
unfolding ones_sum
no_generation = refl

-- there is no generation 1
generation_that_is_not_there : wire_fate plain_frame (under (1 ∷ [])) ≡ None
unfolding ones_sum
generation_that_is_not_there = refl

-- a packet that is handed over and accepted has a second leg
handed_over_and_accepted : hand_fate (under (0 ∷ 0 ∷ []))
    ≡ Some (record { number = 0; legs = leg_on 0 ∷ leg_on 1 ∷ []; congested = None; end = ends.Tx 0 })
unfolding ones_sum
handed_over_and_accepted = refl

-- one that is refused ends at the node that handed it over
handed_over_and_refused : hand_fate (refused_under (0 ∷ []) 1)
    ≡ Some (record { number = 0; legs = leg_on 0 ∷ []; congested = Some 1; end = ends.Dropped 9 errors.Congestion })
unfolding ones_sum
handed_over_and_refused = refl

-- it cannot end there without a refusal
handed_over_without_a_refusal : hand_fate (under (0 ∷ [])) ≡ None
unfolding ones_sum
handed_over_without_a_refusal = refl

-- the second leg's generation has to be there
later_generation_that_is_not_there : hand_fate (under (0 ∷ 1 ∷ [])) ≡ None
unfolding ones_sum
later_generation_that_is_not_there = refl

-- there is no fifth leg
no_fifth_leg : option_map fates (run (five_handoffs ∷ []) 2 to_and_fro (under (0 ∷ 0 ∷ 0 ∷ 0 ∷ 0 ∷ []) ∷ [])) ≡ None
unfolding ones_sum
no_fifth_leg = refl

-- each packet has a choice
packet_without_a_choice : option_map fates (run (wire ∷ []) 1 (plain_frame ∷ plain_frame ∷ []) (under (0 ∷ []) ∷ [])) ≡ None
unfolding ones_sum
packet_without_a_choice = refl

-- the journey of one packet that is handed over, by two generations of the same graph
abbrev pub handed_under : List ℕ → List Journey
handed_under generations = journeys_of (hand ∷ hand ∷ []) 2 (odd_frame ∷ []) (under generations ∷ [])

-- the generation of a later leg may stay
generation_stays : AreLawful 2 64 (λ number. 1) (handed_under (1 ∷ 1 ∷ []))
unfolding ones_sum
generation_stays = record { generations = search rules; refusals = search rules }

-- it may rise
generation_rises : AreLawful 2 64 (λ number. 0) (handed_under (0 ∷ 1 ∷ []))
unfolding ones_sum
generation_rises = record { generations = search rules; refusals = search rules }

-- it may not fall
generation_falls : ¬ (AreLawful 2 64 (λ number. 1) (handed_under (1 ∷ 0 ∷ [])))
unfolding ones_sum
generation_falls lawful = omega (arith, lawful.generations.0.1.2.0)

-- it may not be beyond the last
generation_beyond_the_last : ¬ (AreLawful 1 64 (λ number. 0) (handed_under (0 ∷ 1 ∷ [])))
unfolding ones_sum
generation_beyond_the_last lawful = omega (arith, lawful.generations.0.1.2.1)

-- the first leg is under the generation at the packet's time, and under no earlier one
first_generation_too_early : ¬ (AreLawful 2 64 (λ number. 1) (handed_under (0 ∷ 1 ∷ [])))
unfolding ones_sum
first_generation_too_early lawful = omega (arith, lawful.generations.0.0)

-- nor under a later one
first_generation_too_late : ¬ (AreLawful 2 64 (λ number. 0) (handed_under (1 ∷ 1 ∷ [])))
unfolding ones_sum
first_generation_too_late lawful = omega (arith, lawful.generations.0.0)

-- of five packets two go over the queue, and one is refused: by a queue of two slots that had accepted both
refusal_by_a_full_queue : AreLawful 1 2 (λ number. 0) (five_refused_after 2)
unfolding ones_sum
refusal_by_a_full_queue = record { generations = search rules; refusals = search rules }

-- a queue of two slots that had accepted one has room
refusal_with_room : ¬ (AreLawful 1 2 (λ number. 0) (five_refused_after 1))
unfolding ones_sum
refusal_with_room lawful = omega (arith, lawful.refusals.1.1.0.0)

-- no more than went over it
refusal_after_more_than_went_over : ¬ (AreLawful 1 1 (λ number. 0) (five_refused_after 3))
unfolding ones_sum
refusal_after_more_than_went_over lawful = omega (arith, lawful.refusals.1.1.0.1)

-- a lone packet is not refused: none went over the queue
refusal_of_a_lone_packet : ¬ (AreLawful 1 1 (λ number. 0) (journeys_of (hand ∷ []) 2 (odd_frame ∷ []) (refused_under (0 ∷ []) 1 ∷ [])))
unfolding ones_sum
refusal_of_a_lone_packet lawful = omega (arith, lawful.refusals.0.1)
