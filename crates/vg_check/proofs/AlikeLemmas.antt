-- For `one_generation_sends_alike`: under one generation any number of workers sends what one worker does.
use Rattle.std.proofs.Common.{◌≡◌, ℕ, zero, suc, ◌<◌, ◌≤◌, true, List, [], ◌∷◌, map, refl, sym, ap, subst, ◌∙◌, arith}
use Rattle.std.specs.Prelude.{Option, Some, None, option_map, option_and_then, slice_get}
use Rattle.std.specs.List.{AllByRecursion, cons_option}
use Rattle.std.proofs.lemmas.Bool.{false≢true}
use Rattle.std.proofs.lemmas.Option.{none-some, same_Some}
use Rattle.vg_model.specs.Graph.{Graph}
use Rattle.vg_model.specs.Visit.{Visit}
use Rattle.vg_model.specs.Valid.{IsValid}
use Rattle.vg_model.specs.Leg.{Outcome, Sent, Dropped, Handed}
use Rattle.vg_model.specs.Journey.{Journey, Choice, journey, journeys_from, goes_together, end_of, sent, sent_of, sent_as}
use Rattle.vg_model.specs.Lawful.{NeverFall, StartsAt, IsRefusalLawful}
use Rattle.vg_model.proofs.Journeys.{map_some, then_some}
use Rattle.vg_capture.specs.declared.captures.Capture.{Capture}
use Rattle.vg_capture.specs.Savefile.{savefile}
use Rattle.vg_report.specs.declared.reports.Report.{Report}
use Rattle.vg_report.specs.declared.reports.PacketLine.{PacketLine}
use Rattle.vg_journeys.specs.SameEnd.{IsWithinLimit}
use Rattle.vg_journeys.proofs.SameEndLemmas.{same_end}
use Rattle.vg_check.specs.Output.{Setting, IsOutput, report_of, choices_of, frames_of, named_end, packet_line_of}
use Rattle.vg_check.specs.OneWorker.{alone, only_choice, only_choices, IsOwnEnd, HasOwnEnds}
use Rattle.vg_check.proofs.JourneyLemmas.{generations, journey_has, IsJourneyOf}
use Rattle.vg_check.proofs.OutputLemmas.{named_are}

-- no queue refused a packet that ends by itself
none_accepted : (g : Graph) (accepted : Option ℕ) (o : Outcome) → IsOwnEnd (named_end g (end_of o)) → goes_together accepted o ≡ true → (accepted ≡ None) × IsWithinLimit o
none_accepted g None (Sent interface) own t = (refl, tt)
none_accepted g None (Dropped node error) own t = (refl, own.1)
none_accepted g None (Handed node worker) own t = absurd (false≢true t)
none_accepted g (Some count) (Sent interface) own t = absurd (false≢true t)
none_accepted g (Some count) (Dropped node error) own t = absurd (false≢true t)
none_accepted g (Some count) (Handed node worker) own t = absurd (own.0 refl)

-- all generations below 1 are the one that there is
all_here : (g : Graph) (least : ℕ) (gs : List ℕ) → NeverFall 1 least gs → AllByRecursion (λ h. slice_get (g ∷ []) h ≡ Some g) gs
all_here g least [] h = tt
all_here g least (zero ∷ gs) h = (refl, all_here g zero gs h.2)
all_here g least (suc n ∷ gs) h = let below = h.1 in absurd (omega (arith, below))

-- the journey of a packet on the only worker, as the packet's own
record IsAlike (visit : Visit) (g : Graph) (first : ℕ → ℕ) (number : ℕ) (bytes : List ℕ) (j : Journey) : Type 0 where
  one : Journey
  is : journey visit (g ∷ []) 1 number bytes (only_choice first number) ≡ Some one
  starts : StartsAt 1 (first one.number) (generations one.course.legs)
  none : one.accepted ≡ None
  sent_is : sent_of one ≡ sent_of j

module _ (visit : Visit) (g : Graph) (valid : IsValid g) (workers : ℕ) (first : ℕ → ℕ) where
  journey_alike : (number : ℕ) (bytes : List ℕ) (choice : Choice) (j : Journey) → journey visit (g ∷ []) workers number bytes choice ≡ Some j
      → StartsAt 1 (first j.number) (generations j.course.legs) → IsOwnEnd (named_end g (end_of j.course.outcome)) → IsAlike visit g first number bytes j
  journey_alike number bytes choice j e starts own =
      let has = journey_has visit (g ∷ []) workers number bytes choice j e in
      let none = none_accepted g j.accepted j.course.outcome own has.together in
      let lawful : StartsAt 1 (first number) choice.generations =
      subst (λ n. StartsAt 1 (first n) choice.generations) has.number_is (subst (StartsAt 1 (first j.number)) has.generations_are starts) in
      by_generations choice.generations choice.accepted has (sym has.accepted_is ∙ none.0) none.1 lawful e
    where
      by_first : (f : ℕ) (later : List ℕ) (accepted : Option ℕ) → IsJourneyOf visit (g ∷ []) workers number bytes (record { generations = f ∷ later; accepted = accepted }) j → accepted ≡ None
          → IsWithinLimit j.course.outcome → f ≡ first number → NeverFall 1 (first number) (f ∷ later)
          → journey visit (g ∷ []) workers number bytes (record { generations = f ∷ later; accepted = accepted }) ≡ Some j → IsAlike visit g first number bytes j
      by_first f later (Some count) has none limit starts falls e = absurd (none-some count (sym none))
      by_first (suc n) later None has none limit starts falls e = let below = falls.1 in absurd (omega (arith, below))
      by_first zero later None has none limit starts falls e =
          let ends = same_end visit (g ∷ []) g workers number 0 later bytes j valid refl (all_here g 0 later falls.2) e limit in
          let chosen : ◌≡◌ {A = Choice} (record { generations = 0 ∷ []; accepted = None }) (only_choice first number) = ap (λ f. record { generations = f ∷ []; accepted = None }) starts in
          let is : journey visit (g ∷ []) 1 number bytes (only_choice first number) ≡ Some ends.alone = subst (λ c. journey visit (g ∷ []) 1 number bytes c ≡ Some ends.alone) chosen ends.is in
          let one = journey_has visit (g ∷ []) 1 number bytes (only_choice first number) ends.alone is in
          let below : first number < 1 = subst (λ f. f < 1) starts falls.1 in
          let least : first number ≤ first number = omega arith in
          let only : StartsAt 1 (first number) (first number ∷ []) = (refl, (least, below, tt)) in
          record {
            one = ends.alone;
            is = is;
            starts = subst (λ n. StartsAt 1 (first n) (generations ends.alone.course.legs)) (sym one.number_is) (subst (StartsAt 1 (first number)) (sym one.generations_are) only);
            none = one.accepted_is;
            sent_is = ap (λ n. sent_as n ends.alone.course.packet.bytes ends.alone.course.outcome) (one.number_is ∙ sym has.number_is)
                ∙ ap (λ bytes. sent_as j.number bytes ends.alone.course.outcome) ends.bytes_are ∙ ap (sent_as j.number j.course.packet.bytes) ends.outcome;
          }

      by_generations : (gs : List ℕ) (accepted : Option ℕ) → IsJourneyOf visit (g ∷ []) workers number bytes (record { generations = gs; accepted = accepted }) j → accepted ≡ None
          → IsWithinLimit j.course.outcome → StartsAt 1 (first number) gs → journey visit (g ∷ []) workers number bytes (record { generations = gs; accepted = accepted }) ≡ Some j
          → IsAlike visit g first number bytes j
      by_generations [] accepted has none limit lawful e = absurd lawful
      by_generations (f ∷ later) accepted has none limit lawful e = by_first f later accepted has none limit lawful.0 lawful.1 e

  -- the journeys of packets on the only worker, from a number on
  record AreAlike (number : ℕ) (packets : List (List ℕ)) (js : List Journey) : Type 0 where
    ones : List Journey
    are : journeys_from visit (g ∷ []) 1 number packets (only_choices first number packets) ≡ Some ones
    starts : AllByRecursion (λ (j : Journey). StartsAt 1 (first j.number) (generations j.course.legs)) ones
    none : AllByRecursion (λ (j : Journey). j.accepted ≡ None) ones
    sent_are : sent ones ≡ sent js

  journeys_alike : (number : ℕ) (packets : List (List ℕ)) (choices : List Choice) (js : List Journey) → journeys_from visit (g ∷ []) workers number packets choices ≡ Some js
      → AllByRecursion (λ (j : Journey). StartsAt 1 (first j.number) (generations j.course.legs)) js
      → AllByRecursion (λ (line : PacketLine). IsOwnEnd line.end) (map (packet_line_of g) js) → AreAlike number packets js
  journeys_alike number [] [] js e starts own = record { ones = []; are = refl; starts = tt; none = tt; sent_are = ap sent (same_Some _ _ e) }
  journeys_alike number [] (choice ∷ choices) js e starts own = absurd (none-some js e)
  journeys_alike number (bytes ∷ packets) [] js e starts own = absurd (none-some js e)
  journeys_alike number (bytes ∷ packets) (choice ∷ choices) js e starts own =
      let first_j = then_some (λ j. option_map (λ js. j ∷ js) (journeys_from visit (g ∷ []) workers (suc number) packets choices)) (journey visit (g ∷ []) workers number bytes choice) js e in
      let others = map_some (λ js. first_j.0 ∷ js) (journeys_from visit (g ∷ []) workers (suc number) packets choices) js first_j.2 in
      let all_start : AllByRecursion (λ (j : Journey). StartsAt 1 (first j.number) (generations j.course.legs)) (first_j.0 ∷ others.0) =
      subst (AllByRecursion (λ (j : Journey). StartsAt 1 (first j.number) (generations j.course.legs))) (sym others.2) starts in
      let all_own : AllByRecursion (λ (line : PacketLine). IsOwnEnd line.end) (map (packet_line_of g) (first_j.0 ∷ others.0)) =
      subst (λ l. AllByRecursion (λ (line : PacketLine). IsOwnEnd line.end) (map (packet_line_of g) l)) (sym others.2) own in
      let here = journey_alike number bytes choice first_j.0 first_j.1 all_start.0 all_own.0 in
      let rest = journeys_alike (suc number) packets choices others.0 others.1 all_start.1 all_own.1 in
      record {
        ones = here.one ∷ rest.ones;
        are = ap (option_and_then (λ j. option_map (λ js. j ∷ js) (journeys_from visit (g ∷ []) 1 (suc number) packets (only_choices first (suc number) packets)))) here.is
            ∙ ap (option_map (λ js. here.one ∷ js)) rest.are;
        starts = (here.starts, rest.starts);
        none = (here.none, rest.none);
        sent_are = ap (λ o. cons_option o (sent rest.ones)) here.sent_is ∙ ap (cons_option (sent_of first_j.0)) rest.sent_are ∙ ap sent others.2;
      }

-- no push was refused
lawful_refusals : (slots : ℕ) (js all : List Journey) → AllByRecursion (λ (j : Journey). j.accepted ≡ None) js
    → AllByRecursion (λ (j : Journey). IsRefusalLawful slots all j j.accepted j.course.outcome) js
lawful_refusals slots [] all none = tt
lawful_refusals slots (j ∷ js) all none = (subst (λ o. IsRefusalLawful slots all j o j.course.outcome) (sym none.0) tt, lawful_refusals slots js all none.1)

pub sends_alike : (visit : Visit) (g : Graph) (first : ℕ → ℕ) (setting : Setting) (capture : Capture) (report : Report) (tx : List ℕ) → IsValid g
    → IsOutput visit (g ∷ []) first setting capture report tx → HasOwnEnds report → (other : Report) × IsOutput visit (g ∷ []) first (alone setting) capture other tx
sends_alike visit g first setting capture report tx valid output own =
    let packets : List (List ℕ) = frames_of capture in
    let named : HasOwnEnds (report_of setting (g ∷ []) output.js) = subst HasOwnEnds output.reported own in
    let alike = journeys_alike visit g valid setting.workers first 0 packets (choices_of report) output.js output.lawful.are_journeys output.lawful.lawful.generations named in
    let other : Report = report_of (alone setting) (g ∷ []) alike.ones in
    let choices : only_choices first 0 packets ≡ choices_of other = sym (named_are visit (g ∷ []) 1 packets (only_choices first 0 packets) alike.ones (alone setting) (g ∷ []) alike.are) in (
      other,
      record {
        js = alike.ones;
        lawful = record {
          are_journeys = subst (λ cs. journeys_from visit (g ∷ []) 1 0 packets cs ≡ Some alike.ones) choices alike.are;
          lawful = record { generations = alike.starts; refusals = lawful_refusals setting.queue alike.ones alike.ones alike.none };
        };
        reported = refl;
        saved = output.saved ∙ ap (savefile capture) (sym alike.sent_are);
      },
    )
