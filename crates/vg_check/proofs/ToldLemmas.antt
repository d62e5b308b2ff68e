-- For `verdict`: what is told of packets is that of their journeys.
use Rattle.std.proofs.Common.{◌≡◌, ℕ, zero, suc, ◌+◌, List, [], ◌∷◌, ◌++◌, length, map, take, refl, sym, ap, subst, ◌∙◌, arith}
use Rattle.std.specs.Prelude.{Option, Some, None, option_map, slice_get, sum}
use Rattle.std.proofs.lemmas.List.{length-map}
use Rattle.std.proofs.lemmas.List.Sums.{sum-map}
use Rattle.std.proofs.lemmas.Option.{same_Some, slice_get-map, slice_get_within}
use Rattle.vg_model.specs.Graph.{Graph}
use Rattle.vg_model.specs.Leg.{Outcome, Sent, Dropped, Handed}
use Rattle.vg_model.specs.Journey.{Journey, Choice, Course, end_of, sent, sent_of, sent_as}
use Rattle.vg_model.specs.Count.{trace, drop_visit}
use Rattle.vg_model.specs.Lawful.{hands_in, hands, last_worker, IsRefusalLawful}
use Rattle.vg_report.specs.declared.reports.PacketLine.{PacketLine}
use Rattle.vg_replay.specs.Replays.{Told, told, sent_bytes}
use Rattle.vg_replay.proofs.ReplayLemmas.{all_by_get, get_some, get_take}
use Rattle.vg_check.specs.Hands.{handed, IsRefusalOf, IsRefusalAt, AreRefusalsBelow, IsFirstUnlawful}
use Rattle.vg_check.specs.Output.{choice_of, node_name, packet_line_of, named_end}
use Rattle.vg_check.specs.Points.{IsPushLawful, ArePushesLawful, IsFirstRefusal}
use Rattle.vg_check.specs.Reports.{lines_by, trace_of}
use Rattle.vg_check.specs.Saves.{sent_first, sent_from}
use Rattle.vg_check.proofs.JourneyLemmas.{chosen}

-- what is told of a journey
abbrev pub told_of : Journey → Told
told_of j = told j.course

map_two : {X Y Z : Type 0} (f : Y → Z) (g : X → Y) (xs : List X) → map f (map g xs) ≡ map (λ x. f (g x)) xs
map_two f g [] = refl
map_two f g (x ∷ xs) = ap (λ l. f (g x) ∷ l) (map_two f g xs)

module _ (trips : List Course) (js : List Journey) (same : map told trips ≡ map told_of js) where
  -- each part of what is told
  pub parts_same : {Y : Type 0} (f : Told → Y) → map (λ t. f (told t)) trips ≡ map (λ j. f (told_of j)) js
  parts_same f = sym (map_two f told trips) ∙ ap (map f) same ∙ map_two f told_of js

  pub as_many : length trips ≡ length js
  as_many = sym (length-map trips told) ∙ ap length same ∙ length-map js told_of

  -- at a place
  pub told_at : (k : ℕ) (t : Course) (j : Journey) → slice_get trips k ≡ Some t → slice_get js k ≡ Some j → told t ≡ told_of j
  told_at k t j at at_j =
      same_Some (told t) (told_of j)
      (ap (option_map told) (sym at) ∙ sym (slice_get-map told trips k) ∙ ap (λ l. slice_get l k) same ∙ slice_get-map told_of js k ∙ ap (option_map told_of) at_j)

  -- how often they were handed over
  pub handed_same : (from to : ℕ) → handed trips from to ≡ hands from to js
  handed_same from to =
      sym (sum-map (λ (t : Course). hands_in from to t.legs) trips)
      ∙ ap sum (parts_same (λ (t : Told). hands_in from to t.legs))
      ∙ sum-map (λ (j : Journey). hands_in from to j.course.legs) js

  -- a refused push
  refusal_to : (slots : ℕ) (j : Journey) (accepted : Option ℕ) (o : Outcome) → IsRefusalOf slots (handed trips) j.course.legs accepted o → IsRefusalLawful slots js j accepted o
  refusal_to slots j None o h = tt
  refusal_to slots j (Some a) (Sent interface) h = h
  refusal_to slots j (Some a) (Dropped node error) h = h
  refusal_to slots j (Some a) (Handed node worker) h = (h.0, (let le = h.1 in let e = handed_same (last_worker j.course.legs) worker in omega (arith, le, e)))

  refusal_from : (slots : ℕ) (j : Journey) (accepted : Option ℕ) (o : Outcome) → IsRefusalLawful slots js j accepted o → IsRefusalOf slots (handed trips) j.course.legs accepted o
  refusal_from slots j None o h = tt
  refusal_from slots j (Some a) (Sent interface) h = h
  refusal_from slots j (Some a) (Dropped node error) h = h
  refusal_from slots j (Some a) (Handed node worker) h = (h.0, (let le = h.1 in let e = handed_same (last_worker j.course.legs) worker in omega (arith, le, e)))

  -- the lines name the choices of the journeys
  module _ (lines : List PacketLine) (named : map choice_of lines ≡ map chosen js) where
    count_at : (k : ℕ) (line : PacketLine) (j : Journey) → slice_get lines k ≡ Some line → slice_get js k ≡ Some j → line.congested ≡ j.accepted
    count_at k line j at at_j =
        let e : choice_of line ≡ chosen j = same_Some (choice_of line) (chosen j)
        (ap (option_map choice_of) (sym at) ∙ sym (slice_get-map choice_of lines k) ∙ ap (λ l. slice_get l k) named ∙ slice_get-map chosen js k ∙ ap (option_map chosen) at_j) in
        ap (λ (c : Choice). c.accepted) e

    -- what is said of a packet's refused push is said of its journey's
    push_same : (slots k : ℕ) (line : PacketLine) (t : Course) (j : Journey) → slice_get lines k ≡ Some line → slice_get trips k ≡ Some t → slice_get js k ≡ Some j
        → IsRefusalOf slots (handed trips) t.legs line.congested t.outcome ≡ IsRefusalOf slots (handed trips) j.course.legs j.accepted j.course.outcome
    push_same slots k line t j at at_t at_j =
        let e : told t ≡ told_of j = told_at k t j at_t at_j in
        let c : line.congested ≡ j.accepted = count_at k line j at at_j in
        λ i. IsRefusalOf slots (handed trips) (e i).legs (c i) (e i).outcome

    push_lawful : (slots k : ℕ) (j : Journey) → slice_get js k ≡ Some j → IsRefusalAt slots lines trips k → IsPushLawful slots js j
    push_lawful slots k j at_j is =
        refusal_to slots j j.accepted j.course.outcome (subst (λ X. X) (push_same slots k is.line is.trip j is.is_line is.is_trip at_j) is.may)

    -- all refused pushes
    pub all_pushes : (slots : ℕ) → AreRefusalsBelow slots lines trips (length trips) → ArePushesLawful slots js
    all_pushes slots below =
        all_by_get (IsPushLawful slots js) js (λ k j at_j. push_lawful slots k j at_j (below k (let h = slice_get_within js k j at_j in let e = as_many in omega (arith, h, e))))

    -- the first that may not have been
    pub first_refusal : (slots number : ℕ) → IsFirstUnlawful slots lines trips number → IsFirstRefusal slots js number
    first_refusal slots number is =
        let there = get_some js number (let h = slice_get_within trips number is.trip is.is_trip in let e = as_many in omega (arith, h, e)) in
        record {
          j = there.0;
          is = there.1;
          unlawful = λ h. is.unlawful (subst (λ X. X) (sym (push_same slots number is.line is.trip there.0 is.is_line is.is_trip there.1)) (refusal_from slots there.0 there.0.accepted there.0.course.outcome h));
          before = all_by_get (IsPushLawful slots js) (take number js) (λ k j at_j.
              let found = get_take number js k j at_j in
              push_lawful slots k j found.1 (is.before k found.0));
        }

-- what is sent
sent_one : (number : ℕ) (bytes : List ℕ) (o : Outcome) (others : List (ℕ × List ℕ)) → sent_first number bytes o others ≡ sent_first number (sent_bytes bytes o) o others
sent_one number bytes (Sent interface) others = refl
sent_one number bytes (Dropped node error) others = refl
sent_one number bytes (Handed node worker) others = refl

abbrev filtered : Option (ℕ × List ℕ) → List (ℕ × List ℕ) → List (ℕ × List ℕ)
filtered None others = others
filtered (Some s) others = s ∷ others

filtered_one : (number : ℕ) (bytes : List ℕ) (o : Outcome) (others : List (ℕ × List ℕ)) → sent_first number bytes o others ≡ filtered (sent_as number bytes o) others
filtered_one number bytes (Sent interface) others = refl
filtered_one number bytes (Dropped node error) others = refl
filtered_one number bytes (Handed node worker) others = refl

filter_one : (j : Journey) (js : List Journey) → filtered (sent_of j) (sent js) ≡ sent (j ∷ js)
filter_one j js = by (sent_of j) refl
  where
    by : (o : Option (ℕ × List ℕ)) → sent_of j ≡ o → filtered (sent_of j) (sent js) ≡ sent (j ∷ js)
    by None e = ap (λ o. filtered o (sent js)) e ∙ cc
    by (Some s) e = ap (λ o. filtered o (sent js)) e ∙ cc

pub sent_same : (number : ℕ) (trips : List Course) (js : List Journey) → map told trips ≡ map told_of js → ((k : ℕ) (j : Journey) → slice_get js k ≡ Some j → j.number ≡ number + k)
    → sent_from number trips ≡ sent js
sent_same number [] [] same numbers = refl
sent_same number [] (j ∷ js) same numbers = (let e = ap length same in absurd (omega (arith, e)))
sent_same number (t ∷ trips) [] same numbers = (let e = ap length same in absurd (omega (arith, e)))
sent_same number (t ∷ trips) (j ∷ js) same numbers =
    let first : told t ≡ told_of j = told_at (t ∷ trips) (j ∷ js) same 0 t j refl refl in
    let rest : map told trips ≡ map told_of js = cc in
    let later : sent_from (suc number) trips ≡ sent js =
    sent_same (suc number) trips js rest (λ k i at. numbers (suc k) i at ∙ (let e : number + suc k ≡ suc number + k = omega arith in e)) in
    let is_number : number ≡ j.number = (let e = numbers 0 j refl in omega (arith, e)) in
    sent_one number t.packet.bytes t.outcome (sent_from (suc number) trips)
    ∙ (λ i. sent_first (is_number i) (first i).bytes (first i).outcome (later i))
    ∙ sym (sent_one j.number j.course.packet.bytes j.course.outcome (sent js))
    ∙ filtered_one j.number j.course.packet.bytes j.course.outcome (sent js)
    ∙ filter_one j js

-- the lines
pub lines_same : (g : Graph) (lines : List PacketLine) (trips : List Course) (js : List Journey) → map choice_of lines ≡ map chosen js → map told trips ≡ map told_of js
    → lines_by g lines trips ≡ map (packet_line_of g) js
lines_same g [] trips [] named same = refl
lines_same g [] trips (j ∷ js) named same = (let e = ap length named in absurd (omega (arith, e)))
lines_same g (line ∷ lines) trips [] named same = (let e = ap length named in absurd (omega (arith, e)))
lines_same g (line ∷ lines) [] (j ∷ js) named same = (let e = ap length same in absurd (omega (arith, e)))
lines_same g (line ∷ lines) (t ∷ trips) (j ∷ js) named same =
    let first : told t ≡ told_of j = told_at (t ∷ trips) (j ∷ js) same 0 t j refl refl in
    let rest : map told trips ≡ map told_of js = cc in
    let choice : choice_of line ≡ chosen j = cc in
    let others : map choice_of lines ≡ map chosen js = cc in
    let later = lines_same g lines trips js others rest in
    λ i. record { legs = (first i).legs; congested = (choice i).accepted; end = named_end g (end_of (first i).outcome) } ∷ later i

-- the traces
pub traces_same : (g : Graph) (n : ℕ) (trips : List Course) (js : List Journey) → map told trips ≡ map told_of js
    → map (λ (t : Course). t.visits) (take n trips) ≡ map (λ (j : Journey). j.course.visits) (take n js)
    → map (λ t. map (node_name g) (trace_of t)) (take n trips) ≡ map (λ j. map (node_name g) (trace j)) (take n js)
traces_same g zero trips js same visits = refl
traces_same g (suc n) [] [] same visits = refl
traces_same g (suc n) [] (j ∷ js) same visits = (let e = ap length same in absurd (omega (arith, e)))
traces_same g (suc n) (t ∷ trips) [] same visits = (let e = ap length same in absurd (omega (arith, e)))
traces_same g (suc n) (t ∷ trips) (j ∷ js) same visits =
    let first : told t ≡ told_of j = told_at (t ∷ trips) (j ∷ js) same 0 t j refl refl in
    let rest : map told trips ≡ map told_of js = cc in
    let seen : t.visits ≡ j.course.visits = cc in
    let others : map (λ (t : Course). t.visits) (take n trips) ≡ map (λ (j : Journey). j.course.visits) (take n js) = cc in
    let later = traces_same g n trips js rest others in
    λ i. map (node_name g) (seen i ++ drop_visit (end_of (first i).outcome)) ∷ later i
