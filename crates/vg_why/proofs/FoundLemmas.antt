-- For `text_of`, `journeys_told`, `report_told` and `found`: from a replay to what is found of a call's files.
use Rattle.std.proofs.Common.{◌≡◌, ℕ, true, List, [], ◌∷◌, length, map, refl, sym, ap, subst, ◌∙◌, arith}
use Rattle.std.specs.Prelude.{Result, Ok, Err, Some, slice_get, option_map, option_and_then}
use Rattle.std.specs.List.{AllByRecursion}
use Rattle.std.proofs.lemmas.List.{take_all, length-map}
use Rattle.std.proofs.lemmas.Option.{same_Some, slice_get-map}
use Rattle.vg_model.specs.declared.fates.Leg.{Leg}
use Rattle.vg_model.specs.Journey.{Course, Journey, Choice}
use Rattle.vg_model.specs.Graph.{Graph}
use Rattle.vg_model.specs.Lawful.{StartsAt, NeverFall}
use Rattle.vg_model.specs.Valid.{IsValid}
use Rattle.vg_model.proofs.Journeys.{then_some}
use Rattle.vg_capture.specs.declared.captures.Capture.{Capture}
use Rattle.vg_capture.specs.declared.captures.Captured.{Captured}
use Rattle.vg_plan.specs.Plan.{Planned, IsGeneration, IsPlan}
use Rattle.vg_report.specs.declared.reports.PacketLine.{PacketLine}
use Rattle.vg_report.specs.declared.reports.Report.{Report}
use Rattle.vg_replay.specs.declared.inputs.Input.{Input}
use Rattle.vg_replay.specs.declared.replaying.Replayed.{Replayed}
use Rattle.vg_replay.specs.Replays.{task_of, AreReplayed, IsInput}
use Rattle.vg_replay.specs.Counts.{journey_at}
use Rattle.vg_replay.specs.Tasks.{Task, choice_of, journey_under}
use Rattle.vg_replay.proofs.ReplayLemmas.{as_many_journeys, journey_of_all}
use Rattle.vg_check.specs.declared.verdicts.Verdict.{Verdict}
use Rattle.vg_check.specs.declared.verdicts.Verdict.TheVariants as verdicts
use Rattle.vg_check.specs.Verdicts.{Case, IsHeaded, task_by}
use Rattle.vg_check.proofs.JourneyLemmas.{chosen, chosen_are}
use Rattle.vg_check.proofs.ToldLemmas.{as_many}
use Rattle.vg_files.specs.Checks.{CheckBytes, AreInputs, inputs_in}
use Rattle.vg_files.specs.Kinds.{vgd_visit}
use Rattle.vg_files.specs.Stops.{IsRefusedFor}
use Rattle.vg_files.specs.declared.refusals.Refusal.{Refusal}
use Rattle.vg_files.specs.declared.refusals.Refusal.TheVariants as refusals
use Rattle.vg_ways.specs.Legs.{JourneysAreShown}
use Rattle.vg_why.specs.Asked.{Asked, are_below}
use Rattle.vg_why.specs.Files.{IsFound, IsRefusedBy, IsNoJourney, case_in}
use Rattle.vg_why.specs.Reading.{IsReportRefusal, IsTextRefusal}
use Rattle.vg_why.specs.Texts.{IsToldOf, IsToldBy, IsUntold, IsUntoldBy, IsChoiceFault, IsChoiceRefusal}
use Rattle.vg_why.specs.Trips.{gone_of, AreTrips, AreLegsUnder, AreUnder, ComesOut}
use Rattle.vg_why.proofs.TripLemmas.{trips_under}

-- ---- what a replay has

map_same : {X Y Z : Type 0} (f : Y → Z) (g : X → Y) (xs : List X) → map f (map g xs) ≡ map (λ x. f (g x)) xs
map_same f g [] = refl
map_same f g (x ∷ xs) = ap (λ l. f (g x) ∷ l) (map_same f g xs)

-- the legs of a lawful journey are under generations that there are
legs_below : (n least : ℕ) (legs : List Leg) → NeverFall n least (map (λ (leg : Leg). leg.generation) legs) → AreLegsUnder n legs
legs_below n least [] h = tt
legs_below n least (leg ∷ legs) h = (h.1, legs_below n leg.generation legs h.2)

start_below : (n first : ℕ) (legs : List Leg) → StartsAt n first (map (λ (leg : Leg). leg.generation) legs) → AreLegsUnder n legs
start_below n first [] h = absurd h
start_below n first (leg ∷ legs) h = legs_below n first (leg ∷ legs) h.1

all_below : (n : ℕ) (first : ℕ → ℕ) (js : List Journey)
    → AllByRecursion (λ (j : Journey). StartsAt n (first j.number) (map (λ (leg : Leg). leg.generation) j.course.legs)) js
    → AllByRecursion (λ (j : Journey). AreLegsUnder n j.course.legs) js
all_below n first [] h = tt
all_below n first (j ∷ js) h = (start_below n (first j.number) j.course.legs h.0, all_below n first js h.1)

-- the graphs of generations are valid
all_valid : (graphs : List Graph) → AllByRecursion IsGeneration graphs → AllByRecursion IsValid graphs
all_valid [] h = tt
all_valid (g ∷ graphs) h = (h.0.valid, all_valid graphs h.1)

module _ (input : Input) (replayed : Replayed) (is_input : IsInput input) (traced : input.traced ≡ length input.lines.now)
    (are : AreReplayed (task_of vgd_visit input) input.traced replayed) where
  abbrev task : Task
  task = task_of vgd_visit input

  -- there are as many as packets
  pub many : length are.js ≡ length input.capture.now.packets
  many = as_many_journeys task are.js are.taken.are_journeys ∙ length-map input.capture.now.packets (λ p. p.bytes)

  pub trips_many : length replayed.trips ≡ length input.capture.now.packets
  trips_many = as_many replayed.trips are.js are.trips ∙ many

  accepted : map (λ (line : PacketLine). line.congested) input.lines.now ≡ map (λ (j : Journey). j.accepted) are.js
  accepted =
      sym (map_same (λ (c : Choice). c.accepted) choice_of input.lines.now)
      ∙ ap (map (λ (c : Choice). c.accepted)) (sym (chosen_are vgd_visit task.graphs task.workers task.packets task.choices are.js are.taken.are_journeys))
      ∙ map_same (λ (c : Choice). c.accepted) chosen are.js

  all_visits : map (λ (trip : Course). trip.visits) replayed.trips ≡ map (λ (j : Journey). j.course.visits) are.js
  all_visits =
      let long = is_input.lines in
      ap (map (λ (trip : Course). trip.visits)) (sym (take_all input.traced replayed.trips (let m = trips_many in omega (arith, m, traced, long))))
      ∙ are.visits
      ∙ ap (map (λ (j : Journey). j.course.visits)) (take_all input.traced are.js (let m = many in omega (arith, m, traced, long)))

  -- a packet that is taken through the visits of its journey comes out as that of the journey
  comes_out : IsPlan input.plan.now → JourneysAreShown → (number : ℕ) (bytes : List ℕ) (j : Journey)
      → option_map (λ (packet : Captured). packet.bytes) (slice_get input.capture.now.packets number) ≡ Some bytes → slice_get are.js number ≡ Some j
      → ComesOut (gone_of vgd_visit input are.js) number bytes j
  comes_out plan law number bytes j at is short =
      let made : journey_at task number ≡ Some j = journey_of_all task are.js are.taken.are_journeys number j is in
      let packet = then_some (λ (bs : List ℕ). option_and_then (journey_under task number bs) (slice_get task.choices number)) (slice_get task.packets number) j made in
      let choice = then_some (journey_under task number packet.0) (slice_get task.choices number) j packet.2 in
      let same : packet.0 ≡ bytes = same_Some packet.0 bytes (sym packet.1 ∙ slice_get-map (λ (p : Captured). p.bytes) input.capture.now.packets number ∙ at) in
      law vgd_visit task.graphs task.workers number bytes choice.0 j (all_valid task.graphs plan.generations) short
      (subst (λ (bs : List ℕ). journey_under task number bs choice.0 ≡ Some j) same choice.2)

  pub trips_are : IsPlan input.plan.now → JourneysAreShown → AreTrips (gone_of vgd_visit input are.js) input.lines.now replayed.trips
  trips_are plan law = record {
    told_is = are.trips;
    visits = all_visits;
    accepted = accepted;
    many = many;
    under = all_below (length task.graphs) task.first are.js are.taken.generations;
    out = comes_out plan law;
  }

  pub under : AreUnder (length input.plan.now.graphs) replayed.trips
  under = trips_under (length input.plan.now.graphs) replayed.trips are.js are.trips (all_below (length task.graphs) task.first are.js are.taken.generations)

-- ---- refusals

-- the refusal of a report's text
pub untold_text : (asked : Asked) (case : Case) (refusal : Refusal) → IsReportRefusal case.report refusal → IsUntoldBy asked case refusal
untold_text asked case refusals.Usage h = absurd h
untold_text asked case (refusals.Load name) h = h
untold_text asked case (refusals.Capture fault) h = h
untold_text asked case (refusals.Script error) h = h
untold_text asked case (refusals.Turns place) h = h
untold_text asked case (refusals.Save name) h = h
untold_text asked case (refusals.Verdict verdict) h = by_verdict verdict h
  where
    by_verdict : (verdict : Verdict) → IsTextRefusal case.report verdict → IsNoJourney asked case verdict
    by_verdict (verdicts.Report line cause) h = h
    by_verdict verdicts.Head h = absurd h
    by_verdict (verdicts.Choices number) h = absurd h
    by_verdict (verdicts.Queue number) h = absurd h
    by_verdict verdicts.Text h = absurd h
    by_verdict verdicts.Tx h = absurd h
    by_verdict verdicts.Yes h = absurd h

-- the refusal of a report whose head fits
pub untold_headed : (asked : Asked) (case : Case) (report : Report) (refusal : Refusal) → IsHeaded case report → IsUntold asked case report refusal → IsUntoldBy asked case refusal
untold_headed asked case report refusals.Usage headed h = (report, headed, h)
untold_headed asked case report (refusals.Load name) headed h = h
untold_headed asked case report (refusals.Capture fault) headed h = h
untold_headed asked case report (refusals.Script error) headed h = h
untold_headed asked case report (refusals.Turns place) headed h = h
untold_headed asked case report (refusals.Save name) headed h = h
untold_headed asked case report (refusals.Verdict verdict) headed h = by_verdict verdict h.0
  where
    by_verdict : (verdict : Verdict) → IsChoiceFault (task_by case report) verdict → IsNoJourney asked case verdict
    by_verdict (verdicts.Report line cause) h = absurd h
    by_verdict verdicts.Head h = absurd h
    by_verdict (verdicts.Choices number) c = ((report, headed, c), h.1)
    by_verdict (verdicts.Queue number) h = absurd h
    by_verdict verdicts.Text h = absurd h
    by_verdict verdicts.Tx h = absurd h
    by_verdict verdicts.Yes h = absurd h

-- a choice that can't be
pub untold_choice : (asked : Asked) (case : Case) (report : Report) (refusal : Refusal) → are_below asked (length case.capture.packets) ≡ true
    → IsChoiceRefusal (task_by case report) refusal → IsUntold asked case report refusal
untold_choice asked case report refusals.Usage below h = absurd h
untold_choice asked case report (refusals.Load name) below h = h
untold_choice asked case report (refusals.Capture fault) below h = h
untold_choice asked case report (refusals.Script error) below h = h
untold_choice asked case report (refusals.Turns place) below h = h
untold_choice asked case report (refusals.Save name) below h = h
untold_choice asked case report (refusals.Verdict verdict) below h = (h, below)

-- the text of a report whose head fits
pub told_headed : (asked : Asked) (case : Case) (report : Report) (text : List ℕ) → IsHeaded case report → IsToldOf asked case report text → IsToldBy asked case text
told_headed asked case report text headed h = record {
  report = report;
  js = h.js;
  travelled = record { headed = headed; taken = h.taken };
  below = h.below;
  names = h.names;
  are_names = h.are_names;
  is_text = h.is_text;
}

ok_or_err : {X E : Type 0} (r : Result X E) (x : X) (error : E) → r ≡ Ok x → r ≡ Err error → ⊥
ok_or_err r x error is fault = cc

-- the capture or the script is refused; turns are not, where there are none
pub read_refused : (asked : Asked) (bytes : CheckBytes) (refusal : Refusal) → IsRefusedFor 1 (inputs_in bytes) refusal → IsRefusedBy asked bytes refusal
read_refused asked bytes refusals.Usage h = absurd h
read_refused asked bytes (refusals.Load name) h = h
read_refused asked bytes (refusals.Capture fault) h = h
read_refused asked bytes (refusals.Script error) h = h
read_refused asked bytes (refusals.Turns place) h = absurd (ok_or_err _ _ place refl h.2)
read_refused asked bytes (refusals.Save name) h = h
read_refused asked bytes (refusals.Verdict verdict) h = absurd h

-- what is found of the files
pub found_is : {asked : Asked} {bytes : CheckBytes} {capture : Capture} {plan : Planned} {text : List ℕ} → AreInputs bytes capture plan
    → IsToldBy asked (case_in bytes capture plan) text → IsFound asked bytes text
found_is {capture = capture} {plan = plan} inputs h = record {
  capture = capture;
  plan = plan;
  inputs = inputs;
  report = h.report;
  js = h.js;
  travelled = h.travelled;
  below = h.below;
  names = h.names;
  are_names = h.are_names;
  is_text = h.is_text;
}

pub found_untold : (asked : Asked) {bytes : CheckBytes} {capture : Capture} {plan : Planned} (refusal : Refusal) → AreInputs bytes capture plan
    → IsUntoldBy asked (case_in bytes capture plan) refusal → IsRefusedBy asked bytes refusal
found_untold asked {capture = capture} {plan = plan} refusals.Usage inputs h = record { capture = capture; plan = plan; inputs = inputs; report = h.0; headed = h.1; beyond = h.2 }
found_untold asked {capture = capture} {plan = plan} (refusals.Load name) inputs h = h
found_untold asked {capture = capture} {plan = plan} (refusals.Capture fault) inputs h = absurd h
found_untold asked {capture = capture} {plan = plan} (refusals.Script error) inputs h = absurd h
found_untold asked {capture = capture} {plan = plan} (refusals.Turns place) inputs h = h
found_untold asked {capture = capture} {plan = plan} (refusals.Save name) inputs h = h
found_untold asked {capture = capture} {plan = plan} (refusals.Verdict verdict) inputs h = (capture, plan, inputs, h)
