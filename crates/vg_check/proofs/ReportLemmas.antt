-- For `verdict`: the report of packets is that of their journeys.
use Rattle.std.proofs.Common.{◌≡◌, ℕ, zero, suc, ◌+◌, ◌-◌, ◌*◌, ◌<◌, ◌≤◌, List, [], ◌∷◌, ◌++◌, length, map, take, refl, sym, ap, subst, ◌∙◌, arith, length-append}
use Rattle.std.specs.Prelude.{Some, option_and_then, slice_get, slice_index, ◌==◌, filter, flat_map, nat_lt}
use Rattle.std.specs.List.{AllByRecursion, enumerate_from}
use Rattle.std.proofs.lemmas.List.{length-map}
use Rattle.std.proofs.lemmas.List.Sums.{count_by-le-length}
use Rattle.std.proofs.lemmas.Option.{none-some, same_Some, slice_get_within}
use Rattle.vg_model.specs.declared.kinds.DropError.{DropError}
use Rattle.vg_model.specs.declared.fates.End.{End}
use Rattle.vg_model.specs.declared.fates.End.TheVariants as ends
use Rattle.vg_model.specs.Errors.{all_errors, error_number}
use Rattle.vg_model.specs.Graph.{Graph, Node, error_drop}
use Rattle.vg_model.specs.Growth.{Grows}
use Rattle.vg_model.specs.Leg.{Outcome}
use Rattle.vg_model.specs.Journey.{Journey, Course, end_of}
use Rattle.vg_model.specs.Lawful.{AreLawful}
use Rattle.vg_model.specs.Count.{trace, drop_visit, node_count, error_count, interface_count}
use Rattle.vg_model.specs.Valid.{IsKindSet, AreBytes}
use Rattle.vg_model.proofs.Journeys.{then_some, map_some}
use Rattle.vg_model.proofs.LegEnds.{all_at}
use Rattle.vg_counters.specs.Tally.{drops_at}
use Rattle.vg_journeys.specs.Ends.{IsEndIn}
use Rattle.vg_plan.specs.Plan.{IsPlan, IsGeneration}
use Rattle.vg_plan.proofs.GrowthLemmas.{grows_to_last}
use Rattle.vg_script.specs.Events.{events}
use Rattle.vg_script.proofs.EventLemmas.{events_are_few}
use Rattle.vg_report.specs.declared.reports.Report.{Report}
use Rattle.vg_report.specs.Lawful.{IsLawful}
use Rattle.vg_replay.specs.Counts.{IsEndWithin, journey_at}
use Rattle.vg_replay.specs.Replays.{told, AreReplayed}
use Rattle.vg_replay.specs.Tasks.{journey_under}
use Rattle.vg_replay.specs.declared.replaying.Replayed.{Replayed}
use Rattle.vg_replay.proofs.InsideLemmas.{IsBounded, IsInside, IsJourneyOf, journey_has, course_inside, end_within, drop_within, all_joined}
use Rattle.vg_replay.proofs.ReplayLemmas.{all_by_get, journey_of_all, as_many_journeys, get_some}
use Rattle.vg_check.specs.Output.{last_graph, frames_of, choices_of, choice_of, node_name, node_errors, packet_line_of}
use Rattle.vg_check.specs.Points.{IsHead, setting_of, ArePushesLawful}
use Rattle.vg_check.specs.Reports.{counted, made_entry, made_of, made_by, all_made, reported, trace_of, CanReport}
use Rattle.vg_check.specs.Verdicts.{Case, first_of, task_by, report_by}
use Rattle.vg_check.proofs.JourneyLemmas.{IsOwn, chosen, chosen_are, own_journeys, chosen_lawfully}
use Rattle.vg_check.proofs.LawfulLemmas.{IsReportable, lawful_with_counts}
use Rattle.vg_check.proofs.ToldLemmas.{told_of, as_many, told_at, lines_same, traces_same}

-- counts by name, where they are counts by number, from a number on
counted_from : {X : Type 0} (name_of : X → List ℕ) (count : ℕ → ℕ) (counts : List ℕ) (k : ℕ) (xs : List X) → ((n : ℕ) → slice_index counts n ≡ count n)
    → map {B = List ℕ × ℕ} (λ (numbered : ℕ × X). (name_of numbered.1, slice_index counts numbered.0)) (enumerate_from k xs)
    ≡ map (λ (numbered : ℕ × X). (name_of numbered.1, count numbered.0)) (enumerate_from k xs)
counted_from name_of count counts k [] h = refl
counted_from name_of count counts k (x ∷ xs) h =
    let later = counted_from name_of count counts (k + 1) xs h in
    λ i. (name_of x, h k i) ∷ later i

-- the same from the first on
counted_are : {X : Type 0} (name_of : X → List ℕ) (count : ℕ → ℕ) (xs : List X) (counts : List ℕ) → ((n : ℕ) → slice_index counts n ≡ count n)
    → counted name_of xs counts ≡ map (λ (numbered : ℕ × X). (name_of numbered.1, count numbered.0)) (enumerate_from 0 xs)
counted_are name_of count xs counts h = counted_from name_of count counts 0 xs h

-- a node's errors with how often each was made
entries_are : (name : List ℕ) (one other : DropError → ℕ) (errors : List DropError) → ((error : DropError) → one error ≡ other error)
    → map (made_entry name one) errors ≡ map {B = List ℕ × DropError × ℕ} (λ error. (name, error, other error)) errors
entries_are name one other [] h = refl
entries_are name one other (error ∷ errors) h =
    let later = entries_are name one other errors h in
    λ i. (name, error, h error i) ∷ later i

-- the errors of nodes, from a number on
errors_from : (js : List Journey) (drops : List (List ℕ)) (k : ℕ) (nodes : List Node) → ((node : ℕ) (error : DropError) → drops_at node (error_number error) drops ≡ error_count node error js)
    → flat_map (λ (numbered : ℕ × Node). made_of numbered.1.name (made_by drops numbered.0) all_errors) (enumerate_from k nodes) ≡ flat_map (node_errors js) (enumerate_from k nodes)
errors_from js drops k [] h = refl
errors_from js drops k (node ∷ nodes) h =
    let here = ap (filter (λ (entry : List ℕ × DropError × ℕ). nat_lt 0 entry.2)) (entries_are node.name (made_by drops k) (λ error. error_count k error js) all_errors (h k)) in
    let later = errors_from js drops (k + 1) nodes h in
    λ i. here i ++ later i

errors_are : (js : List Journey) (nodes : List Node) (drops : List (List ℕ)) → ((node : ℕ) (error : DropError) → drops_at node (error_number error) drops ≡ error_count node error js)
    → all_made nodes drops ≡ flat_map (node_errors js) (enumerate_from 0 nodes)
errors_are js nodes drops h = errors_from js drops 0 nodes h

-- the last of some graphs
pub last_is : (graphs : List Graph) (g : Graph) → slice_get graphs (length graphs - 1) ≡ Some g → last_graph graphs ≡ g
last_is [] g e = absurd (none-some g e)
last_is (h ∷ []) g e = same_Some _ _ e
last_is (h ∷ k ∷ graphs) g e =
    let last : suc (suc (length graphs)) - 1 ≡ suc (length graphs) = omega arith in
    let behind : slice_get (h ∷ k ∷ graphs) (suc (length graphs)) ≡ Some g = subst (λ n. slice_get (h ∷ k ∷ graphs) n ≡ Some g) last e in
    let before : length graphs ≡ suc (length graphs) - 1 = omega arith in
    last_is (k ∷ graphs) g (subst (λ n. slice_get (k ∷ graphs) n ≡ Some g) before behind)

-- the report of journeys with this head, by the last graph
abbrev report_with : Report → ℕ → Graph → List Journey → Report
report_with report generations g js = record {
  workers = report.workers;
  buffers = report.buffers;
  generations = generations;
  interfaces = map (λ i. (i.1.name, interface_count i.0 js)) (enumerate_from 0 g.interfaces);
  nodes = map (λ n. (n.1.name, node_count n.0 js)) (enumerate_from 0 g.nodes);
  errors = flat_map (node_errors js) (enumerate_from 0 g.nodes);
  packets = map (packet_line_of g) js;
  traces = map (λ j. map (node_name g) (trace j)) (take (length report.traces) js);
}

-- few visits in all
few_visits : (workers most : ℕ) (js : List Journey) → AllByRecursion (IsOwn workers most) js → length (flat_map trace js) ≤ 272 * length js
few_visits workers most [] own = omega arith
few_visits workers most (j ∷ js) own =
    let first : length (trace j) ≤ 272 = own.0.few_visits in
    let rest = few_visits workers most js own.1 in
    let both : length (flat_map trace (j ∷ js)) ≡ length (trace j) + length (flat_map trace js) = length-append (trace j) (flat_map trace js) in
    omega (arith, first, rest, both)

-- an end at the nodes and on the interfaces of a graph
end_in : (g : Graph) (o : Outcome) → IsEndWithin (length g.nodes) (length g.interfaces) (end_of o) → IsEndIn g (end_of o)
end_in g o h = by (end_of o) h
  where
    by : (end : End) → IsEndWithin (length g.nodes) (length g.interfaces) end → IsEndIn g end
    by (ends.Tx interface) h = h
    by (ends.Dropped node error) h = h

-- what holds of the plan and the capture of a case
pub record IsKnown (case : Case) : Type 0 where
  pub plan : IsPlan case.plan
  pub events : length case.plan.graphs ≡ length (events case.plan.script) + 1
  pub few : length case.capture.packets ≤ 65536
  pub kinds : IsKindSet case.visit

module _ (case : Case) (known : IsKnown case) (report : Report) (replayed : Replayed) (lawful : IsLawful report) (head : IsHead case.plan case.capture report)
    (are : AreReplayed (task_by case report) (length report.traces) replayed) where
  g : Graph
  g = last_graph case.plan.graphs

  last : last_graph case.plan.graphs ≡ replayed.last
  last = last_is case.plan.graphs replayed.last are.last

  pub lines_named : map choice_of report.packets ≡ map chosen are.js
  lines_named = sym (chosen_are case.visit case.plan.graphs report.workers (frames_of case.capture) (choices_of report) are.js are.taken.are_journeys)

  -- the report of the packets
  pub reported_is : reported report replayed ≡ report_by case report are.js
  reported_is = by_last ∙ (λ i. report_with report (head.generations i) (sym last i) are.js)
    where
      by_last : reported report replayed ≡ report_with report report.generations replayed.last are.js
      by_last =
          let interfaces = counted_are (λ interface. interface.name) (λ n. interface_count n are.js) replayed.last.interfaces replayed.counts.sends are.counts.sends in
          let nodes = counted_are (λ (node : Node). node.name) (λ n. node_count n are.js) replayed.last.nodes replayed.counts.visits are.counts.visits in
          let errors = errors_are are.js replayed.last.nodes replayed.counts.drops are.counts.drops in
          let packets = lines_same replayed.last report.packets replayed.trips are.js lines_named are.trips in
          let traces = traces_same replayed.last (length report.traces) replayed.trips are.js are.trips are.visits in
          λ i. record {
            workers = report.workers;
            buffers = report.buffers;
            generations = report.generations;
            interfaces = interfaces i;
            nodes = nodes i;
            errors = errors i;
            packets = packets i;
            traces = traces i;
          }

  -- each graph has no more nodes and interfaces than the last
  bounded : (generation : ℕ) (one : Graph) → slice_get case.plan.graphs generation ≡ Some one → IsBounded (length replayed.last.nodes) (length replayed.last.interfaces) one
  bounded generation one at =
      let is : IsGeneration one = all_at IsGeneration case.plan.graphs generation one at known.plan.generations in
      let grows : Grows one replayed.last = grows_to_last case.plan known.plan generation one replayed.last at are.last in
      record { valid = is.valid; few = is.few_nodes; nodes_are = grows.nodes; interfaces_are = grows.interfaces }

  last_generation : IsGeneration replayed.last
  last_generation = all_at IsGeneration case.plan.graphs (length case.plan.graphs - 1) replayed.last are.last known.plan.generations

  some_node : error_drop < length replayed.last.nodes
  some_node =
      let found = map_some (λ (n : Node). n.kind) (slice_get replayed.last.nodes error_drop) _ last_generation.valid.drop in
      slice_get_within replayed.last.nodes error_drop found.0 found.1

  -- a journey ends and goes by nodes of the last graph, and on workers that are there
  pub journey_in : (k : ℕ) (j : Journey) → slice_get are.js k ≡ Some j
      → (count : ℕ) × (j.number ≡ k) × IsInside (length replayed.last.nodes) (length replayed.last.interfaces) report.workers k count j.course
  journey_in k j at =
      let there : journey_at (task_by case report) k ≡ Some j = journey_of_all (task_by case report) are.js are.taken.are_journeys k j at in
      let s = then_some (λ bytes. option_and_then (journey_under (task_by case report) k bytes) (slice_get (choices_of report) k)) (slice_get (frames_of case.capture) k) j there in
      let t = then_some (journey_under (task_by case report) k s.0) (slice_get (choices_of report) k) j s.2 in
      let has : IsJourneyOf case.visit case.plan.graphs report.workers k s.0 t.0 j = journey_has case.visit case.plan.graphs report.workers k s.0 t.0 j t.2 in
      let bytes : AreBytes s.0 = all_at AreBytes (frames_of case.capture) k s.0 s.1 are.possible in (
        length t.0.generations,
        has.number_is,
        course_inside case.visit known.kinds case.plan.graphs (length replayed.last.nodes) (length replayed.last.interfaces) report.workers lawful.workers.0 bounded k s.0 t.0.generations j.course bytes has.course,
      )

  ends_js : AllByRecursion (λ (j : Journey). IsEndIn replayed.last (end_of j.course.outcome)) are.js
  ends_js = all_by_get (λ (j : Journey). IsEndIn replayed.last (end_of j.course.outcome)) are.js (λ k j at.
      let is = journey_in k j at in
      end_in replayed.last j.course.outcome (end_within (length replayed.last.nodes) (length replayed.last.interfaces) report.workers j.course.outcome is.2.outcome))

  visits_js : AllByRecursion (λ (j : Journey). AllByRecursion (λ node. node < length replayed.last.nodes) (trace j)) are.js
  visits_js = all_by_get (λ (j : Journey). AllByRecursion (λ node. node < length replayed.last.nodes) (trace j)) are.js (λ k j at.
      let is = journey_in k j at in
      all_joined (λ node. node < length replayed.last.nodes) j.course.visits (drop_visit (end_of j.course.outcome)) is.2.visits
      (drop_within (length replayed.last.nodes) (end_of j.course.outcome) some_node))

  pub many : length are.js ≡ length case.capture.packets
  many = as_many_journeys (task_by case report) are.js are.taken.are_journeys ∙ length-map case.capture.packets (λ p. p.bytes)

  -- the journeys make a report that is lawful, but for counts that drops by congestion lack
  reportable : ArePushesLawful case.queue are.js → IsReportable (setting_of report case.queue) case.plan.graphs (length (frames_of case.capture)) are.js
  reportable pushes =
      let owned = own_journeys case.visit report.workers lawful.workers.0 case.plan.graphs known.plan.generations (frames_of case.capture) (choices_of report) are.js are.taken.are_journeys in
      let few_js : length are.js ≤ 65536 = (let e = many in let h = known.few in omega (arith, e, h)) in
      let few = events_are_few case.plan.script known.plan.lawful in
      let count = known.events in
      let lawfully : AreLawful (length case.plan.graphs) case.queue (first_of case) are.js = record { generations = are.taken.generations; refusals = pushes } in
      record {
        workers = lawful.workers;
        buffers = head.few;
        few_traces = lawful.few_traces.0;
        generations = (omega (arith, count), omega (arith, count, few));
        last = subst IsGeneration (sym last) last_generation;
        few = few_js;
        small = λ node. (let le = count_by-le-length (λ n. n == node) (flat_map trace are.js) in let h = few_visits report.workers (length (frames_of case.capture)) are.js owned.0 in omega (arith, le, h, few_js));
        own = owned.0;
        chosen = chosen_lawfully report.workers (length (frames_of case.capture)) (length case.plan.graphs) case.queue (first_of case) are.js owned.0 few_js lawfully;
        ends = subst (λ g. AllByRecursion (λ (j : Journey). IsEndIn g (end_of j.course.outcome)) are.js) (sym last) ends_js;
        visits = subst (λ (g : Graph). AllByRecursion (λ (j : Journey). AllByRecursion (λ node. node < length g.nodes) (trace j)) are.js) (sym last) visits_js;
      }

  -- the journey of a packet
  journey_of_trip : (k : ℕ) (t : Course) → slice_get replayed.trips k ≡ Some t → (j : Journey) × (slice_get are.js k ≡ Some j) × (told t ≡ told_of j)
  journey_of_trip k t at =
      let there = get_some are.js k (let h = slice_get_within replayed.trips k t at in let e = as_many replayed.trips are.js are.trips in omega (arith, h, e)) in
      (there.0, there.1, told_at replayed.trips are.js are.trips k t there.0 at there.1)

  -- all is there to report
  pub can_report : ArePushesLawful case.queue are.js → CanReport report replayed
  can_report pushes = record {
    lines = sym (length-map report.packets choice_of) ∙ ap length lines_named ∙ length-map are.js chosen ∙ sym (as_many replayed.trips are.js are.trips);
    few = (let h = lawful.few_traces.1 in let e = head.packets in let m = many in let t = as_many replayed.trips are.js are.trips in omega (arith, h, e, m, t));
    nodes = (let h = last_generation.few_nodes in let e = are.nodes in omega (arith, h, e));
    interfaces = (let h = last_generation.few_interfaces in let e = are.interfaces in omega (arith, h, e));
    ends = all_by_get (λ (t : Course). IsEndIn replayed.last (end_of t.outcome)) replayed.trips (λ k t at.
        let j = journey_of_trip k t at in
        subst (λ o. IsEndIn replayed.last (end_of o)) (sym (ap (λ t. t.outcome) j.2)) (all_at (λ (j : Journey). IsEndIn replayed.last (end_of j.course.outcome)) are.js k j.0 j.1 ends_js));
    visits = visits_trips;
    lawful = λ a b. lawful_with_counts (setting_of report case.queue) case.plan.graphs (length (frames_of case.capture)) are.js (reported report replayed) reported_is (reportable pushes) a b;
  }
    where
      visits_trips : AllByRecursion (λ (t : Course). AllByRecursion (λ node. node < length replayed.last.nodes) (trace_of t)) (take (length report.traces) replayed.trips)
      visits_trips = trips_by (length report.traces) replayed.trips are.js are.trips are.visits visits_js
        where
          trips_by : (n : ℕ) (trips : List Course) (js : List Journey) → map told trips ≡ map told_of js → map (λ (t : Course). t.visits) (take n trips) ≡ map (λ (j : Journey). j.course.visits) (take n js)
              → AllByRecursion (λ (j : Journey). AllByRecursion (λ node. node < length replayed.last.nodes) (trace j)) js
              → AllByRecursion (λ (t : Course). AllByRecursion (λ node. node < length replayed.last.nodes) (trace_of t)) (take n trips)
          trips_by zero trips js same visits all = tt
          trips_by (suc n) [] js same visits all = tt
          trips_by (suc n) (t ∷ trips) [] same visits all = (let e = ap length same in absurd (omega (arith, e)))
          trips_by (suc n) (t ∷ trips) (j ∷ js) same visits all =
              let first : told t ≡ told_of j = told_at (t ∷ trips) (j ∷ js) same 0 t j refl refl in
              let rest : map told trips ≡ map told_of js = cc in
              let seen : j.course.visits ≡ t.visits = cc in
              let others : map (λ (t : Course). t.visits) (take n trips) ≡ map (λ (j : Journey). j.course.visits) (take n js) = cc in
              let here : trace j ≡ trace_of t = (λ i. seen i ++ drop_visit (end_of (sym first i).outcome)) in
              (subst (AllByRecursion (λ node. node < length replayed.last.nodes)) here all.0, trips_by n trips js rest others all.1)
