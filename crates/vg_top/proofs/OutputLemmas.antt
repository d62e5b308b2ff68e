-- For `forward`: from what came of a run to its report, its savefile and its end.
use Rattle.std.proofs.Common.{◌≡◌, ℕ, zero, suc, ◌-◌, ◌<◌, ◌≤◌, ◌+◌, ◌^◌, Bool, List, [], ◌∷◌, length, map, take, sym, ap, subst, ◌∙◌, arith}
use Rattle.std.specs.Prelude.{Some, IfSome, flat_map, slice_get}
use Rattle.std.specs.List.{AllByRecursion, enumerate_from}
use Rattle.std.proofs.lemmas.List.{length-map}
use Rattle.std.proofs.lemmas.Option.{none-some, same_Some}
use Rattle.vg_model.specs.Graph.{Graph, Node, with_routes}
use Rattle.vg_model.specs.Name.{IsName}
use Rattle.vg_files.specs.Kinds.{vgd_visit}
use Rattle.vg_model.specs.Journey.{Journey, fates, end_of}
use Rattle.vg_model.specs.Lawful.{AreLawfulChoices}
use Rattle.vg_model.specs.Count.{trace, node_count, interface_count}
use Rattle.vg_model.proofs.LegEnds.{all_at}
use Rattle.vg_capture.specs.declared.captures.Capture.{Capture}
use Rattle.vg_capture.specs.Savefile.{savefile}
use Rattle.vg_script.specs.Events.{events}
use Rattle.vg_script.proofs.EventLemmas.{events_are_few}
use Rattle.vg_report.specs.declared.reports.Report.{Report}
use Rattle.vg_report.specs.Lawful.{IsLawful}
use Rattle.vg_report.specs.Text.{text}
use Rattle.vg_plan.specs.Plan.{Planned, IsPlan, IsGeneration, first_generation}
use Rattle.vg_pool.specs.Settlement.{Settlement}
use Rattle.vg_barrier.specs.Seats.{main_view}
use Rattle.vg_journeys.specs.Ends.{IsEndIn}
use Rattle.vg_journeys.specs.Outcomes.{AreCounts}
use Rattle.vg_dispatch.specs.declared.options.Options.{Options}
use Rattle.vg_dispatch.specs.Progress.{AreInRange}
use Rattle.vg_engine.specs.declared.runs.Outcome.{Outcome}
use Rattle.vg_engine.specs.Places.{AllWith, pairs}
use Rattle.vg_engine.specs.Outcomes.{IsOutcome, IsRestOf}
use Rattle.vg_check.specs.Output.{Setting, IsOutput, report_of, choices_of, last_graph, frames_of, node_name, node_errors, packet_line_of}
use Rattle.vg_check.specs.OneWorker.{alone, HasOwnEnds}
use Rattle.vg_check.proofs.AlikeLemmas.{sends_alike}
use Rattle.vg_check.proofs.CongestionLemmas.{counted_ends}
use Rattle.vg_top.proofs.KindLemmas.{own_visits}
use Rattle.vg_check.proofs.JourneyLemmas.{IsOwn, own_journeys, chosen_lawfully}
use Rattle.vg_check.proofs.LawfulLemmas.{IsReportable, report_lawful}
use Rattle.vg_check.proofs.OutputLemmas.{named_are}
use Rattle.vg_remarks.specs.Remarks.{AreRemarks}
use Rattle.vg_top.specs.declared.run.Results.{Results}
use Rattle.vg_top.specs.Dues.{AreResultsOf, setting_in}
use Rattle.vg_top.specs.Reported.{reported}
use Rattle.vg_reporting.specs.Reports.{line_of_fate}
use Rattle.vg_top.proofs.LosslessLemmas.{lossless_by}
use Rattle.vg_reporting.proofs.ReportLemmas.{counted_are, errors_are, lines_are, traces_are}

-- the last of some graphs
last_is : (graphs : List Graph) (g : Graph) → slice_get graphs (length graphs - 1) ≡ Some g → last_graph graphs ≡ g
last_is [] g e = absurd (none-some g e)
last_is (h ∷ []) g e = same_Some _ _ e
last_is (h ∷ k ∷ graphs) g e =
    let last : suc (suc (length graphs)) - 1 ≡ suc (length graphs) = omega arith in
    let behind : slice_get (h ∷ k ∷ graphs) (suc (length graphs)) ≡ Some g = subst (λ n. slice_get (h ∷ k ∷ graphs) n ≡ Some g) last e in
    let before : length graphs ≡ suc (length graphs) - 1 = omega arith in
    last_is (k ∷ graphs) g (subst (λ n. slice_get (k ∷ graphs) n ≡ Some g) before behind)

-- the report of these journeys, by so many generations and the last graph
abbrev report_with : Setting → ℕ → Graph → List Journey → Report
report_with setting generations g js = record {
  workers = setting.workers;
  buffers = setting.buffers;
  generations = generations;
  interfaces = map (λ i. (i.1.name, interface_count i.0 js)) (enumerate_from 0 g.interfaces);
  nodes = map (λ n. (n.1.name, node_count n.0 js)) (enumerate_from 0 g.nodes);
  errors = flat_map (node_errors js) (enumerate_from 0 g.nodes);
  packets = map (packet_line_of g) js;
  traces = map (λ j. map (node_name g) (trace j)) (take setting.trace js);
}

-- the report of what came of a run, part by part
reported_with : (options : Options) (generations : ℕ) (outcome : Outcome) (last : Graph) (js : List Journey)
    → outcome.settled.len ≡ options.buffers → outcome.fates ≡ fates js → AreCounts js outcome.counts → outcome.trace ≡ map trace (take options.trace js)
    → reported options generations outcome ≡ report_with (setting_in options) generations (with_routes outcome.last last.routes last.routes6) js
reported_with options generations outcome last js buffers are_fates counts are_traces =
    let g : Graph = with_routes outcome.last last.routes last.routes6 in
    let interfaces = counted_are (λ interface. interface.name) (λ n. interface_count n js) g.interfaces outcome.counts.sends counts.sends in
    let nodes = counted_are (λ (node : Node). node.name) (λ n. node_count n js) g.nodes outcome.counts.visits counts.visits in
    let errors = errors_are js g.nodes outcome.counts.drops counts.drops in
    let packets = ap (map (line_of_fate g)) are_fates ∙ lines_are g js in
    let traces : map (map (node_name g)) outcome.trace ≡ map (λ j. map (node_name g) (trace j)) (take options.trace js) =
    ap (map (map (node_name g))) are_traces ∙ traces_are g (take options.trace js) in
    λ i. record {
      workers = options.workers;
      buffers = buffers i;
      generations = generations;
      interfaces = interfaces i;
      nodes = nodes i;
      errors = errors i;
      packets = packets i;
      traces = traces i;
    }

-- where there is one generation, one worker saves the same
alike_by : (graphs : List Graph) (first : ℕ → ℕ) (setting : Setting) (capture : Capture) (report : Report) (tx : List ℕ) → AllByRecursion IsGeneration graphs
    → IsOutput vgd_visit graphs first setting capture report tx → length graphs ≡ 1 → HasOwnEnds report
    → (other : Report) × IsOutput vgd_visit graphs first (alone setting) capture other tx
alike_by [] first setting capture report tx sound output one own = absurd (omega (arith, one))
alike_by (g ∷ []) first setting capture report tx sound output one own = sends_alike vgd_visit g first setting capture report tx sound.0.valid output own
alike_by (g ∷ h ∷ graphs) first setting capture report tx sound output one own = absurd (omega (arith, one))

-- what a run's report, its savefile and its end are made of
pub record AreMade (plan : Planned) (options : Options) (capture : Capture) (outcome : Outcome) (report : Report) (results : Results) : Type 0 where
  pub made : report ≡ reported options (length plan.graphs) outcome
  pub lawful : IsLawful report
  pub is_text : results.report ≡ text report
  pub saved : results.tx ≡ savefile capture outcome.sent
  pub rests : results.end.rests ≡ outcome.rests
  pub seat : results.end.seat ≡ outcome.seat
  pub settled : results.end.settled ≡ outcome.settled
  pub remarks : IfSome results.end.remarks (AreRemarks capture plan.script report)

-- a run's outcome by a plan
module _ (plan : Planned) (options : Options) (capture : Capture) (outcome : Outcome) (lossless : Bool)
    (is : IsOutcome vgd_visit lossless plan.graphs (first_generation plan.script capture) capture options outcome) where
  -- the last graph is that of the outcome, with its routes
  whole : with_routes outcome.last is.last.routes is.last.routes6 ≡ last_graph plan.graphs
  whole = is.last_is ∙ sym (last_is plan.graphs is.last is.is_last.is)

  -- the report is that of the journeys
  pub reported_is : reported options (length plan.graphs) outcome ≡ report_of (setting_in options) plan.graphs is.js
  reported_is =
      reported_with options (length plan.graphs) outcome is.last is.js (ap (λ (s : Settlement). s.len) is.settled) is.are_fates is.counts is.traces
      ∙ ap (λ g. report_with (setting_in options) (length plan.graphs) g is.js) whole

  -- the report, the savefile and the end are the run's
  pub results_are : (report : Report) (results : Results) → IsPlan plan → AreMade plan options capture outcome report results → AreResultsOf plan options lossless capture results
  results_are report results planned are =
      let first : ℕ → ℕ = first_generation plan.script capture in
      let is_report : report ≡ report_of (setting_in options) plan.graphs is.js = are.made ∙ reported_is in
      let named : choices_of report ≡ is.choices =
      ap choices_of is_report ∙ named_are vgd_visit plan.graphs options.workers (frames_of capture) is.choices is.js (setting_in options) plan.graphs is.lawful.are_journeys in
      let output : IsOutput vgd_visit plan.graphs first (setting_in options) capture report results.tx = record {
        js = is.js;
        lawful = subst (λ cs. AreLawfulChoices vgd_visit plan.graphs options.workers options.queue first (frames_of capture) cs is.js) (sym named) is.lawful;
        reported = is_report;
        saved = are.saved ∙ ap (savefile capture) is.are_sent;
      } in
      record {
        report = report;
        lawful = are.lawful;
        is_text = are.is_text;
        output = output;
        end = record {
          rests = subst (AllWith (IsRestOf is.js) (pairs options.workers)) (sym are.rests) is.rests;
          stamp = subst (λ seat. length plan.graphs ≤ (main_view seat.seat).stamp) (sym are.seat) is.stamp;
          settled = are.settled ∙ is.settled;
        };
        remarks = are.remarks;
        alike = alike_by plan.graphs first (setting_in options) capture report results.tx planned.generations output;
        lossless = λ yes_is. lossless_by plan.graphs first (setting_in options) capture report results.tx outcome.last outcome.fates planned.generations output
            (ap (λ (r : Report). r.packets) are.made) (is.none_congested yes_is);
      }

  -- each packet has a journey of its own
  pub own : AreInRange options → IsPlan plan → AllByRecursion (IsOwn options.workers (length (frames_of capture))) is.js × (length is.js ≡ length (frames_of capture))
  own range planned =
      own_journeys vgd_visit options.workers range.workers.0 plan.graphs planned.generations (frames_of capture) is.choices is.js is.lawful.are_journeys

  -- the report has a line for each packet
  pub one_line_each : (report : Report) → AreInRange options → IsPlan plan → report ≡ reported options (length plan.graphs) outcome → length report.packets ≡ length capture.packets
  one_line_each report range planned made =
      ap (λ (r : Report). length r.packets) (made ∙ reported_is)
      ∙ (length-map is.js (packet_line_of (last_graph plan.graphs)) ∙ ((own range planned).1 ∙ length-map capture.packets (λ p. p.bytes)))

  -- what the report is made from is in range
  pub reportable : AreInRange options → IsPlan plan → length plan.graphs ≡ length (events plan.script) + 1 → length capture.packets ≤ 65536
      → IsReportable (setting_in options) plan.graphs (length (frames_of capture)) is.js
  reportable range planned count few_packets =
      let few = events_are_few plan.script planned.lawful in
      let frames : length (frames_of capture) ≡ length capture.packets = length-map capture.packets (λ p. p.bytes) in
      let last : last_graph plan.graphs ≡ is.last = last_is plan.graphs is.last is.is_last.is in
      let owned = own range planned in
      let few_js : length is.js ≤ 65536 = (let long = owned.1 in omega (arith, long, frames, few_packets)) in
      record {
        workers = range.workers;
        buffers = range.buffers.1;
        few_traces = range.trace;
        generations = (omega (arith, count), omega (arith, count, few));
        last = subst IsGeneration (sym last) (all_at IsGeneration plan.graphs (length plan.graphs - 1) is.last is.is_last.is planned.generations);
        few = few_js;
        small = λ node. subst (λ n. n < 2 ^ 63) (is.counts.visits node) (is.whole.visits node);
        own = owned.0;
        chosen = chosen_lawfully options.workers (length (frames_of capture)) (length plan.graphs) options.queue (first_generation plan.script capture) is.js owned.0 few_js is.lawful.lawful;
        ends = subst (λ g. AllByRecursion (λ (j : Journey). IsEndIn g (end_of j.course.outcome)) is.js) (sym last) is.ends;
        visits = subst (λ (g : Graph). AllByRecursion (λ (j : Journey). AllByRecursion (λ node. node < length g.nodes) (trace j)) is.js) (sym last) is.visits;
      }

  -- the report is lawful
  pub made_lawful : (report : Report) → AreInRange options → IsPlan plan → length plan.graphs ≡ length (events plan.script) + 1 → length capture.packets ≤ 65536
      → report ≡ reported options (length plan.graphs) outcome → AllByRecursion (λ (entry : List ℕ × ℕ). IsName entry.0) report.interfaces
      → AllByRecursion (λ (entry : List ℕ × ℕ). IsName entry.0) report.nodes → IsLawful report
  made_lawful report range planned count few_packets made interfaces nodes =
      report_lawful (setting_in options) plan.graphs (length (frames_of capture)) is.js report (made ∙ reported_is) (reportable range planned count few_packets)
      (counted_ends vgd_visit own_visits options.workers plan.graphs (frames_of capture) is.choices is.js is.lawful.are_journeys) interfaces nodes

  -- each node of a trace is one of the last graph's
  pub traced_within : AllByRecursion (AllByRecursion (λ node. node < length outcome.last.nodes)) outcome.trace
  traced_within =
      let by_graph : AllByRecursion (λ (j : Journey). AllByRecursion (λ node. node < length (with_routes outcome.last is.last.routes is.last.routes6).nodes) (trace j)) is.js =
      subst (λ (g : Graph). AllByRecursion (λ (j : Journey). AllByRecursion (λ node. node < length g.nodes) (trace j)) is.js) (sym is.last_is) is.visits in
      subst (AllByRecursion (AllByRecursion (λ node. node < length outcome.last.nodes))) (sym is.traces)
      (taken_traces (AllByRecursion (λ node. node < length outcome.last.nodes)) options.trace is.js by_graph)
    where
      -- what holds of all traces holds of those of the first journeys
      taken_traces : (P : List ℕ → Type 0) (n : ℕ) (js : List Journey) → AllByRecursion (λ (j : Journey). P (trace j)) js → AllByRecursion P (map trace (take n js))
      taken_traces P zero js all = tt
      taken_traces P (suc n) [] all = tt
      taken_traces P (suc n) (j ∷ js) all = (all.0, taken_traces P n js all.1)
