-- For `yes_is_exact` and `check`: the checker says yes exactly where the report and the savefile are what a run may have put out.
use Rattle.std.proofs.Common.{◌≡◌, ◌↔◌, ℕ, zero, suc, List, [], ◌∷◌, length, map, take, refl, sym, ap, subst, ◌∙◌, arith}
use Rattle.std.specs.Prelude.{Some, Result, Ok, Err}
use Rattle.std.specs.List.{AllByRecursion}
use Rattle.std.proofs.lemmas.List.{length-map}
use Rattle.std.proofs.lemmas.Option.{same_Some}
use Rattle.vg_model.specs.Graph.{Graph}
use Rattle.vg_model.specs.Journey.{Journey, journeys, sent}
use Rattle.vg_model.specs.Lawful.{AreLawfulChoices}
use Rattle.vg_model.specs.Count.{trace}
use Rattle.vg_model.proofs.LegEnds.{all_at}
use Rattle.vg_capture.specs.Savefile.{savefile}
use Rattle.vg_report.specs.declared.errors.ReportError.{ReportError}
use Rattle.vg_report.specs.declared.reports.Report.{Report}
use Rattle.vg_report.specs.Reading as reading
use Rattle.vg_report.specs.Text.{text}
use Rattle.vg_report.proofs.PrintTextLemmas.{reads_back}
use Rattle.vg_report.proofs.ReadTextLemmas.{reads_lawful}
use Rattle.vg_replay.specs.Tasks.{Task, IsFault}
use Rattle.vg_replay.proofs.ReplayLemmas.{as_many_journeys, no_fault}
use Rattle.vg_check.specs.declared.verdicts.Verdict.{Verdict}
use Rattle.vg_check.specs.declared.verdicts.Verdict.TheVariants as verdicts
use Rattle.vg_check.specs.Output.{Setting, report_of, choices_of, frames_of, last_graph, node_name, packet_line_of, IsOutput}
use Rattle.vg_check.specs.Points.{IsHead, setting_of, IsPushLawful}
use Rattle.vg_check.specs.Verdicts.{Case, first_of, task_by, report_by, AreTravelled, IsVerdict, IsSetting, IsAccepted}

-- as many traces as there are
traces_same : (t n : ℕ) (js : List Journey) → n ≡ length (take t js) → take n js ≡ take t js
traces_same t n js e = subst (λ m. take m js ≡ take t js) (sym e) (taken_length t js)
  where
    taken_length : (t : ℕ) (js : List Journey) → take (length (take t js)) js ≡ take t js
    taken_length zero js = refl
    taken_length (suc t) [] = refl
    taken_length (suc t) (j ∷ js) = ap (λ l. j ∷ l) (taken_length t js)

-- a report of journeys is that of the setting that is read off it
pub report_again : (setting : Setting) (graphs : List Graph) (js : List Journey) (report : Report) → report ≡ report_of setting graphs js
    → report ≡ report_of (setting_of report setting.queue) graphs js
report_again setting graphs js report is =
    let g = last_graph graphs in
    let long : length report.traces ≡ length (take setting.trace js) =
    ap (λ (r : Report). length r.traces) is ∙ length-map (take setting.trace js) (λ j. map (node_name g) (trace j)) in
    let traces = traces_same setting.trace (length report.traces) js long in
    let workers : setting.workers ≡ report.workers = sym (ap (λ (r : Report). r.workers) is) in
    let buffers : setting.buffers ≡ report.buffers = sym (ap (λ (r : Report). r.buffers) is) in
    is ∙ (λ i. record (report_of setting graphs js) {
      workers = workers i;
      buffers = buffers i;
      traces = map (λ j. map (node_name g) (trace j)) (sym traces i);
    })

-- the packets, under the choices that a report names, on so many workers
abbrev task_with : Case → ℕ → Report → Task
task_with case workers report = record (task_by case report) { workers = workers }

-- what is accepted is headed
headed_by : (case : Case) (setting : Setting) (report : Report) → IsSetting setting → IsOutput case.visit case.plan.graphs (first_of case) setting case.capture report case.tx
    → IsHead case.plan case.capture report
headed_by case setting report range output =
    let workers : report.workers ≡ setting.workers = ap (λ (r : Report). r.workers) output.reported in
    let buffers : report.buffers ≡ setting.buffers = ap (λ (r : Report). r.buffers) output.reported in
    let packets : length report.packets ≡ length output.js = ap (λ (r : Report). length r.packets) output.reported ∙ length-map output.js (packet_line_of (last_graph case.plan.graphs)) in
    let long : length output.js ≡ length (frames_of case.capture) = as_many_journeys (task_with case setting.workers report) output.js output.lawful.are_journeys in
    let least = range.buffers.0 in
    let most = range.buffers.1 in
    record {
      enough = omega (arith, workers, buffers, least);
      few = omega (arith, buffers, most);
      generations = ap (λ (r : Report). r.generations) output.reported;
      packets = packets ∙ long ∙ length-map case.capture.packets (λ p. p.bytes);
    }

-- what is accepted is so by the setting that is read off the report
output_by : (case : Case) (setting : Setting) (report : Report) → setting.queue ≡ case.queue → IsOutput case.visit case.plan.graphs (first_of case) setting case.capture report case.tx
    → IsOutput case.visit case.plan.graphs (first_of case) (setting_of report case.queue) case.capture report case.tx
output_by case setting report queue output =
    let workers : setting.workers ≡ report.workers = sym (ap (λ (r : Report). r.workers) output.reported) in
    record {
      js = output.js;
      lawful = subst (λ q. AreLawfulChoices case.visit case.plan.graphs report.workers q (first_of case) (frames_of case.capture) (choices_of report) output.js) queue
          (subst (λ w. AreLawfulChoices case.visit case.plan.graphs w setting.queue (first_of case) (frames_of case.capture) (choices_of report) output.js) workers output.lawful);
      reported = report_again setting case.plan.graphs output.js report output.reported ∙ ap (λ q. report_of (setting_of report q) case.plan.graphs output.js) queue;
      saved = output.saved;
    }

-- one text is read as one report
one_report : (case : Case) (one other : Report) → reading.report_of case.report ≡ Ok one → reading.report_of case.report ≡ Ok other → one ≡ other
one_report case one other e f =
    let same : (a : Result Report ReportError) → a ≡ Ok one → a ≡ Ok other → one ≡ other = λ a p q. cc in
    same (reading.report_of case.report) e f

-- no other point fails where the output is as it should be
module _ (case : Case) (good : Report) (read : reading.report_of case.report ≡ Ok good) (is_text : case.report ≡ text good)
    (output : IsOutput case.visit case.plan.graphs (first_of case) (setting_of good case.queue) case.capture good case.tx) (head : IsHead case.plan case.capture good) where
  same_journeys : (report : Report) (js : List Journey) → AreTravelled case report js → js ≡ output.js
  same_journeys report js travelled =
      let same : good ≡ report = one_report case good report read travelled.headed.is_report in
      same_Some _ _ (sym travelled.taken.are_journeys
      ∙ subst (λ (r : Report). journeys case.visit case.plan.graphs r.workers (frames_of case.capture) (choices_of r) ≡ Some output.js) same output.lawful.are_journeys)

  pub only_yes : (verdict : Verdict) → IsVerdict case verdict → verdict ≡ verdicts.Yes
  only_yes verdicts.Yes is = refl
  only_yes (verdicts.Report line cause) is = absurd (
      let clash : (a : Result Report ReportError) → a ≡ Ok good → a ≡ Err (record { line = line; cause = cause }) → ⊥ = λ a p q. cc in
      clash (reading.report_of case.report) read is.0
      )
  only_yes verdicts.Head is = absurd (is.2 (subst (IsHead case.plan case.capture) (one_report case good is.0 read is.1) head))
  only_yes (verdicts.Choices number) is = absurd (
      no_fault (task_by case good) output.js number (record { are_journeys = output.lawful.are_journeys; generations = output.lawful.lawful.generations })
      (subst (λ (r : Report). IsFault (task_by case r) number) (one_report case is.0 good is.1.is_report read) is.2.fault)
      )
  only_yes (verdicts.Queue number) is = absurd (
      let same : is.1 ≡ output.js = same_journeys is.0 is.1 is.2 in
      let all : AllByRecursion (IsPushLawful case.queue is.1) is.1 = subst (λ js. AllByRecursion (IsPushLawful case.queue js) js) (sym same) output.lawful.lawful.refusals in
      is.3.unlawful (all_at (IsPushLawful case.queue is.1) is.1 number is.3.j is.3.is all)
      )
  only_yes verdicts.Text is = absurd (
      let same : is.1 ≡ output.js = same_journeys is.0 is.1 is.2.travelled in
      let report : good ≡ is.0 = one_report case good is.0 read is.2.travelled.headed.is_report in
      is.3 (subst (λ (r : Report). case.report ≡ text (report_by case r is.1)) report (subst (λ js. case.report ≡ text (report_by case good js)) (sym same) (is_text ∙ ap text output.reported)))
      )
  only_yes verdicts.Tx is = absurd (
      let same : is.1 ≡ output.js = same_journeys is.0 is.1 is.2.travelled in
      is.4 (output.saved ∙ ap (λ js. savefile case.capture (sent js)) (sym same))
      )

-- yes exactly where a run may have put this out
pub yes_exactly : (case : Case) (verdict : Verdict) → IsVerdict case verdict → (verdict ≡ verdicts.Yes) ↔ IsAccepted case
yes_exactly case verdict is = (
  (λ e. accepted (subst (IsVerdict case) e is)),
  (λ a.
      let read : reading.report_of case.report ≡ Ok a.report = ap reading.report_of a.is_text ∙ reads_back a.report a.lawful in
      only_yes case a.report read a.is_text (output_by case a.setting a.report a.queue a.output) (headed_by case a.setting a.report a.in_range a.output) verdict is),
)
  where
    accepted : IsVerdict case verdicts.Yes → IsAccepted case
    accepted h =
        let r : Report = h.0 in
        let pushed = h.2 in
        let headed = pushed.travelled.headed in
        let law = reads_lawful case.report r headed.is_report in
        let head = headed.head in
        record {
          setting = setting_of r case.queue;
          report = r;
          in_range = record { workers = law.0.workers; buffers = (head.enough, head.few); trace = law.0.few_traces.0 };
          queue = refl;
          lawful = law.0;
          is_text = sym law.1;
          output = record {
            js = h.1;
            lawful = record { are_journeys = pushed.travelled.taken.are_journeys; lawful = record { generations = pushed.travelled.taken.generations; refusals = pushed.pushes } };
            reported = h.3;
            saved = h.4;
          };
        }
