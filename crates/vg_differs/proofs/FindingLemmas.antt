-- For `ways`, `other_text`, `other_saved` and `find_difference`: packets that are taken through once more.
use Rattle.std.proofs.Common.{◌≡◌, ℕ, ◌<◌, List, length, sym, ap, subst, ◌∙◌, arith}
use Rattle.std.specs.Prelude.{Some, None, Ok, Option, MatchOption}
use Rattle.std.proofs.lemmas.List.{length-map}
use Rattle.std.proofs.lemmas.Option.{same_Some, slice_get_within}
use Rattle.vg_model.specs.Journey.{Journey, journeys, sent}
use Rattle.vg_capture.specs.Savefile.{savefile}
use Rattle.vg_report.specs.declared.reports.Report.{Report}
use Rattle.vg_report.specs.Lawful.{IsLawful}
use Rattle.vg_report.specs.Reading as reading
use Rattle.vg_report.specs.Text.{text}
use Rattle.vg_report.proofs.ReadTextLemmas.{reads_lawful}
use Rattle.vg_replay.specs.Replays.{AreReplayed}
use Rattle.vg_replay.specs.Tasks.{IsFirstFault}
use Rattle.vg_replay.specs.declared.replaying.Replayed.{Replayed}
use Rattle.vg_check.specs.Output.{choices_of, frames_of}
use Rattle.vg_check.specs.Points.{IsHead, ArePushesLawful}
use Rattle.vg_check.specs.Reports.{with_counts}
use Rattle.vg_check.specs.Saves.{sent_from}
use Rattle.vg_check.specs.Verdicts.{Case, task_by, report_by, IsHeaded}
use Rattle.vg_check.proofs.ReportLemmas.{IsKnown, can_report, journey_in, many, reported_is}
use Rattle.vg_check.proofs.ToldLemmas.{as_many, sent_same}
use Rattle.vg_differs.specs.declared.lines.OtherLine.{OtherLine}
use Rattle.vg_differs.specs.declared.saved.OtherFile.{OtherFile}
use Rattle.vg_differs.specs.Findings.{HasWays, IsText, IsOtherText, IsSaved, IsOtherSaved}
use Rattle.vg_differs.specs.Lines.{IsOtherLine}
use Rattle.vg_differs.specs.Records.{IsOtherFile}
use Rattle.vg_differs.specs.Wanted.{wanted_text}
use Rattle.vg_differs.specs.Ways.{AreWays}

module _ (case : Case) (has : HasWays case) (report : Report) (is : reading.report_of case.report ≡ Ok report) where
  -- the report that has ways is this one
  same : has.report ≡ report
  same = let e : Ok has.report ≡ Ok report = sym has.pushed.travelled.headed.is_report ∙ is in cc

  pub lawful : IsLawful report
  lawful = (reads_lawful case.report report is).0

  pub headed : IsHeaded case report
  headed = record { is_report = is; head = subst (IsHead case.plan case.capture) same has.pushed.travelled.headed.head }

  -- what came of its packets is what its ways are
  pub ways_again : (replayed : Replayed) → IsKnown case → AreReplayed (task_by case report) (length report.traces) replayed → AreWays case report replayed
  ways_again replayed known are =
      let of : Report → Option (List Journey) = λ r. journeys case.visit case.plan.graphs r.workers (frames_of case.capture) (choices_of r) in
      let same_ways : has.js ≡ are.js = same_Some _ _ (sym has.pushed.travelled.taken.are_journeys ∙ ap of same ∙ are.taken.are_journeys) in
      let pushes : ArePushesLawful case.queue are.js = subst (ArePushesLawful case.queue) same_ways has.pushed.pushes in
      record {
        js = are.js;
        pushed = record { travelled = record { headed = headed; taken = are.taken }; pushes = pushes };
        can = can_report case known report replayed lawful headed.head are pushes;
        is_reported = reported_is case known report replayed lawful headed.head are;
        are_sent = sent_same 0 replayed.trips are.js are.trips (λ k j at.
            let number = (journey_in case known report replayed lawful headed.head are k j at).1 in omega (arith, number));
        many = as_many replayed.trips are.js are.trips ∙ many case known report replayed lawful headed.head are;
      }

module _ (case : Case) (report : Report) (replayed : Replayed) (are : AreWays case report replayed) where
  -- the line that is another than the one of the text that these packets come to
  pub text_found : (made : List ℕ) (o : Option OtherLine) → made ≡ wanted_text report replayed
      → MatchOption o (case.report ≡ made) (IsOtherLine case.report made) → MatchOption o (IsText case) (IsOtherText case)
  text_found made o is found =
      by o (subst (λ t. MatchOption o (case.report ≡ t) (IsOtherLine case.report t)) (is ∙ ap (λ (r : Report). text (with_counts r)) are.is_reported) found)
    where
      by : (o : Option OtherLine) → MatchOption o (case.report ≡ text (with_counts (report_by case report are.js))) (IsOtherLine case.report (text (with_counts (report_by case report are.js))))
          → MatchOption o (IsText case) (IsOtherText case)
      by None h = (record { report = report; js = are.js; pushed = are.pushed }, h)
      by (Some line) h = (record { report = report; js = are.js; pushed = are.pushed }, h)

  -- where the file is another than the savefile of what these packets sent
  pub file_found : (o : Option OtherFile) → MatchOption o (case.tx ≡ savefile case.capture (sent_from 0 replayed.trips)) (IsOtherFile case.capture (sent_from 0 replayed.trips) case.tx)
      → MatchOption o (IsSaved case) (IsOtherSaved case)
  file_found o found = by o (subst (λ s. MatchOption o (case.tx ≡ savefile case.capture s) (IsOtherFile case.capture s case.tx)) are.are_sent found)
    where
      by : (o : Option OtherFile) → MatchOption o (case.tx ≡ savefile case.capture (sent are.js)) (IsOtherFile case.capture (sent are.js) case.tx)
          → MatchOption o (IsSaved case) (IsOtherSaved case)
      by None h = (record { report = report; js = are.js; pushed = are.pushed }, h)
      by (Some other) h = (record { report = report; js = are.js; pushed = are.pushed }, h)

-- a packet that is at fault is there
pub fault_within : (case : Case) (report : Report) (number : ℕ) → IsFirstFault (task_by case report) number → number < length case.capture.packets
fault_within case report number first =
    let within : number < length (frames_of case.capture) = slice_get_within (frames_of case.capture) number first.fault.bytes first.fault.packet.is_bytes in
    let long : length (frames_of case.capture) ≡ length case.capture.packets = length-map case.capture.packets (λ p. p.bytes) in
    omega (arith, within, long)
