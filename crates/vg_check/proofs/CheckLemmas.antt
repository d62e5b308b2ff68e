-- For `check` and `verdict`: from what came of packets to the verdict.
use Rattle.std.proofs.Common.{◌≡◌, ◌≢◌, ◌↔◌, ℕ, ◌<◌, ◌≤◌, Bool, true, false, List, [], ◌∷◌, length, refl, sym, ap, subst, ◌∙◌, arith}
use Rattle.std.specs.Prelude.{Option, Some, None, Ok, Result, Err, IfOk, IsTrue, MatchOption}
use Rattle.std.specs.List.{AllByRecursion}
use Rattle.std.proofs.lemmas.Bool.{iff_false}
use Rattle.std.proofs.lemmas.Option.{slice_get_within}
use Rattle.vg_model.specs.Leg.{Outcome, Sent, Dropped, Handed}
use Rattle.vg_model.specs.declared.fates.Leg.{Leg}
use Rattle.vg_model.specs.Journey.{Course, sent}
use Rattle.vg_model.proofs.LegEnds.{all_at}
use Rattle.vg_capture.specs.Savefile.{savefile}
use Rattle.vg_report.specs.declared.reports.Report.{Report}
use Rattle.vg_report.specs.Lawful.{IsLawful}
use Rattle.vg_report.specs.Reading as reading
use Rattle.vg_report.specs.Text.{text}
use Rattle.vg_report.proofs.ReadTextLemmas.{reads_lawful}
use Rattle.vg_replay.specs.Replays.{told, AreReplayed}
use Rattle.vg_replay.specs.declared.replaying.Replayed.{Replayed}
use Rattle.vg_replay.proofs.InsideLemmas.{IsOutcomeWithin}
use Rattle.vg_replay.proofs.ReplayLemmas.{all_by_get, get_some}
use Rattle.vg_check.specs.declared.verdicts.Verdict.{Verdict}
use Rattle.vg_check.specs.declared.verdicts.Verdict.TheVariants as verdicts
use Rattle.vg_check.specs.Hands.{IsOnWorkers, IsToWorker, AreRefusalsBelow, IsFirstUnlawful}
use Rattle.vg_check.specs.Output.{frames_of, choices_of}
use Rattle.vg_check.specs.Points.{IsHead, ArePushesLawful}
use Rattle.vg_check.specs.Reports.{reported, with_counts, CanReport}
use Rattle.vg_check.specs.Saves.{sent_from}
use Rattle.vg_check.specs.Verdicts.{Case, task_by, report_by, IsHeaded, AreTravelled, ArePushed, IsVerdict, IsAccepted, IsReadAs}
use Rattle.vg_check.proofs.CountedLemmas.{same_text}
use Rattle.vg_check.proofs.JourneyLemmas.{IsOwn, own_journeys}
use Rattle.vg_check.proofs.ReportLemmas.{IsKnown, lines_named, reported_is, journey_in, can_report, many}
use Rattle.vg_check.proofs.ToldLemmas.{told_of, as_many, told_at, all_pushes, first_refusal, sent_same}
use Rattle.vg_check.proofs.YesLemmas.{yes_exactly}

module _ (case : Case) (known : IsKnown case) (report : Report) (replayed : Replayed) (lawful : IsLawful report) (headed : IsHeaded case report)
    (are : AreReplayed (task_by case report) (length report.traces) replayed) where
  -- the journeys
  travelled : AreTravelled case report are.js
  travelled = record { headed = headed; taken = are.taken }

  -- packets are on workers that are there
  pub on_workers : AllByRecursion IsOnWorkers replayed.trips
  on_workers = all_by_get IsOnWorkers replayed.trips (λ k t at.
      let e = as_many replayed.trips are.js are.trips in
      let j = get_some are.js k (let h = slice_get_within replayed.trips k t at in omega (arith, h, e)) in
      let same : told t ≡ told_of j.0 = told_at replayed.trips are.js are.trips k t j.0 at j.1 in
      let inside = (journey_in case known report replayed lawful headed.head are k j.0 j.1).2 in
      let owned = own_journeys case.visit report.workers lawful.workers.0 case.plan.graphs known.plan.generations (frames_of case.capture) (choices_of report) are.js are.taken.are_journeys in
      let own : IsOwn report.workers (length (frames_of case.capture)) j.0 = all_at (IsOwn report.workers (length (frames_of case.capture))) are.js k j.0 j.1 owned.0 in
      let most : report.workers ≤ 8 = lawful.workers.1 in
      record {
        some = subst (λ (ls : List Leg). 1 ≤ length ls) (sym (ap (λ t. t.legs) same)) own.some;
        legs = subst (λ (ls : List Leg). AllByRecursion (λ (leg : Leg). leg.worker < 8) ls) (sym (ap (λ t. t.legs) same)) (fewer report.workers j.0.course.legs most inside.workers_are);
        next = subst IsToWorker (sym (ap (λ t. t.outcome) same)) (to_worker j.0.course.outcome most inside.outcome);
      })
    where
      fewer : (workers : ℕ) (legs : List Leg) → workers ≤ 8 → AllByRecursion (λ (leg : Leg). leg.worker < workers) legs → AllByRecursion (λ (leg : Leg). leg.worker < 8) legs
      fewer workers [] most all = tt
      fewer workers (leg ∷ legs) most all = (let h = all.0 in omega (arith, h, most), fewer workers legs most all.1)

      to_worker : (o : Outcome) → report.workers ≤ 8 → IsOutcomeWithin (length replayed.last.nodes) (length replayed.last.interfaces) report.workers o → IsToWorker o
      to_worker (Sent interface) most h = tt
      to_worker (Dropped node error) most h = tt
      to_worker (Handed node worker) most h = (let k = h.1 in omega (arith, k, most))

  -- there are as many as packets
  pub trips_many : length replayed.trips ≡ length case.capture.packets
  trips_many = as_many replayed.trips are.js are.trips ∙ many case known report replayed lawful headed.head are

  -- a push that may not have been
  pub queue_by : (number : ℕ) → IsFirstUnlawful case.queue report.packets replayed.trips number → IsVerdict case (verdicts.Queue number)
  queue_by number is =
      (report, are.js, travelled, first_refusal replayed.trips are.js are.trips report.packets (lines_named case known report replayed lawful headed.head are) case.queue number is)

  -- all may have been
  module _ (below : AreRefusalsBelow case.queue report.packets replayed.trips (length replayed.trips)) where
    pushes : ArePushesLawful case.queue are.js
    pushes = all_pushes replayed.trips are.js are.trips report.packets (lines_named case known report replayed lawful headed.head are) case.queue below

    pushed : ArePushed case report are.js
    pushed = record { travelled = travelled; pushes = pushes }

    pub can_be_reported : CanReport report replayed
    can_be_reported = can_report case known report replayed lawful headed.head are pushes

    made_is : reported report replayed ≡ report_by case report are.js
    made_is = reported_is case known report replayed lawful headed.head are

    -- the text differs
    text_by : case.report ≢ text (reported report replayed) → IsVerdict case verdicts.Text
    text_by apart = (report, are.js, pushed, λ e. apart (e ∙ ap text (sym made_is)))

    -- where it does not, the report is that of the journeys
    same_report : report ≡ reported report replayed → report ≡ report_by case report are.js
    same_report e = e ∙ made_is

    -- the report is another, and so is its text
    pub other_by : IsLawful (with_counts (reported report replayed)) → (report ≡ reported report replayed → ⊥) → IsVerdict case verdicts.Text
    other_by lawful_made apart = text_by (λ e.
        let read : text report ≡ case.report = (reads_lawful case.report report headed.is_report).1 in
        apart (same_text report (reported report replayed) lawful lawful_made (read ∙ e)))

    saved_is : sent_from 0 replayed.trips ≡ sent are.js
    saved_is = sent_same 0 replayed.trips are.js are.trips (λ k j at.
        let is = (journey_in case known report replayed lawful headed.head are k j at).1 in omega (arith, is))

    -- the savefile differs, and doesn't
    pub tx_by : report ≡ reported report replayed → case.tx ≢ savefile case.capture (sent_from 0 replayed.trips) → IsVerdict case verdicts.Tx
    tx_by e apart = (report, are.js, pushed, same_report e, λ f. apart (f ∙ ap (savefile case.capture) (sym saved_is)))

    pub yes_by : report ≡ reported report replayed → case.tx ≡ savefile case.capture (sent_from 0 replayed.trips) → IsVerdict case verdicts.Yes
    yes_by e f = (report, are.js, pushed, same_report e, f ∙ ap (savefile case.capture) saved_is)

-- what is known once the packets were replayed: these are the trips
pub record IsMade (case : Case) (report : Report) (replayed : Replayed) (trips : List Course) : Type 0 where
  pub known : IsKnown case
  pub lawful : IsLawful report
  pub headed : IsHeaded case report
  pub are : AreReplayed (task_by case report) (length report.traces) replayed
  pub trips_are : trips ≡ replayed.trips

pub made : (case : Case) (report : Report) (replayed : Replayed) (trips : List Course) (traced : ℕ) (read : Result Report Verdict) → IsKnown case → IsReadAs case.report read → read ≡ Ok report
    → IsHead case.plan case.capture report → traced ≡ length report.traces → AreReplayed (task_by case report) traced replayed → trips ≡ replayed.trips → IsMade case report replayed trips
made case report replayed trips traced read known is_read is head traces are same =
    let law : (reading.report_of case.report ≡ Ok report) × IsLawful report = subst (IsReadAs case.report) is is_read in
    record {
      known = known;
      lawful = law.1;
      headed = record { is_report = law.0; head = head };
      are = subst (λ n. AreReplayed (task_by case report) n replayed) traces are;
      trips_are = same;
    }

module _ (case : Case) (report : Report) (replayed : Replayed) (trips : List Course) (m : IsMade case report replayed trips) where
  pub long : length trips ≡ length case.capture.packets
  long = ap length m.trips_are ∙ trips_many case m.known report replayed m.lawful m.headed m.are

  pub few : length trips ≤ 65536
  few = (let e = long in let h = m.known.few in omega (arith, e, h))

  pub as_many_lines : length report.packets ≡ length trips
  as_many_lines = m.headed.head.packets ∙ sym long

  pub workers_are : AllByRecursion IsOnWorkers trips
  workers_are = subst (AllByRecursion IsOnWorkers) (sym m.trips_are) (on_workers case m.known report replayed m.lawful m.headed m.are)

  module _ (refusal : Option ℕ) (found : MatchOption refusal (AreRefusalsBelow case.queue report.packets trips (length trips)) (IsFirstUnlawful case.queue report.packets trips)) where
    -- a push that may not have been was found
    pub refused : (number : ℕ) → refusal ≡ Some number → IsVerdict case (verdicts.Queue number)
    refused number is = queue_by case m.known report replayed m.lawful m.headed m.are number
        (subst (λ ts. IsFirstUnlawful case.queue report.packets ts number) m.trips_are
        (subst (λ o. MatchOption o (AreRefusalsBelow case.queue report.packets trips (length trips)) (IsFirstUnlawful case.queue report.packets trips)) is found))

    -- none was
    module _ (none : (number : ℕ) → refusal ≡ Some number → ⊥) where
      below : AreRefusalsBelow case.queue report.packets replayed.trips (length replayed.trips)
      below = subst (λ ts. AreRefusalsBelow case.queue report.packets ts (length ts)) m.trips_are (by refusal found none)
        where
          by : (o : Option ℕ) → MatchOption o (AreRefusalsBelow case.queue report.packets trips (length trips)) (IsFirstUnlawful case.queue report.packets trips)
              → ((number : ℕ) → o ≡ Some number → ⊥) → AreRefusalsBelow case.queue report.packets trips (length trips)
          by None h f = h
          by (Some number) h f = absurd (f number refl)

      pub reports : CanReport report replayed
      reports = can_be_reported case m.known report replayed m.lawful m.headed m.are below

      module _ (same : Bool) (same_is : IsTrue same ↔ (report ≡ reported report replayed)) where
        -- the report is another
        pub other_text : IsLawful (with_counts (reported report replayed)) → same ≡ false → IsVerdict case verdicts.Text
        other_text lawful_made apart = other_by case m.known report replayed m.lawful m.headed m.are below lawful_made (iff_false same_is apart)

        -- it is the same
        module _ (yes : same ≡ true) (same_file : Bool) (same_file_is : IsTrue same_file ↔ (case.tx ≡ savefile case.capture (sent_from 0 trips))) where
          -- the files differ
          pub other_file : same_file ≡ false → IsVerdict case verdicts.Tx
          other_file apart = tx_by case m.known report replayed m.lawful m.headed m.are below (same_is.0 yes)
              (λ e. iff_false same_file_is apart (e ∙ ap (λ ts. savefile case.capture (sent_from 0 ts)) (sym m.trips_are)))

          -- they are the same
          pub all_same : same_file ≡ true → IsVerdict case verdicts.Yes
          all_same yes_file = yes_by case m.known report replayed m.lawful m.headed m.are below (same_is.0 yes)
              (same_file_is.0 yes_file ∙ ap (λ ts. savefile case.capture (sent_from 0 ts)) m.trips_are)

-- the answer is yes exactly where it should be
pub yes_where : {E : Type 0} (case : Case) (result : Result Verdict E) → IfOk result (IsVerdict case) → IfOk result (λ verdict. (verdict ≡ verdicts.Yes) ↔ IsAccepted case)
yes_where case (Err memory) h = tt
yes_where case (Ok verdict) h = yes_exactly case verdict h
