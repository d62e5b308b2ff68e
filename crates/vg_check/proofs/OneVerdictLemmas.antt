-- For `verdicts_exclude_one_another`: each point fails at one place, and where an earlier one fails.
use Rattle.std.proofs.Common.{◌≡◌, ℕ, zero, suc, ◌<◌, List, [], ◌∷◌, take, refl, sym, ap, subst, ◌∙◌, inl, inr, arith}
use Rattle.std.specs.Prelude.{Some, Result, Ok, Err, slice_get}
use Rattle.std.specs.List.{AllByRecursion}
use Rattle.std.proofs.lemmas.Bool.{cases_order}
use Rattle.std.proofs.lemmas.Option.{none-some, same_Some}
use Rattle.vg_model.specs.Journey.{Journey, journeys, sent}
use Rattle.vg_model.proofs.LegEnds.{all_at}
use Rattle.vg_capture.specs.Savefile.{savefile}
use Rattle.vg_report.specs.declared.errors.ReportCause.{ReportCause}
use Rattle.vg_report.specs.declared.errors.ReportError.{ReportError}
use Rattle.vg_report.specs.declared.reports.Report.{Report}
use Rattle.vg_report.specs.Reading as reading
use Rattle.vg_report.specs.Text.{text}
use Rattle.vg_report.proofs.ReadTextLemmas.{reads_lawful}
use Rattle.vg_replay.specs.Tasks.{Task, IsTaken, IsFault, IsFirstFault, IsInTime, journey_under}
use Rattle.vg_replay.proofs.ReplayLemmas.{no_fault}
use Rattle.vg_check.specs.declared.verdicts.Verdict.{Verdict}
use Rattle.vg_check.specs.declared.verdicts.Verdict.TheVariants as verdicts
use Rattle.vg_check.specs.Output.{choices_of, frames_of}
use Rattle.vg_check.specs.Points.{IsHead, IsPushLawful, ArePushesLawful, IsFirstRefusal}
use Rattle.vg_check.specs.Verdicts.{Case, task_by, report_by, IsHeaded, AreTravelled, ArePushed, IsVerdict}

-- numbers of which neither is below the other are the same
same_number : (n m : ℕ) → (n < m → ⊥) → (m < n → ⊥) → n ≡ m
same_number n m f g = elim (cases_order n m) [
  | inl same ↦ same
  | inr apart ↦ absurd (elim apart [ inl below ↦ f below | inr above ↦ g above ])
]

-- what is among the first is there
get_first : {X : Type 0} (xs : List X) (n m : ℕ) (x : X) → n < m → slice_get xs n ≡ Some x → slice_get (take m xs) n ≡ Some x
get_first [] n m x h e = absurd (none-some x e)
get_first (y ∷ xs) n zero x h e = absurd (omega (arith, h))
get_first (y ∷ xs) zero (suc m) x h e = e
get_first (y ∷ xs) (suc n) (suc m) x h e = get_first xs n m x (omega (arith, h)) e

-- a packet at fault isn't taken
not_taken : (task : Task) (n : ℕ) → IsTaken task n → IsFault task n → ⊥
not_taken task n taken is =
    let bytes : taken.bytes ≡ is.bytes = same_Some taken.bytes is.bytes (sym taken.packet.is_bytes ∙ is.packet.is_bytes) in
    let choice : taken.choice ≡ is.choice = same_Some taken.choice is.choice (sym taken.packet.is_choice ∙ is.packet.is_choice) in
    is.fault taken.j ((λ i. journey_under task n (sym bytes i) (sym choice i)) ∙ taken.is_journey) (subst (IsInTime task n) choice taken.in_time)

module _ (case : Case) where
  -- a text is read as one report, or refused once
  one_report : (one other : Report) → reading.report_of case.report ≡ Ok one → reading.report_of case.report ≡ Ok other → one ≡ other
  one_report one other e f =
      let same : (a : Result Report ReportError) → a ≡ Ok one → a ≡ Ok other → one ≡ other = λ a p q. cc in
      same (reading.report_of case.report) e f

  not_both : (r : Report) (error : ReportError) → reading.report_of case.report ≡ Ok r → reading.report_of case.report ≡ Err error → ⊥
  not_both r error e f =
      let clash : (a : Result Report ReportError) → a ≡ Ok r → a ≡ Err error → ⊥ = λ a p q. cc in
      clash (reading.report_of case.report) e f

  same_refusal : (line number : ℕ) (cause other : ReportCause) → reading.report_of case.report ≡ Err (record { line = line; cause = cause })
      → reading.report_of case.report ≡ Err (record { line = number; cause = other }) → verdicts.Report line cause ≡ verdicts.Report number other
  same_refusal line number cause other e f =
      let same : (a : Result Report ReportError) (one two : ReportError) → a ≡ Err one → a ≡ Err two → one ≡ two = λ a one two p q. cc in
      let error = same (reading.report_of case.report) (record { line = line; cause = cause }) (record { line = number; cause = other }) e f in
      λ i. verdicts.Report (error i).line (error i).cause

  module _ (r s : Report) where
    headed_same : IsHeaded case r → IsHeaded case s → r ≡ s
    headed_same h k = one_report r s h.is_report k.is_report

    head_apart : reading.report_of case.report ≡ Ok r → (IsHead case.plan case.capture r → ⊥) → IsHeaded case s → ⊥
    head_apart e f h = f (subst (IsHead case.plan case.capture) (one_report s r h.is_report e) h.head)

    choices_apart : (n : ℕ) (js : List Journey) → IsHeaded case r → IsFirstFault (task_by case r) n → AreTravelled case s js → ⊥
    choices_apart n js h first t = no_fault (task_by case s) js n t.taken (subst (λ (q : Report). IsFault (task_by case q) n) (headed_same h t.headed) first.fault)

    choices_order : (n m : ℕ) → IsHeaded case r → IsHeaded case s → IsFirstFault (task_by case r) n → IsFirstFault (task_by case s) m → n < m → ⊥
    choices_order n m h k first later below =
        not_taken (task_by case s) n (later.before n below) (subst (λ (q : Report). IsFault (task_by case q) n) (headed_same h k) first.fault)

    module _ (js ks : List Journey) where
      travelled_same : AreTravelled case r js → AreTravelled case s ks → js ≡ ks
      travelled_same a b =
          same_Some js ks (sym (subst (λ (q : Report). journeys case.visit case.plan.graphs q.workers (frames_of case.capture) (choices_of q) ≡ Some js) (headed_same a.headed b.headed) a.taken.are_journeys)
          ∙ b.taken.are_journeys)

      queue_apart : (n : ℕ) → AreTravelled case r js → IsFirstRefusal case.queue js n → ArePushed case s ks → ⊥
      queue_apart n a first b =
          let all : ArePushesLawful case.queue js = subst (ArePushesLawful case.queue) (sym (travelled_same a b.travelled)) b.pushes in
          first.unlawful (all_at (IsPushLawful case.queue js) js n first.j first.is all)

      queue_order : (n m : ℕ) → AreTravelled case r js → AreTravelled case s ks → IsFirstRefusal case.queue js n → IsFirstRefusal case.queue ks m → n < m → ⊥
      queue_order n m a b first later below =
          let before : AllByRecursion (IsPushLawful case.queue js) (take m js) =
          subst (λ ls. AllByRecursion (IsPushLawful case.queue ls) (take m ls)) (sym (travelled_same a b)) later.before in
          first.unlawful (all_at (IsPushLawful case.queue js) (take m js) n first.j (get_first js n m first.j below first.is) before)

      text_apart : ArePushed case r js → (case.report ≡ text (report_by case r js) → ⊥) → ArePushed case s ks → s ≡ report_by case s ks → ⊥
      text_apart a other b same =
          let is_text : case.report ≡ text s = sym (reads_lawful case.report s b.travelled.headed.is_report).1 in
          let one : r ≡ s = headed_same a.travelled.headed b.travelled.headed in
          let js_are : js ≡ ks = travelled_same a.travelled b.travelled in
          other (is_text ∙ ap text same ∙ (λ i. text (report_by case (sym one i) (sym js_are i))))

      tx_apart : ArePushed case r js → (case.tx ≡ savefile case.capture (sent js) → ⊥) → ArePushed case s ks → case.tx ≡ savefile case.capture (sent ks) → ⊥
      tx_apart a other b same = other (same ∙ ap (λ ls. savefile case.capture (sent ls)) (sym (travelled_same a.travelled b.travelled)))

  -- there is one verdict
  pub one_verdict : (one other : Verdict) → IsVerdict case one → IsVerdict case other → one ≡ other
  one_verdict (verdicts.Report line cause) (verdicts.Report number other) a b = same_refusal line number cause other a.0 b.0
  one_verdict (verdicts.Report line cause) verdicts.Head a b = absurd (not_both b.0 _ b.1 a.0)
  one_verdict (verdicts.Report line cause) (verdicts.Choices m) a b = absurd (not_both b.0 _ b.1.is_report a.0)
  one_verdict (verdicts.Report line cause) (verdicts.Queue m) a b = absurd (not_both b.0 _ b.2.headed.is_report a.0)
  one_verdict (verdicts.Report line cause) verdicts.Text a b = absurd (not_both b.0 _ b.2.travelled.headed.is_report a.0)
  one_verdict (verdicts.Report line cause) verdicts.Tx a b = absurd (not_both b.0 _ b.2.travelled.headed.is_report a.0)
  one_verdict (verdicts.Report line cause) verdicts.Yes a b = absurd (not_both b.0 _ b.2.travelled.headed.is_report a.0)
  one_verdict verdicts.Head (verdicts.Report number other) a b = absurd (not_both a.0 _ a.1 b.0)
  one_verdict verdicts.Head verdicts.Head a b = refl
  one_verdict verdicts.Head (verdicts.Choices m) a b = absurd (head_apart a.0 b.0 a.1 a.2 b.1)
  one_verdict verdicts.Head (verdicts.Queue m) a b = absurd (head_apart a.0 b.0 a.1 a.2 b.2.headed)
  one_verdict verdicts.Head verdicts.Text a b = absurd (head_apart a.0 b.0 a.1 a.2 b.2.travelled.headed)
  one_verdict verdicts.Head verdicts.Tx a b = absurd (head_apart a.0 b.0 a.1 a.2 b.2.travelled.headed)
  one_verdict verdicts.Head verdicts.Yes a b = absurd (head_apart a.0 b.0 a.1 a.2 b.2.travelled.headed)
  one_verdict (verdicts.Choices n) (verdicts.Report number other) a b = absurd (not_both a.0 _ a.1.is_report b.0)
  one_verdict (verdicts.Choices n) verdicts.Head a b = absurd (head_apart b.0 a.0 b.1 b.2 a.1)
  one_verdict (verdicts.Choices n) (verdicts.Choices m) a b = ap verdicts.Choices (same_number n m (choices_order a.0 b.0 n m a.1 b.1 a.2 b.2) (choices_order b.0 a.0 m n b.1 a.1 b.2 a.2))
  one_verdict (verdicts.Choices n) (verdicts.Queue m) a b = absurd (choices_apart a.0 b.0 n b.1 a.1 a.2 b.2)
  one_verdict (verdicts.Choices n) verdicts.Text a b = absurd (choices_apart a.0 b.0 n b.1 a.1 a.2 b.2.travelled)
  one_verdict (verdicts.Choices n) verdicts.Tx a b = absurd (choices_apart a.0 b.0 n b.1 a.1 a.2 b.2.travelled)
  one_verdict (verdicts.Choices n) verdicts.Yes a b = absurd (choices_apart a.0 b.0 n b.1 a.1 a.2 b.2.travelled)
  one_verdict (verdicts.Queue n) (verdicts.Report number other) a b = absurd (not_both a.0 _ a.2.headed.is_report b.0)
  one_verdict (verdicts.Queue n) verdicts.Head a b = absurd (head_apart b.0 a.0 b.1 b.2 a.2.headed)
  one_verdict (verdicts.Queue n) (verdicts.Choices m) a b = absurd (choices_apart b.0 a.0 m a.1 b.1 b.2 a.2)
  one_verdict (verdicts.Queue n) (verdicts.Queue m) a b = ap verdicts.Queue (same_number n m (queue_order a.0 b.0 a.1 b.1 n m a.2 b.2 a.3 b.3) (queue_order b.0 a.0 b.1 a.1 m n b.2 a.2 b.3 a.3))
  one_verdict (verdicts.Queue n) verdicts.Text a b = absurd (queue_apart a.0 b.0 a.1 b.1 n a.2 a.3 b.2)
  one_verdict (verdicts.Queue n) verdicts.Tx a b = absurd (queue_apart a.0 b.0 a.1 b.1 n a.2 a.3 b.2)
  one_verdict (verdicts.Queue n) verdicts.Yes a b = absurd (queue_apart a.0 b.0 a.1 b.1 n a.2 a.3 b.2)
  one_verdict verdicts.Text (verdicts.Report number other) a b = absurd (not_both a.0 _ a.2.travelled.headed.is_report b.0)
  one_verdict verdicts.Text verdicts.Head a b = absurd (head_apart b.0 a.0 b.1 b.2 a.2.travelled.headed)
  one_verdict verdicts.Text (verdicts.Choices m) a b = absurd (choices_apart b.0 a.0 m a.1 b.1 b.2 a.2.travelled)
  one_verdict verdicts.Text (verdicts.Queue m) a b = absurd (queue_apart b.0 a.0 b.1 a.1 m b.2 b.3 a.2)
  one_verdict verdicts.Text verdicts.Text a b = refl
  one_verdict verdicts.Text verdicts.Tx a b = absurd (text_apart a.0 b.0 a.1 b.1 a.2 a.3 b.2 b.3)
  one_verdict verdicts.Text verdicts.Yes a b = absurd (text_apart a.0 b.0 a.1 b.1 a.2 a.3 b.2 b.3)
  one_verdict verdicts.Tx (verdicts.Report number other) a b = absurd (not_both a.0 _ a.2.travelled.headed.is_report b.0)
  one_verdict verdicts.Tx verdicts.Head a b = absurd (head_apart b.0 a.0 b.1 b.2 a.2.travelled.headed)
  one_verdict verdicts.Tx (verdicts.Choices m) a b = absurd (choices_apart b.0 a.0 m a.1 b.1 b.2 a.2.travelled)
  one_verdict verdicts.Tx (verdicts.Queue m) a b = absurd (queue_apart b.0 a.0 b.1 a.1 m b.2 b.3 a.2)
  one_verdict verdicts.Tx verdicts.Text a b = absurd (text_apart b.0 a.0 b.1 a.1 b.2 b.3 a.2 a.3)
  one_verdict verdicts.Tx verdicts.Tx a b = refl
  one_verdict verdicts.Tx verdicts.Yes a b = absurd (tx_apart a.0 b.0 a.1 b.1 a.2 a.4 b.2 b.4)
  one_verdict verdicts.Yes (verdicts.Report number other) a b = absurd (not_both a.0 _ a.2.travelled.headed.is_report b.0)
  one_verdict verdicts.Yes verdicts.Head a b = absurd (head_apart b.0 a.0 b.1 b.2 a.2.travelled.headed)
  one_verdict verdicts.Yes (verdicts.Choices m) a b = absurd (choices_apart b.0 a.0 m a.1 b.1 b.2 a.2.travelled)
  one_verdict verdicts.Yes (verdicts.Queue m) a b = absurd (queue_apart b.0 a.0 b.1 a.1 m b.2 b.3 a.2)
  one_verdict verdicts.Yes verdicts.Text a b = absurd (text_apart b.0 a.0 b.1 a.1 b.2 b.3 a.2 a.3)
  one_verdict verdicts.Yes verdicts.Tx a b = absurd (tx_apart b.0 a.0 b.1 a.1 b.2 b.4 a.2 a.4)
  one_verdict verdicts.Yes verdicts.Yes a b = refl
