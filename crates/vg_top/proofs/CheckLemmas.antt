-- For `check_due` and `vgd_run`: from what a check found to what is due, and what is to be expected.
use Rattle.std.proofs.Common.{◌≡◌, ◌≢◌, ℕ, ◌+◌, List, [], ◌∷◌, ◌++◌, refl, sym, ap, subst, ◌∙◌, inl, inr, arith}
use Rattle.std.specs.Prelude.{Option, Some, None, IfSome, Result, Ok, Err, IfOk, codes}
use Rattle.std.proofs.lemmas.Option.{same_Some}
use Rattle.vg_model.specs.declared.Memory.{Memory}
use Rattle.vg_model.specs.Graph.{Graph}
use Rattle.vg_files.specs.Kinds.{vgd_visit}
use Rattle.vg_outside.specs.Files.{FailedLoad}
use Rattle.vg_capture.specs.declared.captures.Capture.{Capture}
use Rattle.vg_capture.specs.declared.errors.CaptureError.{CaptureError}
use Rattle.vg_capture.specs.Savefile.{capture_of, largest_file}
use Rattle.vg_script.specs.declared.errors.ScriptError.{ScriptError}
use Rattle.vg_script.specs.declared.scripts.Script.{Script}
use Rattle.vg_script.specs.Generations.{generations_of}
use Rattle.vg_script.specs.Reading.{script_of, largest_script}
use Rattle.vg_plan.specs.Plan.{Planned}
use Rattle.vg_check.specs.declared.verdicts.Verdict.{Verdict}
use Rattle.vg_check.specs.declared.verdicts.Verdict.TheVariants as verdicts
use Rattle.vg_check.specs.Verdicts.{Case, case_of, IsAccepted, IsVerdict}
use Rattle.vg_words.specs.Command.{Check}
use Rattle.vg_differs.specs.declared.finding.Finding.{Finding}
use Rattle.vg_differs.specs.declared.judging.Judged.{Judged}
use Rattle.vg_differs.specs.Findings.{IsFound}
use Rattle.vg_differs.specs.Judged.{IsFoundIn}
use Rattle.vg_files.specs.declared.refusals.Refusal.{Refusal}
use Rattle.vg_files.specs.declared.refusals.Refusal.TheVariants as refusals
use Rattle.vg_top.specs.declared.dues.Due.{Due}
use Rattle.vg_top.specs.Command.{check_asked}
use Rattle.vg_files.specs.Plan.{graphs_of, MakesPlan}
use Rattle.vg_files.specs.Checks.{CheckBytes, AreFirstChecked, AreInputs, IsCheckedNext, IsJudged, case_in, inputs_in, largest_output}
use Rattle.vg_top.specs.Run.{Call, AreChecked, IsCheckDone, IsCheckRefused}
use Rattle.vg_files.specs.Refusals.{status_of, line_of}
use Rattle.vg_files.specs.Stops.{IsLoadOf, IsRefusedFor}
use Rattle.vg_top.specs.Dues.{IsDueOf}
use Rattle.vg_top.specs.Found.{IsFoundOf}
use Rattle.vg_top.specs.Expected.{IsCheckable, IsStatusBy, by_result}
use Rattle.vg_top.proofs.FileLemmas.{same_file, same_first, no_load, no_first_load}
use Rattle.vg_top.proofs.RunLemmas.{whole_file, same_capture, same_script, graphs_by_script as graphs_alike}
use Rattle.vg_files.proofs.ScriptLemmas.{graphs_by_script, graphs_made}

-- ---- from what was found to what is due

-- a check's capture and script, whole, and what they say
record IsWhole (call : Call) (check : Check) (bytes : CheckBytes) : Type 0 where
  capture : List ℕ
  script : List ℕ
  loaded : AreChecked call check (record { capture = capture; script = script; tx = bytes.tx; report = bytes.report })
  capture_is : capture_of bytes.capture ≡ capture_of capture
  script_is : script_of bytes.script ≡ script_of script

whole : (call : Call) (check : Check) (bytes : CheckBytes) → check_asked call.words ≡ Some check → AreFirstChecked call.files check bytes → IsWhole call check bytes
whole call check bytes is first =
    let c = whole_file call.files check.capture (largest_file + 1) bytes.capture first.capture in
    let s = whole_file call.files check.script (largest_script + 1) bytes.script first.script in
    record {
      capture = c.0;
      script = s.0;
      loaded = record { is_command = is; files = record { capture = c.1; script = s.1; tx = first.tx; report = first.report } };
      capture_is = same_capture c.0 bytes.capture c.2;
      script_is = same_script s.0 bytes.script s.2;
    }

-- a file couldn't be loaded
pub refused_load : (call : Call) (check : Check) (refusal : Refusal) → check_asked call.words ≡ Some check
    → IsLoadOf (λ failed. IsCheckedNext call.files check failed × FailedLoad call.files failed (call.faults failed) (call.faults_after failed)) refusal
    → call.files_after ≡ call.files → IsCheckRefused call refusal
refused_load call check refusals.Usage is h same = absurd h
refused_load call check (refusals.Load name) is h same = (record { check = check; is_command = is; named = h.0; fault = h.1 }, same)
refused_load call check (refusals.Capture fault) is h same = absurd h
refused_load call check (refusals.Script error) is h same = absurd h
refused_load call check (refusals.Turns place) is h same = absurd h
refused_load call check (refusals.Save name) is h same = absurd h
refused_load call check (refusals.Verdict verdict) is h same = absurd h

-- a result is none of both
ok_or_err : {X E : Type 0} (r : Result X E) (x : X) (error : E) → r ≡ Ok x → r ≡ Err error → ⊥
ok_or_err r x error is fault = let wrong : 0 ≡ 1 = ap (λ r. by_result r 1 0) (sym is ∙ fault) in absurd (omega (arith, wrong))

-- the capture or the script is refused; turns are not, where there are none
pub refused_read : (call : Call) (check : Check) (bytes : CheckBytes) (refusal : Refusal) → check_asked call.words ≡ Some check
    → AreFirstChecked call.files check bytes → IsRefusedFor 1 (inputs_in bytes) refusal → call.files_after ≡ call.files → IsCheckRefused call refusal
refused_read call check bytes refusals.Usage is first h same = absurd h
refused_read call check bytes (refusals.Load name) is first h same = absurd h
refused_read call check bytes (refusals.Capture fault) is first h same =
    let w = whole call check bytes is first in
    (record { check = check; bytes = record { capture = w.capture; script = w.script; tx = bytes.tx; report = bytes.report }; loaded = w.loaded; is_fault = sym w.capture_is ∙ h.0; no_memory = h.1 }, same)
refused_read call check bytes (refusals.Script error) is first h same =
    let w = whole call check bytes is first in (
      record {
        check = check;
        bytes = record { capture = w.capture; script = w.script; tx = bytes.tx; report = bytes.report };
        loaded = w.loaded;
        capture = h.0.0;
        is_capture = sym w.capture_is ∙ h.0.1;
        is_fault = sym (graphs_alike bytes.script w.script w.script_is) ∙ h.1;
      },
      same,
    )
refused_read call check bytes (refusals.Turns place) is first h same = absurd (ok_or_err _ _ place refl h.2)
refused_read call check bytes (refusals.Save name) is first h same = absurd h
refused_read call check bytes (refusals.Verdict verdict) is first h same = absurd h

-- what the whole files say
whole_inputs : (call : Call) (check : Check) (bytes : CheckBytes) (capture : Capture) (plan : Planned) (w : IsWhole call check bytes) → AreInputs bytes capture plan
    → AreInputs (record { capture = w.capture; script = w.script; tx = bytes.tx; report = bytes.report }) capture plan
whole_inputs call check bytes capture plan w h = record {
  is_capture = sym w.capture_is ∙ h.is_capture;
  makes = record { is_script = sym w.script_is ∙ h.makes.is_script; are_graphs = h.makes.are_graphs };
}

module _ (call : Call) (check : Check) (bytes : CheckBytes) (is : check_asked call.words ≡ Some check) (first : AreFirstChecked call.files check bytes) (same : call.files_after ≡ call.files) where
  -- the verdict is yes
  yes_due : (r : Result Due Memory) → IsJudged check.queue bytes verdicts.Yes
      → IfOk r (λ due. (due.status ≡ 0) × (due.text ≡ codes "yes" ++ 10 ∷ []) × (due.ran ≡ None)) → IfOk r (IsDueOf call)
  yes_due (Err e) j d = tt
  yes_due (Ok due) j d =
      let w = whole call check bytes is first in
      inl (
        d.0,
        inr (
          d.2,
          inr (record {
            check = check;
            bytes = record { capture = w.capture; script = w.script; tx = bytes.tx; report = bytes.report };
            loaded = w.loaded;
            capture = j.capture;
            plan = j.plan;
            inputs = whole_inputs call check bytes j.capture j.plan w j.inputs;
            accepted = j.exact.0 refl;
            printed = d.1;
            same = same;
          }),
        ),
      )

  -- it is another
  no_due : (verdict : Verdict) (r : Result Due Memory) → IsJudged check.queue bytes verdict → verdict ≢ verdicts.Yes
      → IfOk r (λ due. (due.status ≡ 9) × (due.text ≡ line_of (refusals.Verdict verdict)) × (due.ran ≡ None)) → IfOk r (IsDueOf call)
  no_due verdict (Err e) j differs d = tt
  no_due verdict (Ok due) j differs d =
      let w = whole call check bytes is first in
      inr (
        d.2,
        (
          refusals.Verdict verdict,
          d.0,
          d.1,
          inr (
            record {
              check = check;
              bytes = record { capture = w.capture; script = w.script; tx = bytes.tx; report = bytes.report };
              loaded = w.loaded;
              capture = j.capture;
              plan = j.plan;
              inputs = whole_inputs call check bytes j.capture j.plan w j.inputs;
              first = j.first;
              denied = λ accepted. differs (j.exact.1 accepted);
            },
            same,
          ),
        ),
      )

  -- what is due of a verdict
  pub judged_due : (verdict : Verdict) (r : Result Due Memory) → IsJudged check.queue bytes verdict
      → (verdict ≡ verdicts.Yes → IfOk r (λ due. (due.status ≡ 0) × (due.text ≡ codes "yes" ++ 10 ∷ []) × (due.ran ≡ None)))
      → (verdict ≢ verdicts.Yes → IfOk r (λ due. (due.status ≡ 9) × (due.text ≡ line_of (refusals.Verdict verdict)) × (due.ran ≡ None)))
      → IfOk r (IsDueOf call)
  judged_due verdicts.Yes r j as_yes as_no = yes_due r j (as_yes refl)
  judged_due (verdicts.Report line cause) r j as_yes as_no = no_due (verdicts.Report line cause) r j (λ e. cc) (as_no (λ e. cc))
  judged_due verdicts.Head r j as_yes as_no = no_due verdicts.Head r j (λ e. cc) (as_no (λ e. cc))
  judged_due (verdicts.Choices number) r j as_yes as_no = no_due (verdicts.Choices number) r j (λ e. cc) (as_no (λ e. cc))
  judged_due (verdicts.Queue number) r j as_yes as_no = no_due (verdicts.Queue number) r j (λ e. cc) (as_no (λ e. cc))
  judged_due verdicts.Text r j as_yes as_no = no_due verdicts.Text r j (λ e. cc) (as_no (λ e. cc))
  judged_due verdicts.Tx r j as_yes as_no = no_due verdicts.Tx r j (λ e. cc) (as_no (λ e. cc))

  -- what is found by it
  pub judged_found : (judged : Judged) (r : Result Due Memory) → IsFoundIn check.queue bytes judged
      → IfOk r (λ due. IfSome due.found (λ finding. (due.status ≡ 9) × (judged.found ≡ Ok (Some finding)))) → IfOk r (λ due. IfSome due.found (IsFoundOf call due.status))
  judged_found judged (Err e) f d = tt
  judged_found judged (Ok due) f d = by due.found d
    where
      by : (o : Option Finding) → IfSome o (λ finding. (due.status ≡ 9) × (judged.found ≡ Ok (Some finding))) → IfSome o (IsFoundOf call due.status)
      by None d = tt
      by (Some finding) d =
          let w = whole call check bytes is first in
          let case : Case = case_in check.queue bytes f.capture f.plan in
          let found : IsFound case judged.verdict (Some finding) = subst (λ r. IfOk r (IsFound case judged.verdict)) d.1 f.found in
          record {
            denied = d.0;
            check = check;
            bytes = record { capture = w.capture; script = w.script; tx = bytes.tx; report = bytes.report };
            loaded = w.loaded;
            capture = f.capture;
            plan = f.plan;
            inputs = whole_inputs call check bytes f.capture f.plan w f.inputs;
            first = subst (IsVerdict case) found.0 f.first;
            is = found.1;
          }

-- what is found, and a fact beside it
pub found_and : (A : Type 0) (B : Finding → Type 0) (o : Option Finding) → A → IfSome o B → IfSome o (λ finding. A × B finding)
found_and A B None a b = tt
found_and A B (Some finding) a b = (a, b)

-- ---- what is to be expected

-- a check is refused only where the words ask for one
pub check_refused : (call : Call) (refusal : Refusal) → IsCheckRefused call refusal → (check : Check) × (check_asked call.words ≡ Some check)
check_refused call refusals.Usage r = absurd r
check_refused call (refusals.Load name) r = (r.0.check, r.0.is_command)
check_refused call (refusals.Capture fault) r = (r.0.check, r.0.loaded.is_command)
check_refused call (refusals.Script error) r = (r.0.check, r.0.loaded.is_command)
check_refused call (refusals.Turns place) r = absurd r
check_refused call (refusals.Save name) r = absurd r
check_refused call (refusals.Verdict verdict) r = (r.0.check, r.0.loaded.is_command)

same_ok : {X E : Type 0} (x other : X) → ◌≡◌ {A = Result X E} (Ok x) (Ok other) → x ≡ other
same_ok {X = X} {E = E} x other e = ap (λ (r : Result X E). elim r as (λ _. X) [ Ok y ↦ y | Err error ↦ x ]) e

abbrev planned : Script → List Graph → Planned
planned script graphs = record { script = script; graphs = graphs }

same_plan : (one other : Planned) → one.script ≡ other.script → one.graphs ≡ other.graphs → one ≡ other
same_plan one other s g = ap (λ x. planned x one.graphs) s ∙ ap (λ x. planned other.script x) g

-- a text makes one plan
one_plan : (text : List ℕ) (one other : Planned) → MakesPlan text one → MakesPlan text other → one ≡ other
one_plan text one other f g =
    let script : one.script ≡ other.script = same_ok one.script other.script (sym f.is_script ∙ g.is_script) in
    same_plan one other script (same_ok one.graphs other.graphs (sym f.are_graphs ∙ ap generations_of script ∙ g.are_graphs))

made_graphs : (text : List ℕ) (plan : Planned) → MakesPlan text plan → graphs_of text ≡ Ok plan.graphs
made_graphs text plan f = graphs_by_script text plan.script f.is_script ∙ graphs_made plan.script plan.graphs f.are_graphs

-- what was checked is what can be checked
record IsSame (check other : Check) (bytes others : CheckBytes) : Type 0 where
  check_is : other ≡ check
  capture : others.capture ≡ bytes.capture
  script : others.script ≡ bytes.script
  tx : others.tx ≡ bytes.tx
  report : others.report ≡ bytes.report

same_checked : (call : Call) (check other : Check) (bytes others : CheckBytes) → IsCheckable call check bytes → AreChecked call other others → IsSame check other bytes others
same_checked call check other bytes others l a =
    let same : other ≡ check = same_Some _ _ (sym a.is_command ∙ l.loaded.is_command) in
    let moved : AreChecked call check others = subst (λ (c : Check). AreChecked call c others) same a in
    record {
      check_is = same;
      capture = same_file call.files check.capture bytes.capture others.capture l.told l.loaded.files.capture moved.files.capture;
      script = same_file call.files check.script bytes.script others.script l.told l.loaded.files.script moved.files.script;
      tx = same_first call.files check.tx (largest_output + 1) bytes.tx others.tx l.told l.loaded.files.tx moved.files.tx;
      report = same_first call.files check.report (largest_output + 1) bytes.report others.report l.told l.loaded.files.report moved.files.report;
    }

-- and what is accepted of the one is of the other
module _ (check other : Check) (bytes others : CheckBytes) (same : IsSame check other bytes others) (capture other_capture : Capture) (plan other_plan : Planned)
    (inputs : AreInputs bytes capture plan) (other_inputs : AreInputs others other_capture other_plan) where
  same_captures : other_capture ≡ capture
  same_captures = same_ok other_capture capture (sym other_inputs.is_capture ∙ ap capture_of same.capture ∙ inputs.is_capture)

  same_plans : other_plan ≡ plan
  same_plans = one_plan bytes.script other_plan plan (subst (λ text. MakesPlan text other_plan) same.script other_inputs.makes) inputs.makes

  same_case : case_in other.queue others other_capture other_plan ≡ case_in check.queue bytes capture plan
  same_case =
      ap (λ (c : Check). case_of vgd_visit other_plan other_capture c.queue others.tx others.report) same.check_is
      ∙ ap (λ (c : Capture). case_of vgd_visit other_plan c check.queue others.tx others.report) same_captures
      ∙ ap (λ (p : Planned). case_of vgd_visit p capture check.queue others.tx others.report) same_plans
      ∙ ap (λ (tx : List ℕ). case_of vgd_visit plan capture check.queue tx others.report) same.tx
      ∙ ap (λ (report : List ℕ). case_of vgd_visit plan capture check.queue bytes.tx report) same.report

  accepted_there : IsAccepted (case_in other.queue others other_capture other_plan) → IsAccepted (case_in check.queue bytes capture plan)
  accepted_there a = subst IsAccepted same_case a

  accepted_here : IsAccepted (case_in check.queue bytes capture plan) → IsAccepted (case_in other.queue others other_capture other_plan)
  accepted_here a = subst IsAccepted (sym same_case) a

module _ (call : Call) (check : Check) (bytes : CheckBytes) (l : IsCheckable call check bytes) where
  -- where a check is done, 0 is to be expected
  pub yes_expected : (line : List ℕ) (status : ℕ) → IsCheckDone call line → IsStatusBy check.queue bytes status → status ≡ 0
  yes_expected line status d (inl (four, (fault, refused))) =
      let same = same_checked call check d.check bytes d.bytes l d.loaded in
      absurd (ok_or_err (capture_of bytes.capture) d.capture fault (ap capture_of (sym same.capture) ∙ d.inputs.is_capture) refused)
  yes_expected line status d (inr (inl (five, accepted, (error, refused)))) =
      let same = same_checked call check d.check bytes d.bytes l d.loaded in
      absurd (ok_or_err (graphs_of bytes.script) d.plan.graphs error (ap graphs_of (sym same.script) ∙ made_graphs d.bytes.script d.plan d.inputs.makes) refused)
  yes_expected line status d (inr (inr (capture, plan, inputs, inl (none, accepted)))) = none
  yes_expected line status d (inr (inr (capture, plan, inputs, inr (nine, denied)))) =
      let same = same_checked call check d.check bytes d.bytes l d.loaded in
      absurd (denied (accepted_there check d.check bytes d.bytes same capture d.capture plan d.plan inputs d.inputs d.accepted))

  -- a load doesn't fail of files that can be loaded
  no_loads : (name : List ℕ) → IsCheckedNext call.files check name → FailedLoad call.files name (call.faults name) (call.faults_after name) → ⊥
  no_loads name (inl e) h =
      no_load call check.capture bytes.capture l.told l.loaded.files.capture l.no_capture_fault (subst (λ n. FailedLoad call.files n (call.faults n) (call.faults_after n)) e h)
  no_loads name (inr (inl e)) h =
      no_load call check.script bytes.script l.told l.loaded.files.script l.no_script_fault (subst (λ n. FailedLoad call.files n (call.faults n) (call.faults_after n)) e.0 h)
  no_loads name (inr (inr (inl e))) h =
      no_first_load call check.tx (largest_output + 1) bytes.tx l.told l.loaded.files.tx l.no_tx_fault (subst (λ n. FailedLoad call.files n (call.faults n) (call.faults_after n)) e.0 h)
  no_loads name (inr (inr (inr e))) h =
      no_first_load call check.report (largest_output + 1) bytes.report l.told l.loaded.files.report l.no_report_fault
      (subst (λ n. FailedLoad call.files n (call.faults n) (call.faults_after n)) e.0 h)

  -- the capture is refused
  capture_expected : (status : ℕ) (fault : CaptureError) → capture_of bytes.capture ≡ Err fault → IsStatusBy check.queue bytes status → 4 ≡ status
  capture_expected status fault refused (inl (four, other)) = sym four
  capture_expected status fault refused (inr (inl (five, (capture, is), other))) = absurd (ok_or_err (capture_of bytes.capture) capture fault is refused)
  capture_expected status fault refused (inr (inr (capture, plan, inputs, v))) = absurd (ok_or_err (capture_of bytes.capture) capture fault inputs.is_capture refused)

  -- the script is
  script_expected : (status : ℕ) (capture : Capture) (error : ScriptError) → capture_of bytes.capture ≡ Ok capture → graphs_of bytes.script ≡ Err error
      → IsStatusBy check.queue bytes status → 5 ≡ status
  script_expected status capture error is refused (inl (four, (fault, faulty))) = absurd (ok_or_err (capture_of bytes.capture) capture fault is faulty)
  script_expected status capture error is refused (inr (inl (five, accepted, other))) = sym five
  script_expected status capture error is refused (inr (inr (other, plan, inputs, v))) =
      absurd (ok_or_err (graphs_of bytes.script) plan.graphs error (made_graphs bytes.script plan inputs.makes) refused)

  -- both are accepted, and the savefile and the report are not
  denied_expected : (status : ℕ) (capture : Capture) (plan : Planned) → AreInputs bytes capture plan
      → ((other : Capture) (other_plan : Planned) → AreInputs bytes other other_plan → ¬ IsAccepted (case_in check.queue bytes other other_plan))
      → IsStatusBy check.queue bytes status → 9 ≡ status
  denied_expected status capture plan inputs denied (inl (four, (fault, faulty))) = absurd (ok_or_err (capture_of bytes.capture) capture fault inputs.is_capture faulty)
  denied_expected status capture plan inputs denied (inr (inl (five, other, (error, faulty)))) =
      absurd (ok_or_err (graphs_of bytes.script) plan.graphs error (made_graphs bytes.script plan inputs.makes) faulty)
  denied_expected status capture plan inputs denied (inr (inr (other, other_plan, others, inl (none, accepted)))) = absurd (denied other other_plan others accepted)
  denied_expected status capture plan inputs denied (inr (inr (other, other_plan, others, inr (nine, other_denied)))) = sym nine

  -- where files can be loaded, a refusal has the status to be expected
  pub no_expected : (status : ℕ) (refusal : Refusal) → IsStatusBy check.queue bytes status → IsCheckRefused call refusal → status_of refusal ≡ status
  no_expected status refusals.Usage e r = absurd r
  no_expected status (refusals.Load name) e r =
      let same : r.0.check ≡ check = same_Some _ _ (sym r.0.is_command ∙ l.loaded.is_command) in
      absurd (no_loads name.now (subst (λ (c : Check). IsCheckedNext call.files c name.now) same r.0.named) r.0.fault)
  no_expected status (refusals.Capture fault) e r =
      let same = same_checked call check r.0.check bytes r.0.bytes l r.0.loaded in
      capture_expected status fault (ap capture_of (sym same.capture) ∙ r.0.is_fault) e
  no_expected status (refusals.Script error) e r =
      let same = same_checked call check r.0.check bytes r.0.bytes l r.0.loaded in
      script_expected status r.0.capture error (ap capture_of (sym same.capture) ∙ r.0.is_capture) (ap graphs_of (sym same.script) ∙ r.0.is_fault) e
  no_expected status (refusals.Turns place) e r = absurd r
  no_expected status (refusals.Save name) e r = absurd r
  no_expected status (refusals.Verdict verdict) e r =
      let same = same_checked call check r.0.check bytes r.0.bytes l r.0.loaded in
      denied_expected status r.0.capture r.0.plan
      (record {
        is_capture = ap capture_of (sym same.capture) ∙ r.0.inputs.is_capture;
        makes = subst (λ text. MakesPlan text r.0.plan) same.script r.0.inputs.makes;
      })
      (λ other other_plan inputs accepted. r.0.denied (accepted_here check r.0.check bytes r.0.bytes same other r.0.capture other_plan r.0.plan inputs r.0.inputs accepted)) e
