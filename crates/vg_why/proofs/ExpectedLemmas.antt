-- For `why_run`, clause `exactly`: what comes of a call is what is to be expected.
use Rattle.std.proofs.Common.{◌≡◌, ℕ, ◌+◌, true, false, List, length, take, sym, ap, subst, ◌∙◌, inl, inr}
use Rattle.std.specs.Prelude.{◌⊎◌, Option, Some, None, Result, Ok, Err, IsSome, IsSomeAnd}
use Rattle.std.proofs.lemmas.Bool.{false≢true}
use Rattle.std.proofs.lemmas.Option.{none-some, same_Some}
use Rattle.vg_model.specs.Journey.{Journey}
use Rattle.vg_outside.specs.Files.{Files, file, FirstBytes, FailedLoad, IsAbsent}
use Rattle.vg_capture.specs.declared.captures.Capture.{Capture}
use Rattle.vg_capture.specs.Savefile.{capture_of, largest_file}
use Rattle.vg_script.specs.declared.errors.ScriptError.{ScriptError}
use Rattle.vg_script.specs.Generations.{generations_of}
use Rattle.vg_script.specs.Reading.{script_of, largest_script}
use Rattle.vg_plan.specs.Plan.{Planned}
use Rattle.vg_report.specs.declared.reports.Report.{Report}
use Rattle.vg_report.specs.Reading as reading
use Rattle.vg_replay.specs.Tasks.{AreTaken, IsFirstFault}
use Rattle.vg_replay.proofs.ReplayLemmas.{no_fault}
use Rattle.vg_check.specs.declared.verdicts.Verdict.{Verdict}
use Rattle.vg_check.specs.declared.verdicts.Verdict.TheVariants as verdicts
use Rattle.vg_check.specs.Points.{IsHead}
use Rattle.vg_check.specs.Verdicts.{Case, task_by, IsHeaded}
use Rattle.vg_files.specs.Checks.{CheckBytes, AreInputs, largest_output}
use Rattle.vg_files.specs.Plan.{graphs_of, MakesPlan}
use Rattle.vg_files.specs.Refusals.{status_of}
use Rattle.vg_files.specs.declared.refusals.Refusal.{Refusal}
use Rattle.vg_files.specs.declared.refusals.Refusal.TheVariants as refusals
use Rattle.vg_files.specs.declared.refusals.Stop.{Stop}
use Rattle.vg_files.specs.declared.refusals.Stop.TheVariants as stops
use Rattle.vg_files.proofs.ScriptLemmas.{graphs_by_script, graphs_made}
use Rattle.vg_why.specs.declared.top.Due.{Due}
use Rattle.vg_why.specs.Asked.{Ask, Asked, asked, are_below}
use Rattle.vg_why.specs.Files.{AreLoaded, IsLoadedNext, IsFound, IsNoJourney, IsRefusedBy, case_in}
use Rattle.vg_why.specs.Expected.{HasNoFault, AreLoadable, IsOneAbsent, IsChoiceStatus, IsNumberStatus, IsReportStatus, IsStatusBy, IsExpected}
use Rattle.vg_why.specs.Run.{Call, IsWhy, IsRefused, IsRefusedAt, IsRefusedWith, IsDueFor}
use Rattle.vg_why.proofs.RunLemmas.{IsAnswer}

-- ---- files that the folder names

-- a folder that names its files gave the first bytes of one, and gave them again
record AreGiven (files : Option Files) (name : List ℕ) (n : ℕ) (bytes others : List ℕ) : Type 0 where
  told : IsSome files
  here : FirstBytes files name n bytes
  there : FirstBytes files name n others

-- they are the same each time
same_first : (files : Option Files) (name : List ℕ) (n : ℕ) (bytes others : List ℕ) → AreGiven files name n bytes others → others ≡ bytes
same_first None name n bytes others given = absurd (false≢true given.told)
same_first (Some files) name n bytes others given = of_file (file files name) given.here given.there
  where
    of_file : (o : Option (List ℕ)) → IsSomeAnd o (λ all. bytes ≡ take n all) → IsSomeAnd o (λ all. others ≡ take n all) → others ≡ bytes
    of_file None here there = absurd here
    of_file (Some all) here there = there ∙ sym here

-- a file that is there isn't absent
not_absent : (files : Option Files) (name : List ℕ) (n : ℕ) (bytes : List ℕ) → FirstBytes files name n bytes → IsAbsent files name → ⊥
not_absent None name n bytes here absent = absent
not_absent (Some files) name n bytes here absent = subst (λ (o : Option (List ℕ)). IsSomeAnd o (λ all. bytes ≡ take n all)) absent here

-- so of files that were loaded none is absent
none_absent : (files : Option Files) (ask : Ask) (bytes : CheckBytes) → AreLoaded files ask bytes → IsOneAbsent files ask → ⊥
none_absent files ask bytes loaded (inl absent) = not_absent files ask.capture (largest_file + 1) bytes.capture loaded.capture absent
none_absent files ask bytes loaded (inr (inl absent)) = not_absent files ask.script (largest_script + 1) bytes.script loaded.script absent
none_absent files ask bytes loaded (inr (inr absent)) = not_absent files ask.report (largest_output + 1) bytes.report loaded.report absent

-- where no fault was counted, a load fails only of a file that is absent
fails_absent : (call : Call) (name : List ℕ) → HasNoFault call name → FailedLoad call.files name (call.faults name) (call.faults_after name) → IsAbsent call.files name
fails_absent call name none (inl rose) = absurd (none rose)
fails_absent call name none (inr absent) = absent

-- so no load of files fails that can be loaded
loads : (call : Call) (name : List ℕ) {ask : Ask} {bytes : CheckBytes} → AreLoadable call ask bytes → IsLoadedNext call.files ask name
    → FailedLoad call.files name (call.faults name) (call.faults_after name) → ⊥
loads call name {ask = ask} {bytes = bytes} l (inl is) h =
    not_absent call.files ask.capture (largest_file + 1) bytes.capture l.loaded.capture
    (fails_absent call ask.capture l.no_capture_fault (subst (λ n. FailedLoad call.files n (call.faults n) (call.faults_after n)) is h))
loads call name {ask = ask} {bytes = bytes} l (inr (inl is)) h =
    not_absent call.files ask.script (largest_script + 1) bytes.script l.loaded.script
    (fails_absent call ask.script l.no_script_fault (subst (λ n. FailedLoad call.files n (call.faults n) (call.faults_after n)) is.0 h))
loads call name {ask = ask} {bytes = bytes} l (inr (inr is)) h =
    not_absent call.files ask.report (largest_output + 1) bytes.report l.loaded.report
    (fails_absent call ask.report l.no_report_fault (subst (λ n. FailedLoad call.files n (call.faults n) (call.faults_after n)) is.0 h))

-- what was loaded is what can be loaded
same_bytes : (call : Call) (ask : Ask) (bytes others : CheckBytes) → AreLoadable call ask bytes → AreLoaded call.files ask others → others ≡ bytes
same_bytes call ask bytes others l a =
    let capture = same_first call.files ask.capture (largest_file + 1) bytes.capture others.capture (record { told = l.told; here = l.loaded.capture; there = a.capture }) in
    let script = same_first call.files ask.script (largest_script + 1) bytes.script others.script (record { told = l.told; here = l.loaded.script; there = a.script }) in
    let report = same_first call.files ask.report (largest_output + 1) bytes.report others.report (record { told = l.told; here = l.loaded.report; there = a.report }) in
    let tx : others.tx ≡ bytes.tx = a.no_tx ∙ sym l.loaded.no_tx in
    λ i. record { capture = capture i; script = script i; tx = tx i; report = report i }

-- ---- what the bytes say

-- a reading answers once
same_ok : {X E : Type 0} (r : Result X E) (x y : X) → r ≡ Ok x → r ≡ Ok y → x ≡ y
same_ok r x y e f = cc

ok_or_err : {X E : Type 0} (r : Result X E) (x : X) (error : E) → r ≡ Ok x → r ≡ Err error → ⊥
ok_or_err r x error e f = cc

-- a script makes one plan
one_plan : (text : List ℕ) (one other : Planned) → MakesPlan text one → MakesPlan text other → one ≡ other
one_plan text one other m n =
    let same_script = same_ok (script_of text) one.script other.script m.is_script n.is_script in
    let same_graphs = same_ok (generations_of one.script) one.graphs other.graphs m.are_graphs (ap generations_of same_script ∙ n.are_graphs) in
    λ i. record { script = same_script i; graphs = same_graphs i }

-- and then isn't refused
no_plan : (text : List ℕ) (plan : Planned) (error : ScriptError) → MakesPlan text plan → graphs_of text ≡ Err error → ⊥
no_plan text plan error m refused =
    ok_or_err (graphs_of text) plan.graphs error (graphs_by_script text plan.script m.is_script ∙ graphs_made plan.script plan.graphs m.are_graphs) refused

-- ---- what they bring

-- journeys
taken_status : (case : Case) (report : Report) (js : List Journey) (status : ℕ) → AreTaken (task_by case report) js → IsChoiceStatus case report status → 0 ≡ status
taken_status case report js status taken (inl (nine, (number, first))) = absurd (no_fault (task_by case report) js number taken first.fault)
taken_status case report js status taken (inr zero_status) = sym zero_status.0

-- a choice that can't be
fault_status : (case : Case) (report : Report) (number status : ℕ) → IsFirstFault (task_by case report) number → IsChoiceStatus case report status → 9 ≡ status
fault_status case report number status first (inl nine) = sym nine.0
fault_status case report number status first (inr (zero_status, (js, taken))) = absurd (no_fault (task_by case report) js number taken first.fault)

-- past the numbers that are asked for
past_numbers : (asked : Asked) (case : Case) (report : Report) (status : ℕ) → are_below asked (length case.capture.packets) ≡ true
    → IsNumberStatus asked case report status → IsChoiceStatus case report status
past_numbers asked case report status below (inl beyond) = absurd (false≢true (sym beyond.1 ∙ below))
past_numbers asked case report status below (inr choices) = choices.1

-- past a report whose head fits
past_head : (asked : Asked) (case : Case) (report : Report) (status : ℕ) → IsHeaded case report → IsReportStatus asked case status → IsNumberStatus asked case report status
past_head asked case report status headed (inl (nine, (error, refused))) = absurd (ok_or_err (reading.report_of case.report) report error headed.is_report refused)
past_head asked case report status headed (inr (inl (nine, (other, is, apart)))) =
    absurd (apart (subst (IsHead case.plan case.capture) (same_ok (reading.report_of case.report) report other headed.is_report is) headed.head))
past_head asked case report status headed (inr (inr (other, same, numbers))) =
    subst (λ (r : Report). IsNumberStatus asked case r status) (same_ok (reading.report_of case.report) other report same.is_report headed.is_report) numbers

-- past a capture and a script that are accepted
past_inputs : (asked : Asked) {bytes : CheckBytes} {capture : Capture} {plan : Planned} (status : ℕ) → AreInputs bytes capture plan → IsStatusBy asked bytes status
    → IsReportStatus asked (case_in bytes capture plan) status
past_inputs asked {bytes = bytes} {capture = capture} {plan = plan} status inputs (inl (four, (fault, refused))) = absurd (ok_or_err (capture_of bytes.capture) capture fault inputs.is_capture refused)
past_inputs asked {bytes = bytes} {capture = capture} {plan = plan} status inputs (inr (inl (five, accepted, (error, refused)))) = absurd (no_plan bytes.script plan error inputs.makes refused)
past_inputs asked {bytes = bytes} {capture = capture} {plan = plan} status inputs (inr (inr (other, made, others, reports))) =
    subst (λ (p : Planned). IsReportStatus asked (case_in bytes capture p) status) (one_plan bytes.script made plan others.makes inputs.makes)
    (subst (λ (c : Capture). IsReportStatus asked (case_in bytes c made) status) (same_ok (capture_of bytes.capture) other capture others.is_capture inputs.is_capture) reports)

-- what is found brings 0
found_status : (asked : Asked) (bytes : CheckBytes) (text : List ℕ) (status : ℕ) → IsFound asked bytes text → IsStatusBy asked bytes status → 0 ≡ status
found_status asked bytes text status f e =
    let case = case_in bytes f.capture f.plan in
    taken_status case f.report f.js status f.travelled.taken
    (past_numbers asked case f.report status f.below
    (past_head asked case f.report status f.travelled.headed (past_inputs asked status f.inputs e)))

-- a report that names no journeys brings 9
verdict_status : (asked : Asked) (case : Case) (verdict : Verdict) (status : ℕ) → IsNoJourney asked case verdict → IsReportStatus asked case status → 9 ≡ status
verdict_status asked case (verdicts.Report line cause) status v (inl nine) = sym nine.0
verdict_status asked case (verdicts.Report line cause) status v (inr (inl nine)) = sym nine.0
verdict_status asked case (verdicts.Report line cause) status v (inr (inr (report, headed, numbers))) = absurd (ok_or_err (reading.report_of case.report) report _ headed.is_report v.0)
verdict_status asked case verdicts.Head status v (inl nine) = sym nine.0
verdict_status asked case verdicts.Head status v (inr (inl nine)) = sym nine.0
verdict_status asked case verdicts.Head status v (inr (inr (report, headed, numbers))) =
    absurd (v.2 (subst (IsHead case.plan case.capture) (same_ok (reading.report_of case.report) report v.0 headed.is_report v.1) headed.head))
verdict_status asked case (verdicts.Choices number) status v e =
    let report : Report = v.0.0 in
    fault_status case report number status v.0.2 (past_numbers asked case report status v.1 (past_head asked case report status v.0.1 e))
verdict_status asked case (verdicts.Queue number) status v e = absurd v
verdict_status asked case verdicts.Text status v e = absurd v
verdict_status asked case verdicts.Tx status v e = absurd v
verdict_status asked case verdicts.Yes status v e = absurd v

-- numbers of which the capture has no packet bring 2
beyond_status : (asked : Asked) (case : Case) (report : Report) (status : ℕ) → are_below asked (length case.capture.packets) ≡ false
    → IsNumberStatus asked case report status → 2 ≡ status
beyond_status asked case report status beyond (inl two) = sym two.0
beyond_status asked case report status beyond (inr (below, choices)) = absurd (false≢true (sym beyond ∙ below))

-- what was loaded, and is refused, brings the status of the refusal
bytes_status : (asked : Asked) (bytes : CheckBytes) (refusal : Refusal) (status : ℕ) → IsRefusedBy asked bytes refusal → IsStatusBy asked bytes status
    → status_of refusal ≡ status
bytes_status asked bytes refusals.Usage status r e =
    let case = case_in bytes r.capture r.plan in
    beyond_status asked case r.report status r.beyond (past_head asked case r.report status r.headed (past_inputs asked status r.inputs e))
bytes_status asked bytes (refusals.Load name) status r e = absurd r
bytes_status asked bytes (refusals.Capture fault) status r (inl four) = sym four.0
bytes_status asked bytes (refusals.Capture fault) status r (inr (inl five)) = absurd (ok_or_err (capture_of bytes.capture) five.1.0 fault five.1.1 r.0)
bytes_status asked bytes (refusals.Capture fault) status r (inr (inr (capture, plan, inputs, reports))) = absurd (ok_or_err (capture_of bytes.capture) capture fault inputs.is_capture r.0)
bytes_status asked bytes (refusals.Script error) status r (inl (four, (fault, refused))) = absurd (ok_or_err (capture_of bytes.capture) r.0.0 fault r.0.1 refused)
bytes_status asked bytes (refusals.Script error) status r (inr (inl five)) = sym five.0
bytes_status asked bytes (refusals.Script error) status r (inr (inr (capture, plan, inputs, reports))) = absurd (no_plan bytes.script plan error inputs.makes r.1)
bytes_status asked bytes (refusals.Turns place) status r e = absurd r
bytes_status asked bytes (refusals.Save name) status r e = absurd r
bytes_status asked bytes (refusals.Verdict verdict) status (capture, plan, inputs, v) e =
    verdict_status asked (case_in bytes capture plan) verdict status v (past_inputs asked status inputs e)

-- ---- what comes of a call

-- past the words: what is expected of the files
abbrev IsOfFiles : Call → Ask → ℕ → Type 0
IsOfFiles call ask status =
    ((status ≡ 3) × IsOneAbsent call.files ask) ⊎ ((bytes : CheckBytes) × AreLoadable call ask bytes × IsStatusBy ask.asked bytes status)

past_words : (call : Call) (ask : Ask) (status : ℕ) → asked call.words ≡ Some ask → IsExpected call status → IsOfFiles call ask status
past_words call ask status is (inl e) = absurd (none-some ask (sym e.1 ∙ is))
past_words call ask status is (inr (other, asks, files)) = subst (λ (a : Ask). IsOfFiles call a status) (same_Some other ask (sym asks ∙ is)) files

-- past the loads
past_loads : (call : Call) {ask : Ask} {bytes : CheckBytes} (status : ℕ) → asked call.words ≡ Some ask → AreLoaded call.files ask bytes → IsExpected call status
    → IsStatusBy ask.asked bytes status
past_loads call {ask = ask} {bytes = bytes} status is loaded e = elim (past_words call ask status is e) [
  | inl absent ↦ absurd (none_absent call.files ask bytes loaded absent.1)
  | inr l ↦ subst (λ (b : CheckBytes). IsStatusBy ask.asked b status) (sym (same_bytes call ask l.0 bytes l.1 loaded)) l.2
]

-- a text
why_expected : (call : Call) (text : List ℕ) (status : ℕ) → IsWhy call text → IsExpected call status → 0 ≡ status
why_expected call text status w e = found_status w.ask.asked w.bytes text status w.found (past_loads call status w.is_ask w.loaded e)

-- a load that failed
load_expected : (call : Call) {ask : Ask} (name : List ℕ) (status : ℕ) → asked call.words ≡ Some ask
    → IsLoadedNext call.files ask name × FailedLoad call.files name (call.faults name) (call.faults_after name) → IsExpected call status → 3 ≡ status
load_expected call {ask = ask} name status is load e = elim (past_words call ask status is e) [
  | inl absent ↦ sym absent.0
  | inr l ↦ absurd (loads call name l.1 load.0 load.1)
]

-- files that were loaded and are refused
at_expected : (call : Call) {ask : Ask} (refusal : Refusal) (status : ℕ) → asked call.words ≡ Some ask → IsRefusedAt call ask refusal → IsExpected call status
    → status_of refusal ≡ status
at_expected call {ask = ask} refusal status is (bytes, loaded, refused) e = bytes_status ask.asked bytes refusal status refused (past_loads call status is loaded e)

-- a refusal
with_expected : (call : Call) {ask : Ask} (refusal : Refusal) (status : ℕ) → asked call.words ≡ Some ask → IsRefusedWith call ask refusal → IsExpected call status
    → status_of refusal ≡ status
with_expected call refusals.Usage status is r e = at_expected call refusals.Usage status is r e
with_expected call (refusals.Load name) status is r e = load_expected call name.now status is r e
with_expected call (refusals.Capture fault) status is r e = at_expected call (refusals.Capture fault) status is r e
with_expected call (refusals.Script error) status is r e = at_expected call (refusals.Script error) status is r e
with_expected call (refusals.Turns place) status is r e = at_expected call (refusals.Turns place) status is r e
with_expected call (refusals.Save name) status is r e = at_expected call (refusals.Save name) status is r e
with_expected call (refusals.Verdict verdict) status is r e = at_expected call (refusals.Verdict verdict) status is r e

refused_expected : (call : Call) (refusal : Refusal) (status : ℕ) → IsRefused call refusal → IsExpected call status → status_of refusal ≡ status
refused_expected call refusal status (inl (usage, none)) (inl e) = ap status_of usage ∙ sym e.0
refused_expected call refusal status (inl (usage, none)) (inr (ask, is, files)) = absurd (none-some ask (sym none ∙ is))
refused_expected call refusal status (inr (ask, is, refused)) e = with_expected call refusal status is refused e

-- what is due has the status that is to be expected
pub due_expected : {call : Call} (told : Result (List ℕ) Stop) (due : Due) (status : ℕ) → IsAnswer call told → IsDueFor told (Some due) → IsExpected call status → due.status ≡ status
due_expected {call = call} (Ok text) due status answer h e = h.0 ∙ why_expected call text status answer.ok e
due_expected (Err stops.Memory) due status answer h e = absurd h
due_expected {call = call} (Err (stops.Refused refusal)) due status answer h e = h.0 ∙ refused_expected call refusal status answer.err e
