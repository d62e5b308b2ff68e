-- For `draw_run`: what comes of a call is what is to be expected.
use Rattle.std.proofs.Common.{◌≡◌, ℕ, ◌+◌, List, length, take, sym, ap, subst, ◌∙◌, inl, inr}
use Rattle.std.specs.Prelude.{◌⊎◌, Option, Some, None, Result, Ok, Err, IsSome, IsSomeAnd, IfOk, IfErr}
use Rattle.std.proofs.lemmas.Bool.{false≢true}
use Rattle.std.proofs.lemmas.Option.{none-some, same_Some}
use Rattle.vg_model.specs.Graph.{Graph}
use Rattle.vg_outside.specs.Files.{Files, file, FirstBytes, FailedLoad, IsAbsent}
use Rattle.vg_script.specs.declared.errors.ScriptError.{ScriptError}
use Rattle.vg_script.specs.Generations.{generations_of}
use Rattle.vg_script.specs.Reading.{largest_script}
use Rattle.vg_report.specs.declared.errors.ReportError.{ReportError}
use Rattle.vg_report.specs.declared.reports.Report.{Report}
use Rattle.vg_report.specs.Reading.{report_of}
use Rattle.vg_drawing.specs.declared.refusals.Refusal.{Refusal}
use Rattle.vg_drawing.specs.declared.refusals.Refusal.TheVariants as refusals
use Rattle.vg_drawing.specs.declared.refusals.Stop.{Stop}
use Rattle.vg_drawing.specs.declared.refusals.Stop.TheVariants as stops
use Rattle.vg_drawing.specs.declared.top.Due.{Due}
use Rattle.vg_drawing.specs.declared.words.Which.{Which}
use Rattle.vg_drawing.specs.Asked.{Ask, asked}
use Rattle.vg_drawing.specs.Drawn.{IsWithin}
use Rattle.vg_drawing.specs.Dues.{IsDueFor}
use Rattle.vg_drawing.specs.Expected.{IsLoadable, IsWithinStatus, IsReportStatus, IsNamedStatus, IsScriptStatus, IsExpected}
use Rattle.vg_drawing.specs.Run.{Call, Makes, MakesAt, IsScriptRefusal, IsScriptFault, IsReportFault, IsReportOf, IsDrawn, IsRefused, OnRefusal, status_of, largest_report}
use Rattle.vg_drawing.proofs.RunLemmas.{graphs_made}

-- ---- files that the folder tells

-- the first bytes of a file are the same each time
same_first : (files : Option Files) (name : List ℕ) (n : ℕ) (bytes others : List ℕ) → IsSome files → FirstBytes files name n bytes → FirstBytes files name n others
    → others ≡ bytes
same_first None name n bytes others told here there = absurd (false≢true told)
same_first (Some files) name n bytes others told here there = of_file (file files name) here there
  where
    of_file : (o : Option (List ℕ)) → IsSomeAnd o (λ all. bytes ≡ take n all) → IsSomeAnd o (λ all. others ≡ take n all) → others ≡ bytes
    of_file None here there = absurd here
    of_file (Some all) here there = there ∙ sym here

-- a file that is there isn't absent
not_absent : (files : Option Files) (name : List ℕ) (n : ℕ) (bytes : List ℕ) → FirstBytes files name n bytes → IsAbsent files name → ⊥
not_absent None name n bytes here absent = absent
not_absent (Some files) name n bytes here absent = subst (λ (o : Option (List ℕ)). IsSomeAnd o (λ all. bytes ≡ take n all)) absent here

-- so a load of it fails only where a fault was counted
no_load : (call : Call) (name : List ℕ) (n : ℕ) (bytes : List ℕ) → IsLoadable call name n bytes
    → FailedLoad call.files name (call.faults name) (call.faults_after name) → ⊥
no_load call name n bytes l (inl rose) = l.no_fault rose
no_load call name n bytes l (inr absent) = not_absent call.files name n bytes l.first absent

-- ---- texts

-- a text that makes graphs isn't refused
made_not_refused : (text : List ℕ) (graphs : List Graph) (error : ScriptError) → Makes text graphs → IsScriptRefusal text error → ⊥
made_not_refused text graphs error m (inl e) = let is = m.is_script in cc
made_not_refused text graphs error m (inr r) =
    let same : r.0 ≡ m.script = (let is = m.is_script in let other = r.1 in cc) in
    let made : generations_of r.0 ≡ Ok graphs = ap generations_of same ∙ m.are_graphs in
    let not : generations_of r.0 ≡ Err r.2.0 = r.2.1 in
    cc

-- a text makes the same graphs each time
same_made : (text : List ℕ) (graphs others : List Graph) → Makes text graphs → Makes text others → others ≡ graphs
same_made text graphs others m n =
    let same : n.script ≡ m.script = (let is = m.is_script in let other = n.is_script in cc) in
    let made : generations_of n.script ≡ Ok graphs = ap generations_of same ∙ m.are_graphs in
    let again : generations_of n.script ≡ Ok others = n.are_graphs in
    cc

-- a report that is read isn't refused
read_not_refused : (bytes : List ℕ) (report : Report) (error : ReportError) → report_of bytes ≡ Ok report → report_of bytes ≡ Err error → ⊥
read_not_refused bytes report error e f = cc

-- ---- what is expected past each step

-- past the words
past_words : (call : Call) (ask : Ask) (status : ℕ) → asked call.words ≡ Some ask → IsExpected call status
    → ((status ≡ 3) × IsAbsent call.files ask.script) ⊎ ((bytes : List ℕ) × IsLoadable call ask.script (largest_script + 1) bytes × IsScriptStatus call ask bytes status)
past_words call ask status is (inl e) = absurd (none-some ask (sym e.1 ∙ is))
past_words call ask status is (inr e) =
    subst
    (λ (a : Ask). ((status ≡ 3) × IsAbsent call.files a.script) ⊎ ((bytes : List ℕ) × IsLoadable call a.script (largest_script + 1) bytes × IsScriptStatus call a bytes status))
    (same_Some _ _ (sym e.1 ∙ is)) e.2

-- past a script that was loaded
past_load : (call : Call) (ask : Ask) (bytes : List ℕ) (status : ℕ) → asked call.words ≡ Some ask → FirstBytes call.files ask.script (largest_script + 1) bytes
    → IsExpected call status → IsScriptStatus call ask bytes status
past_load call ask bytes status is first e = elim (past_words call ask status is e) [
  | inl absent ↦ absurd (not_absent call.files ask.script (largest_script + 1) bytes first absent.1)
  | inr l ↦
      subst (λ bs. IsScriptStatus call ask bs status) (sym (same_first call.files ask.script (largest_script + 1) l.0 bytes l.1.told l.1.first first)) l.2
]

-- past a script that makes graphs
past_script : (call : Call) (ask : Ask) (graphs : List Graph) (status : ℕ) → asked call.words ≡ Some ask → MakesAt call.files ask.script graphs
    → IsExpected call status → IsNamedStatus call (length graphs) ask.which ask.report status
past_script call ask graphs status is m e = elim (past_load call ask m.bytes status is m.loaded e) [
  | inl five ↦ absurd (made_not_refused m.bytes graphs five.1.0 m.makes five.1.1)
  | inr made ↦
      subst (λ (gs : List Graph). IsNamedStatus call (length gs) ask.which ask.report status) (sym (same_made m.bytes made.0 graphs made.1 m.makes)) made.2
]

-- past a report that was loaded
past_named : (call : Call) (count : ℕ) (which : Which) (name bytes : List ℕ) (status : ℕ) → FirstBytes call.files name (largest_report + 1) bytes
    → IsNamedStatus call count which (Some name) status → IsReportStatus count which bytes status
past_named call count which name bytes status first (inl absent) = absurd (not_absent call.files name (largest_report + 1) bytes first absent.1)
past_named call count which name bytes status first (inr l) =
    subst (λ bs. IsReportStatus count which bs status) (sym (same_first call.files name (largest_report + 1) l.0 bytes l.1.told l.1.first first)) l.2

-- past a report that is read, or where none is named
past_read : (count : ℕ) (which : Which) (bytes : List ℕ) (report : Report) (status : ℕ) → report_of bytes ≡ Ok report
    → IsReportStatus count which bytes status → IsWithinStatus count which status
past_read count which bytes report status is (inl nine) = absurd (read_not_refused bytes report nine.1.0 is nine.1.1)
past_read count which bytes report status is (inr within) = within.1

past_report : (call : Call) (count : ℕ) (which : Which) (named : Option (List ℕ)) (report : Option Report) (status : ℕ) → IsReportOf call.files named report
    → IsNamedStatus call count which named status → IsWithinStatus count which status
past_report call count which None None status is e = e
past_report call count which None (Some report) status is e = absurd is
past_report call count which (Some name) None status is e = absurd is
past_report call count which (Some name) (Some report) status is e =
    past_read count which is.bytes report status is.is_report (past_named call count which name is.bytes status is.loaded e)

-- ---- what comes is expected

within_expected : (count : ℕ) (which : Which) (status : ℕ) → IsWithin count which → IsWithinStatus count which status → 0 ≡ status
within_expected count which status h (inl e) = sym e.0
within_expected count which status h (inr e) = absurd (e.1 h)

beyond_expected : (count : ℕ) (which : Which) (status : ℕ) → (IsWithin count which → ⊥) → IsWithinStatus count which status → 2 ≡ status
beyond_expected count which status h (inl e) = absurd (h e.1)
beyond_expected count which status h (inr e) = sym e.0

-- drawings
drawn_expected : (call : Call) (text : List ℕ) (status : ℕ) → IsDrawn call text → IsExpected call status → 0 ≡ status
drawn_expected call text status d e =
    within_expected (length d.plan.graphs) d.ask.which status d.within
    (past_report call (length d.plan.graphs) d.ask.which d.ask.report d.report status d.is_report
    (past_script call d.ask d.plan.graphs status d.is_ask (graphs_made call.files d.ask.script d.plan d.made) e))

-- a load of the script that failed
script_load_expected : (call : Call) (ask : Ask) (status : ℕ) → asked call.words ≡ Some ask
    → FailedLoad call.files ask.script (call.faults ask.script) (call.faults_after ask.script) → IsExpected call status → 3 ≡ status
script_load_expected call ask status is h e = elim (past_words call ask status is e) [
  | inl absent ↦ sym absent.0
  | inr l ↦ absurd (no_load call ask.script (largest_script + 1) l.0 l.1 h)
]

-- a script that is refused
script_expected : (call : Call) (ask : Ask) (error : ScriptError) (status : ℕ) → asked call.words ≡ Some ask → IsScriptFault call.files ask.script error
    → IsExpected call status → 5 ≡ status
script_expected call ask error status is h e = elim (past_load call ask h.bytes status is h.loaded e) [
  | inl five ↦ sym five.0
  | inr made ↦ absurd (made_not_refused h.bytes made.0 error made.1 h.refused)
]

-- a load of the report that failed
report_load_expected : (call : Call) (count : ℕ) (which : Which) (name : List ℕ) (status : ℕ)
    → FailedLoad call.files name (call.faults name) (call.faults_after name) → IsNamedStatus call count which (Some name) status → 3 ≡ status
report_load_expected call count which name status h (inl absent) = sym absent.0
report_load_expected call count which name status h (inr l) = absurd (no_load call name (largest_report + 1) l.0 l.1 h)

-- a report that is refused
report_expected : (count : ℕ) (which : Which) (bytes : List ℕ) (error : ReportError) (status : ℕ) → report_of bytes ≡ Err error
    → IsReportStatus count which bytes status → 9 ≡ status
report_expected count which bytes error status is (inl nine) = sym nine.0
report_expected count which bytes error status is (inr within) = absurd (read_not_refused bytes within.0.0 error within.0.1 is)

-- what is expected of the report of this name
named_as : (call : Call) (ask : Ask) (count : ℕ) (name : List ℕ) (status : ℕ) → ask.report ≡ Some name → IsNamedStatus call count ask.which ask.report status
    → IsNamedStatus call count ask.which (Some name) status
named_as call ask count name status is e = subst (λ (o : Option (List ℕ)). IsNamedStatus call count ask.which o status) is e

-- a refusal
refused_expected : (call : Call) (refusal : Refusal) (status : ℕ) → IsRefused call refusal → IsExpected call status → status_of refusal ≡ status
refused_expected call refusals.Usage status none (inl e) = sym e.0
refused_expected call refusals.Usage status none (inr e) = absurd (none-some e.0 (sym none ∙ e.1))
refused_expected call (refusals.Generation count) status r e =
    let ask : Ask = r.0 in
    let graphs : List Graph = r.2.0.0 in
    beyond_expected (length graphs) ask.which status (λ h. r.2.0.3 (subst (λ n. IsWithin n ask.which) r.2.0.2 h))
    (past_report call (length graphs) ask.which ask.report r.2.1.0 status r.2.1.1 (past_script call ask graphs status r.1 r.2.0.1 e))
refused_expected call (refusals.Load name) status (ask, is, (inl this, h)) e =
    script_load_expected call ask status is (subst (λ n. FailedLoad call.files n (call.faults n) (call.faults_after n)) this h) e
refused_expected call (refusals.Load name) status (ask, is, (inr next, h)) e =
    let graphs : List Graph = next.1.0 in
    report_load_expected call (length graphs) ask.which name.now status h
    (named_as call ask (length graphs) name.now status next.0 (past_script call ask graphs status is next.1.1 e))
refused_expected call (refusals.Script error) status r e = script_expected call r.0 error status r.1 r.2 e
refused_expected call (refusals.Report error) status r e =
    let ask : Ask = r.0 in
    let graphs : List Graph = r.2.0.0 in
    let name : List ℕ = r.2.1.0 in
    let fault : IsReportFault call.files name error = r.2.1.2 in
    report_expected (length graphs) ask.which fault.bytes error status fault.refused
    (past_named call (length graphs) ask.which name fault.bytes status fault.loaded
    (named_as call ask (length graphs) name status r.2.1.1 (past_script call ask graphs status r.1 r.2.0.1 e)))

-- what is due has the status that is to be expected
pub due_expected : (call : Call) (drawn : Result (List ℕ) Stop) (due : Due) (status : ℕ) → IfOk drawn (IsDrawn call) → IfErr drawn (OnRefusal (IsRefused call))
    → IsDueFor drawn (Some due) → IsExpected call status → due.status ≡ status
due_expected call (Ok text) due status ok err h e = h.0 ∙ drawn_expected call text status ok e
due_expected call (Err stops.Memory) due status ok err h e = absurd h
due_expected call (Err (stops.Refused refusal)) due status ok err h e = h.0 ∙ refused_expected call refusal status err e
