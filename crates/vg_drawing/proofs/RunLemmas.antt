-- For `drawn` and `draw_run`: refusals of a drawing.
use Rattle.std.proofs.Common.{◌≡◌, ℕ, ◌+◌, ◌≤◌, List, length, refl, sym, ap, subst, inl, inr, arith}
use Rattle.std.specs.Prelude.{◌≢◌, ◌⊎◌, Option, Some, Result, Ok, Err, IfOk, IfErr}
use Rattle.vg_outside.specs.Files.{Files, FirstBytes, FailedLoad, IsAbsent}
use Rattle.vg_script.specs.declared.errors.ScriptCause.{ScriptCause}
use Rattle.vg_script.specs.declared.errors.ScriptCause.TheVariants as script_causes
use Rattle.vg_script.specs.declared.errors.ScriptError.{ScriptError}
use Rattle.vg_script.specs.declared.scripts.Script.{Script}
use Rattle.vg_script.specs.Generations.{generations_of}
use Rattle.vg_script.specs.Reading.{script_of, refused, largest_script, IsRefusal}
use Rattle.vg_plan.specs.Plan.{Planned}
use Rattle.vg_plan.specs.Refusals.{IsRefusalOf}
use Rattle.vg_report.specs.declared.errors.ReportCause.{ReportCause}
use Rattle.vg_report.specs.declared.errors.ReportCause.TheVariants as report_causes
use Rattle.vg_report.specs.declared.errors.ReportError.{ReportError}
use Rattle.vg_report.specs.declared.reports.Report.{Report}
use Rattle.vg_report.specs.Reading as reports
use Rattle.vg_drawing.specs.declared.refusals.Refusal.{Refusal}
use Rattle.vg_drawing.specs.declared.refusals.Refusal.TheVariants as refusals
use Rattle.vg_drawing.specs.declared.refusals.Stop.{Stop}
use Rattle.vg_drawing.specs.declared.refusals.Stop.TheVariants as stops
use Rattle.vg_model.specs.Graph.{Graph}
use Rattle.vg_drawing.specs.Asked.{Ask, asked}
use Rattle.vg_drawing.specs.Drawn.{drawings, IsWithin}
use Rattle.vg_drawing.specs.Reading.{IsLoadOf, IsScriptRefusalFor, IsScriptStop, IsReportStop}
use Rattle.vg_drawing.specs.declared.top.Due.{Due}
use Rattle.vg_drawing.specs.Dues.{IsDueFor}
use Rattle.vg_drawing.specs.Run.{Call, MakesAt, MakesPlanAt, IsReportOf, IsDrawn, IsDue, status_of, line_of, OnRefusal, IsRefused, IsReportFault, IsMade, largest_report, script_stop, script_stop_by, report_stop, report_stop_by}
use Rattle.vg_drawing.proofs.PrintLemmas.{rose_later}

-- a fact of all refusals of one kind holds of those of another
pub on_refusal : (P Q : Refusal → Type 0) (stop : Stop) → ((refusal : Refusal) → P refusal → Q refusal) → OnRefusal P stop → OnRefusal Q stop
on_refusal P Q stops.Memory f h = tt
on_refusal P Q (stops.Refused refusal) f h = f refusal h

-- ---- what isn't for want of memory

-- a cause of a script or a report other than want of memory
not_memory : (cause : ScriptCause) → (cause ≡ script_causes.Memory) ⊎ (cause ≢ script_causes.Memory)
not_memory script_causes.Memory = inl refl
not_memory cause = inr (λ e. cc)

report_not_memory : (cause : ReportCause) → (cause ≡ report_causes.Memory) ⊎ (cause ≢ report_causes.Memory)
report_not_memory report_causes.Memory = inl refl
report_not_memory cause = inr (λ e. cc)

-- the refusal of a text is its own, where it isn't for want of memory
refused_text : (this : Result Script ScriptError) (line : ℕ) (cause : ScriptCause) → cause ≢ script_causes.Memory → IsRefusal this line cause → this ≡ refused line cause
refused_text this line script_causes.Memory other h = absurd (other refl)
refused_text this line cause other h = h

refused_report : (this : Result Report ReportError) (line : ℕ) (cause : ReportCause) → cause ≢ report_causes.Memory → reports.IsRefusal this line cause
    → this ≡ reports.refused line cause
refused_report this line report_causes.Memory other h = absurd (other refl)
refused_report this line cause other h = h

-- a stop for want of memory, and one for another cause
stop_memory : (P : Refusal → Type 0) (cause : ScriptCause) (stop : Stop) → cause ≡ script_causes.Memory → OnRefusal P (script_stop_by cause stop)
stop_memory P cause stop e = subst (λ c. OnRefusal P (script_stop_by c stop)) (sym e) tt

stop_other : (P : Refusal → Type 0) (cause : ScriptCause) (stop : Stop) → OnRefusal P stop → OnRefusal P (script_stop_by cause stop)
stop_other P script_causes.Memory stop h = tt
stop_other P cause stop h = h

report_stop_memory : (P : Refusal → Type 0) (cause : ReportCause) (stop : Stop) → cause ≡ report_causes.Memory → OnRefusal P (report_stop_by cause stop)
report_stop_memory P cause stop e = subst (λ c. OnRefusal P (report_stop_by c stop)) (sym e) tt

report_stop_other : (P : Refusal → Type 0) (cause : ReportCause) (stop : Stop) → OnRefusal P stop → OnRefusal P (report_stop_by cause stop)
report_stop_other P report_causes.Memory stop h = tt
report_stop_other P cause stop h = h

-- what a text that is refused stops the drawing with
pub text_stops : (text : List ℕ) (error : ScriptError) → IsRefusal (script_of text) error.line error.cause → OnRefusal (IsScriptRefusalFor text) (script_stop error)
text_stops text error h = elim (not_memory error.cause) [
  | inl memory ↦ stop_memory (IsScriptRefusalFor text) error.cause (stops.Refused (refusals.Script error)) memory
  | inr other ↦
      stop_other (IsScriptRefusalFor text) error.cause (stops.Refused (refusals.Script error))
      (inl (refused_text (script_of text) error.line error.cause other h), other)
]

-- what a script of which an edit is refused stops the drawing with
pub edit_stops : (text : List ℕ) (script : Script) (error : ScriptError) → script_of text ≡ Ok script → IsRefusalOf (generations_of script) error
    → OnRefusal (IsScriptRefusalFor text) (script_stop error)
edit_stops text script error is (inl memory) = stop_memory (IsScriptRefusalFor text) error.cause (stops.Refused (refusals.Script error)) (ap (λ (e : ScriptError). e.cause) memory)
edit_stops text script error is (inr refusal) = elim (not_memory error.cause) [
  | inl memory ↦ stop_memory (IsScriptRefusalFor text) error.cause (stops.Refused (refusals.Script error)) memory
  | inr other ↦
      stop_other (IsScriptRefusalFor text) error.cause (stops.Refused (refusals.Script error))
      (inr (script, is, (refusal.0, refusal.1, refusal.2)), other)
]

-- what a report that is refused stops the drawing with
pub report_stops : (files : Option Files) (name bytes : List ℕ) (before after : List ℕ → ℕ) (error : ReportError)
    → FirstBytes files name (largest_report + 1) bytes → reports.IsRefusal (reports.report_of bytes) error.line error.cause
    → OnRefusal (IsReportStop files (Some name) before after) (report_stop error)
report_stops files name bytes before after error loaded h = elim (report_not_memory error.cause) [
  | inl memory ↦ report_stop_memory (IsReportStop files (Some name) before after) error.cause (stops.Refused (refusals.Report error)) memory
  | inr other ↦
      report_stop_other (IsReportStop files (Some name) before after) error.cause (stops.Refused (refusals.Report error)) (
        name,
        refl,
        record {
          bytes = bytes;
          loaded = loaded;
          refused = refused_report (reports.report_of bytes) error.line error.cause other h;
          no_memory = other;
        },
      )
]

-- ---- what is refused of a call

-- a load of a script that failed
pub script_load : (files : Option Files) (name : List ℕ) (before after : List ℕ → ℕ) (refusal : Refusal)
    → IsLoadOf (λ failed. (failed ≡ name) × FailedLoad files name (before name) (after name)) refusal → IsScriptStop files name before after refusal
script_load files name before after refusals.Usage h = h
script_load files name before after (refusals.Generation count) h = h
script_load files name before after (refusals.Load failed) h = h
script_load files name before after (refusals.Script error) h = absurd h
script_load files name before after (refusals.Report error) h = h

-- the text of a script that is refused
pub script_text : (files : Option Files) (name bytes : List ℕ) (before after : List ℕ → ℕ) (refusal : Refusal)
    → FirstBytes files name (largest_script + 1) bytes → IsScriptRefusalFor bytes refusal → IsScriptStop files name before after refusal
script_text files name bytes before after refusals.Usage loaded h = h
script_text files name bytes before after (refusals.Generation count) loaded h = h
script_text files name bytes before after (refusals.Load failed) loaded h = absurd h
script_text files name bytes before after (refusals.Script error) loaded h = record { bytes = bytes; loaded = loaded; refused = h.0; no_memory = h.1 }
script_text files name bytes before after (refusals.Report error) loaded h = h

-- a load of a report that failed
pub report_load : (files : Option Files) (name : List ℕ) (before after : List ℕ → ℕ) (refusal : Refusal)
    → IsLoadOf (λ failed. (failed ≡ name) × FailedLoad files name (before name) (after name)) refusal → IsReportStop files (Some name) before after refusal
report_load files name before after refusals.Usage h = h
report_load files name before after (refusals.Generation count) h = h
report_load files name before after (refusals.Load failed) h =
    (ap Some (sym h.0), subst (λ n. FailedLoad files n (before n) (after n)) (sym h.0) h.1)
report_load files name before after (refusals.Script error) h = h
report_load files name before after (refusals.Report error) h = absurd h

-- the refusal of a script is one of the call
pub script_refused : (call : Call) (ask : Ask) (refusal : Refusal) → asked call.words ≡ Some ask
    → IsScriptStop call.files ask.script call.faults call.faults_after refusal → IsRefused call refusal
script_refused call ask refusals.Usage is h = absurd h
script_refused call ask (refusals.Generation count) is h = absurd h
script_refused call ask (refusals.Load name) is h =
    (ask, is, (inl h.0, subst (λ n. FailedLoad call.files n (call.faults n) (call.faults_after n)) (sym h.0) h.1))
script_refused call ask (refusals.Script error) is h = (ask, is, h)
script_refused call ask (refusals.Report error) is h = absurd h

-- a load that failed, by what was there before the loads before it
failed_before : (files now : Option Files) (name : List ℕ) (first before after : ℕ) → now ≡ files → first ≤ before → FailedLoad now name before after → FailedLoad files name first after
failed_before files now name first before after same less (inl rose) = inl (rose_later first before after less rose)
failed_before files now name first before after same less (inr absent) = inr (subst (λ fs. IsAbsent fs name) same absent)

-- the refusal of a report once the script was loaded
report_same : (files now : Option Files) (name : List ℕ) (error : ReportError) → now ≡ files → IsReportFault now name error → IsReportFault files name error
report_same files now name error same h = subst (λ fs. IsReportFault fs name error) same h

-- the refusal of a report is one of the call
pub report_refused : (call : Call) (ask : Ask) (now : Option Files) (before : List ℕ → ℕ) (refusal : Refusal) → asked call.words ≡ Some ask → IsMade call ask
    → now ≡ call.files → ((name : List ℕ) → call.faults name ≤ before name) → IsReportStop now ask.report before call.faults_after refusal → IsRefused call refusal
report_refused call ask now before refusals.Usage is made same less h = absurd h
report_refused call ask now before (refusals.Generation count) is made same less h = absurd h
report_refused call ask now before (refusals.Load name) is made same less h = (
  ask,
  is,
  (
    inr (h.0, made),
    failed_before call.files now name.now (call.faults name.now) (before name.now) (call.faults_after name.now) same (less name.now) h.1,
  ),
)
report_refused call ask now before (refusals.Script error) is made same less h = absurd h
report_refused call ask now before (refusals.Report error) is made same less h = (ask, is, (made, (h.0, h.1, report_same call.files now h.0 error same h.2)))

-- what is due at the end of a call
pub due_is : (call : Call) (drawn : Result (List ℕ) Stop) (due : Due) → IfOk drawn (IsDrawn call) → IfErr drawn (OnRefusal (IsRefused call)) → IsDueFor drawn (Some due)
    → IsDue call due.status due.text
due_is call (Ok text) due ok err h = inl (h.0, subst (IsDrawn call) (sym h.1) ok)
due_is call (Err stops.Memory) due ok err h = absurd h
due_is call (Err (stops.Refused refusal)) due ok err h = inr (refusal, h.0, err, h.1)

-- where the status isn't 0, it is that of a refusal
pub refused_at : (call : Call) (status : ℕ) (text : List ℕ) → IsDue call status text → 2 ≤ status
    → (refusal : Refusal) × (status ≡ status_of refusal) × IsRefused call refusal × (text ≡ line_of refusal)
refused_at call status text (inl drawn) h = absurd (omega (arith, drawn.0, h))
refused_at call status text (inr refused) h = refused

-- the words ask for a generation that the script doesn't make
pub generation_refused : (call : Call) (ask : Ask) (graphs : List Graph) (count : ℕ) (now : Option Files) (report : Option Report) → asked call.words ≡ Some ask
    → MakesAt call.files ask.script graphs → count ≡ length graphs → (IsWithin count ask.which → ⊥) → now ≡ call.files → IsReportOf now ask.report report
    → IsRefused call (refusals.Generation count)
generation_refused call ask graphs count now report is made same beyond files is_report =
    (ask, is, ((graphs, made, sym same, beyond), (report, subst (λ fs. IsReportOf fs ask.report report) files is_report)))

-- a script that makes a plan makes its graphs
pub graphs_made : (files : Option Files) (name : List ℕ) (plan : Planned) → MakesPlanAt files name plan → MakesAt files name plan.graphs
graphs_made files name plan made = record {
  bytes = made.bytes;
  loaded = made.loaded;
  makes = record { script = plan.script; is_script = made.makes.is_script; are_graphs = made.makes.are_graphs };
}

-- the text is that of the drawings
pub drawn_is : (call : Call) (ask : Ask) (plan : Planned) (count : ℕ) (now : Option Files) (report : Option Report) (text : List ℕ) → asked call.words ≡ Some ask
    → MakesPlanAt call.files ask.script plan → count ≡ length plan.graphs → IsWithin count ask.which → now ≡ call.files → IsReportOf now ask.report report
    → text ≡ drawings ask.which report plan → IsDrawn call text
drawn_is call ask plan count now report text is made same within files is_report is_text = record {
  ask = ask;
  is_ask = is;
  plan = plan;
  made = made;
  within = subst (λ n. IsWithin n ask.which) same within;
  report = report;
  is_report = subst (λ fs. IsReportOf fs ask.report report) files is_report;
  is_text = is_text;
}
