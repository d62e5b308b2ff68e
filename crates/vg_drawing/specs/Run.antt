-- What a call prints and answers.
use Rattle.std.specs.Prelude.{◌≡◌, ◌≢◌, ◌⊎◌, ℕ, ◌+◌, ◌<◌, ◌++◌, List, [], ◌∷◌, length, take, codes, decimal, Option, Some, None, option_map, Ok, Err}
use Rattle.std.specs.Borrow.{Bor}
use Rattle.vg_model.specs.Graph.{Graph}
use Rattle.vg_outside.specs.Files.{Files, FirstBytes, FailedLoad}
use Rattle.vg_script.specs.declared.errors.ScriptCause.{ScriptCause}
use Rattle.vg_script.specs.declared.errors.ScriptCause.TheVariants as script_causes
use Rattle.vg_script.specs.declared.errors.ScriptError.{ScriptError}
use Rattle.vg_script.specs.declared.scripts.Script.{Script}
use Rattle.vg_script.specs.Causes.{cause_word}
use Rattle.vg_script.specs.Generations.{generations_of}
use Rattle.vg_script.specs.Reading.{script_of, largest_script}
use Rattle.vg_model.specs.Edit.{Cause}
use Rattle.vg_plan.specs.Plan.{Planned}
use Rattle.vg_plan.specs.Refusals.{error_of}
use Rattle.vg_report.specs.declared.errors.ReportCause.{ReportCause}
use Rattle.vg_report.specs.declared.errors.ReportCause.TheVariants as report_causes
use Rattle.vg_report.specs.declared.errors.ReportError.{ReportError}
use Rattle.vg_report.specs.declared.reports.Report.{Report}
use Rattle.vg_report.specs.Reading.{report_of}
use Rattle.vg_words.specs.Command.{texts}
use Rattle.vg_drawing.specs.declared.refusals.Refusal.{Refusal}
use Rattle.vg_drawing.specs.declared.refusals.Refusal.TheVariants as refusals
use Rattle.vg_drawing.specs.declared.refusals.Stop.{Stop}
use Rattle.vg_drawing.specs.declared.refusals.Stop.TheVariants as stops
use Rattle.vg_drawing.specs.Asked.{Ask, asked}
use Rattle.vg_drawing.specs.Drawn.{drawings, IsWithin}

-- ---- what is printed of a refusal

-- the status of a refusal
abbrev pub status_of : Refusal → ℕ
status_of refusals.Usage = 2
status_of (refusals.Generation count) = 2
status_of (refusals.Load name) = 3
status_of (refusals.Script error) = 5
status_of (refusals.Report error) = 9

-- the word for a report's fault
abbrev pub report_word : ReportCause → List ℕ
report_word report_causes.Form = codes "form"
report_word report_causes.Number = codes "number"
report_word report_causes.Unknown = codes "unknown"
report_word report_causes.Order = codes "order"
report_word report_causes.Memory = codes "memory"

-- the line of a refusal
abbrev pub line_of : Refusal → List ℕ
line_of refusals.Usage = codes "usage" ++ 10 ∷ []
line_of (refusals.Generation count) = codes "usage" ++ 10 ∷ []
line_of (refusals.Load name) = codes "load " ++ name.now ++ 10 ∷ []
line_of (refusals.Script error) = codes "script " ++ (decimal error.line ++ 32 ∷ cause_word error.cause) ++ 10 ∷ []
line_of (refusals.Report error) = codes "report " ++ (decimal error.line ++ 32 ∷ report_word error.cause) ++ 10 ∷ []

-- a stop, but for want of memory
abbrev pub script_stop_by : ScriptCause → Stop → Stop
script_stop_by script_causes.Memory stop = stops.Memory
script_stop_by cause stop = stop

abbrev pub report_stop_by : ReportCause → Stop → Stop
report_stop_by report_causes.Memory stop = stops.Memory
report_stop_by cause stop = stop

-- what a script's fault stops the drawing with
abbrev pub script_stop : ScriptError → Stop
script_stop error = script_stop_by error.cause (stops.Refused (refusals.Script error))

-- what a report's fault stops the drawing with
abbrev pub report_stop : ReportError → Stop
report_stop error = report_stop_by error.cause (stops.Refused (refusals.Report error))

-- the fact holds of the refusal, where it isn't for want of memory
abbrev pub OnRefusal : (Refusal → Type 0) → Stop → Type 0
OnRefusal P stops.Memory = Unit {0}
OnRefusal P (stops.Refused refusal) = P refusal

-- ---- what is read

-- the text of a script is read, and these are the graphs of its generations
pub record Makes (text : List ℕ) (graphs : List Graph) : Type 0 where
  pub script : Script
  pub is_script : script_of text ≡ Ok script
  pub are_graphs : generations_of script ≡ Ok graphs

-- the text of a script is refused, or it is read and this is the first of its edits that is refused
abbrev pub IsScriptRefusal : List ℕ → ScriptError → Type 0
IsScriptRefusal text error =
    (script_of text ≡ Err error)
    ⊎ ((script : Script) × (script_of text ≡ Ok script) × ((refusal : ℕ × Cause) × (generations_of script ≡ Err refusal) × (error ≡ error_of refusal)))

-- the script of this name makes these graphs
pub record MakesAt (files : Option Files) (name : List ℕ) (graphs : List Graph) : Type 0 where
  pub bytes : List ℕ
  pub loaded : FirstBytes files name (largest_script + 1) bytes
  pub makes : Makes bytes graphs

-- the text of a script is read, and this is its plan
pub record MakesPlan (text : List ℕ) (plan : Planned) : Type 0 where
  pub is_script : script_of text ≡ Ok plan.script
  pub are_graphs : generations_of plan.script ≡ Ok plan.graphs

-- the script of this name makes this plan
pub record MakesPlanAt (files : Option Files) (name : List ℕ) (plan : Planned) : Type 0 where
  pub bytes : List ℕ
  pub loaded : FirstBytes files name (largest_script + 1) bytes
  pub makes : MakesPlan bytes plan

-- the script of this name is refused
pub record IsScriptFault (files : Option Files) (name : List ℕ) (error : ScriptError) : Type 0 where
  pub bytes : List ℕ
  pub loaded : FirstBytes files name (largest_script + 1) bytes
  pub refused : IsScriptRefusal bytes error
  pub no_memory : error.cause ≢ script_causes.Memory

-- the most bytes of a report; a lawful one has fewer
abbrev pub largest_report : ℕ
largest_report = 16777216

-- this is the report of that name
pub record IsReportAt (files : Option Files) (name : List ℕ) (report : Report) : Type 0 where
  pub bytes : List ℕ
  pub loaded : FirstBytes files name (largest_report + 1) bytes
  pub is_report : report_of bytes ≡ Ok report

-- the report of this name is refused
pub record IsReportFault (files : Option Files) (name : List ℕ) (error : ReportError) : Type 0 where
  pub bytes : List ℕ
  pub loaded : FirstBytes files name (largest_report + 1) bytes
  pub refused : report_of bytes ≡ Err error
  pub no_memory : error.cause ≢ report_causes.Memory

-- this is the report of that name, where one is named
abbrev pub IsReportOf : Option Files → Option (List ℕ) → Option Report → Type 0
IsReportOf files None None = Unit {0}
IsReportOf files (Some name) (Some report) = IsReportAt files name report
IsReportOf files None (Some report) = ⊥
IsReportOf files (Some name) None = ⊥

-- ---- a call

-- a call: its words, and of the folder its files where it tells them, and how often calls on a name have failed, before and after
pub record Call : Type 0 where
  pub words : List (List ℕ)
  pub files : Option Files
  pub faults : List ℕ → ℕ
  pub faults_after : List ℕ → ℕ

-- a call, by what its contract sees of it
abbrev pub called : List (Bor (List ℕ)) → Option Files → (faults faults_after : List ℕ → ℕ) → Call
called words files faults faults_after = record { words = texts words; files = files; faults = faults; faults_after = faults_after }

-- the text has the drawings of the generations that the words ask for: each names the nodes, the arcs, the interfaces and the neighbors of
-- that generation's graph, one line each, and at each neighbor prefixes that are routed over it
pub record IsDrawn (call : Call) (text : List ℕ) : Type 0 where
  pub ask : Ask
  pub is_ask : asked call.words ≡ Some ask
  pub plan : Planned
  pub made : MakesPlanAt call.files ask.script plan
  pub within : IsWithin (length plan.graphs) ask.which
  pub report : Option Report
  pub is_report : IsReportOf call.files ask.report report
  pub is_text : text ≡ drawings ask.which report plan

-- a load of this name failed
abbrev pub IsLoadFault : Call → List ℕ → Type 0
IsLoadFault call name = FailedLoad call.files name (call.faults name) (call.faults_after name)

-- the script makes graphs
abbrev pub IsMade : Call → Ask → Type 0
IsMade call ask = (graphs : List Graph) × MakesAt call.files ask.script graphs

-- the file is loaded next: the script; or the report, once the script made graphs
abbrev pub IsLoadedNext : Call → Ask → List ℕ → Type 0
IsLoadedNext call ask name = (name ≡ ask.script) ⊎ ((ask.report ≡ Some name) × IsMade call ask)

-- why nothing is drawn; what is looked at before was there and is accepted: the script, then the report, then the number of the generation
abbrev pub IsRefusedFor : Call → Ask → Refusal → Type 0
IsRefusedFor call ask refusals.Usage = ⊥
IsRefusedFor call ask (refusals.Generation count) =
    ((graphs : List Graph) × MakesAt call.files ask.script graphs × (length graphs ≡ count) × (IsWithin count ask.which → ⊥))
    × ((report : Option Report) × IsReportOf call.files ask.report report)
IsRefusedFor call ask (refusals.Load name) = IsLoadedNext call ask name.now × IsLoadFault call name.now
IsRefusedFor call ask (refusals.Script error) = IsScriptFault call.files ask.script error
IsRefusedFor call ask (refusals.Report error) = IsMade call ask × ((name : List ℕ) × (ask.report ≡ Some name) × IsReportFault call.files name error)

-- the words ask for no drawing; or they ask for one that is refused
abbrev pub IsRefused : Call → Refusal → Type 0
IsRefused call refusals.Usage = asked call.words ≡ None
IsRefused call refusal = (ask : Ask) × (asked call.words ≡ Some ask) × IsRefusedFor call ask refusal

-- where the sink tells its bytes, these were added
abbrev pub Appends : Option (List ℕ) → Option (List ℕ) → List ℕ → Type 0
Appends before after bytes = after ≡ option_map (λ all. all ++ bytes) before

-- where the sink tells its bytes, a front of these was added that is not all of them
abbrev pub AppendsFront : Option (List ℕ) → Option (List ℕ) → List ℕ → Type 0
AppendsFront before after bytes = (n : ℕ) × (n < length bytes) × Appends before after (take n bytes)

-- what is due at the end of a call: a status, and a text to print
abbrev pub IsDue : Call → ℕ → List ℕ → Type 0
IsDue call status text =
    ((status ≡ 0) × IsDrawn call text) ⊎ ((refusal : Refusal) × (status ≡ status_of refusal) × IsRefused call refusal × (text ≡ line_of refusal))
