-- For the clauses `stop` of `load_file` and those above it: why a step stops, and so the call.
use Rattle.std.proofs.Common.{◌≡◌, ℕ, ◌+◌, ◌≤◌, ◌<◌, List, length, get_or, take, refl, sym, ap, subst, ◌∙◌, inl, inr, arith, Bor}
use Rattle.std.specs.Prelude.{◌≢◌, ◌⊎◌, Option, Some, option_map, Result, Ok, Err}
use Rattle.std.specs.List.{AllZip}
use Rattle.std.proofs.lemmas.List.{take-map}
use Rattle.std.proofs.lemmas.Option.{slice_get-get_or, slice_get-map}
use Rattle.vg_capture.specs.declared.captures.Capture.{Capture}
use Rattle.vg_capture.specs.declared.errors.CaptureError.{CaptureError}
use Rattle.vg_capture.specs.declared.errors.CaptureError.TheVariants as captures
use Rattle.vg_capture.specs.Savefile.{capture_of, largest_file, IsUnlessMemory}
use Rattle.vg_outside.specs.Files.{Files, FirstBytes}
use Rattle.vg_report.specs.declared.errors.ReportCause.{ReportCause}
use Rattle.vg_report.specs.declared.errors.ReportCause.TheVariants as causes_of_reports
use Rattle.vg_report.specs.declared.errors.ReportError.{ReportError}
use Rattle.vg_report.specs.Reading.{report_of, IsRefusal}
use Rattle.vg_plan.specs.Refusals.{IsRefusalOf}
use Rattle.vg_script.specs.declared.errors.ScriptCause.{ScriptCause}
use Rattle.vg_script.specs.declared.errors.ScriptCause.TheVariants as script_causes
use Rattle.vg_script.specs.declared.errors.ScriptError.{ScriptError}
use Rattle.vg_script.specs.declared.scripts.Script.{Script}
use Rattle.vg_script.specs.Generations.{generations_of}
use Rattle.vg_script.specs.Reading.{script_of, refused, largest_script}
use Rattle.vg_script.specs.Reading as scripts
use Rattle.vg_diff.specs.declared.input.Input.{Input}
use Rattle.vg_diff.specs.declared.refusals.Refusal.{Refusal}
use Rattle.vg_diff.specs.declared.refusals.Refusal.TheVariants as refusals
use Rattle.vg_diff.specs.declared.refusals.Stop.{Stop}
use Rattle.vg_diff.specs.declared.refusals.Stop.TheVariants as stops
use Rattle.vg_diff.specs.Asked.{Text, texts, Ask}
use Rattle.vg_diff.specs.Files.{IsCaptureAt, IsReportAt, IsInput, IsNextOther, IsTxRead, IsRunRead, largest_report}
use Rattle.vg_diff.specs.Stops.{OnRefusal, Causes, IsCause, Faults, faults_of, IsLoadFault, load_causes, capture_causes, named_causes, others_causes, report_causes, account_causes, input_causes}
use Rattle.vg_diff.specs.Stops.{IsOfScript, IsRouterCause, capture_stop, report_stop, script_stop, script_stop_by, IsFirstStop}

-- ---- weaker causes

-- each cause of the one kind is one of the other
pub record AreWeaker (one other : Causes) : Type 0 where
  pub load : (name : Text) → one.load name → other.load name
  pub capture : (error : CaptureError) → one.capture error → other.capture error
  pub report : (error : ReportError) → one.report error → other.report error
  pub packets : one.packets → other.packets

pub weaker_stop : (one other : Causes) → AreWeaker one other → (stop : Stop) → OnRefusal (IsCause one) stop → OnRefusal (IsCause other) stop
weaker_stop one other are stops.Memory h = tt
weaker_stop one other are (stops.Refused refusals.Usage) h = h
weaker_stop one other are (stops.Refused (refusals.Load name)) h = are.load name.now h
weaker_stop one other are (stops.Refused (refusals.Capture error)) h = are.capture error h
weaker_stop one other are (stops.Refused (refusals.Report error)) h = are.report error h
weaker_stop one other are (stops.Refused (refusals.Script error)) h = h
weaker_stop one other are (stops.Refused refusals.Packets) h = are.packets h

-- ---- a report

-- a report that is read
by_cause : (text : List ℕ) (line : ℕ) (cause : ReportCause) → IsRefusal (report_of text) line cause
    → OnRefusal (IsCause (report_causes text)) (report_stop (record { line = line; cause = cause }))
by_cause text line causes_of_reports.Memory h = tt
by_cause text line causes_of_reports.Form h = h
by_cause text line causes_of_reports.Number h = h
by_cause text line causes_of_reports.Unknown h = h
by_cause text line causes_of_reports.Order h = h

pub report_stops : (text : List ℕ) (error : ReportError) → IsRefusal (report_of text) error.line error.cause
    → OnRefusal (IsCause (report_causes text)) (report_stop error)
report_stops text error h = by_cause text error.line error.cause h

pub report_of_account : (input : Input) → AreWeaker (report_causes input.text) (account_causes input)
report_of_account input = record {
  load = λ failed h. h;
  capture = λ error h. h;
  report = λ error h. h;
  packets = λ h. absurd h;
}

-- ---- a script

module _ (files : Option Files) (faults : Faults) (script : Text) where
  -- a script that is loaded, and one that is read
  pub load_of_script : (stop : Stop) → OnRefusal (IsCause (load_causes files faults script)) stop
      → OnRefusal (IsRouterCause files faults script) stop
  load_of_script stops.Memory h = tt
  load_of_script (stops.Refused refusals.Usage) h = h
  load_of_script (stops.Refused (refusals.Load name)) h = (h.0, h.1)
  load_of_script (stops.Refused (refusals.Capture error)) h = h
  load_of_script (stops.Refused (refusals.Report error)) h = h
  load_of_script (stops.Refused (refusals.Script error)) h = absurd h
  load_of_script (stops.Refused refusals.Packets) h = h

  pub text_of_script : (text : List ℕ) (refusal : Refusal) → FirstBytes files script (largest_script + 1) text → IsOfScript text refusal
      → IsRouterCause files faults script refusal
  text_of_script text refusals.Usage loaded h = h
  text_of_script text (refusals.Load name) loaded h = absurd h
  text_of_script text (refusals.Capture error) loaded h = h
  text_of_script text (refusals.Report error) loaded h = h
  text_of_script text (refusals.Script error) loaded h = record { bytes = text; loaded = loaded; refused = h.0; no_memory = h.1 }
  text_of_script text refusals.Packets loaded h = h

-- a stop for want of memory, and one for another cause
stop_memory : (P : Refusal → Type 0) (cause : ScriptCause) (stop : Stop) → cause ≡ script_causes.Memory → OnRefusal P (script_stop_by cause stop)
stop_memory P cause stop e = subst (λ c. OnRefusal P (script_stop_by c stop)) (sym e) tt

stop_other : (P : Refusal → Type 0) (cause : ScriptCause) (stop : Stop) → OnRefusal P stop → OnRefusal P (script_stop_by cause stop)
stop_other P script_causes.Memory stop h = tt
stop_other P cause stop h = h

-- a cause is want of memory, or it isn't
not_memory : (cause : ScriptCause) → (cause ≡ script_causes.Memory) ⊎ (cause ≢ script_causes.Memory)
not_memory script_causes.Memory = inl refl
not_memory cause = inr (λ e. cc)

-- the refusal of a text is its own, where it isn't for want of memory
refused_text : (this : Result Script ScriptError) (line : ℕ) (cause : ScriptCause) → cause ≢ script_causes.Memory → scripts.IsRefusal this line cause
    → this ≡ refused line cause
refused_text this line script_causes.Memory other h = absurd (other refl)
refused_text this line cause other h = h

-- what a script that is no text of one stops a call with
pub script_stops : (text : List ℕ) (error : ScriptError) → scripts.IsRefusal (script_of text) error.line error.cause
    → OnRefusal (IsOfScript text) (script_stop error)
script_stops text error h = elim (not_memory error.cause) [
  | inl memory ↦ stop_memory (IsOfScript text) error.cause (stops.Refused (refusals.Script error)) memory
  | inr other ↦
      stop_other (IsOfScript text) error.cause (stops.Refused (refusals.Script error))
      (inl (refused_text (script_of text) error.line error.cause other h), other)
]

-- what a script of which an edit is refused stops a call with
pub edit_stops : (text : List ℕ) (script : Script) (error : ScriptError) → script_of text ≡ Ok script → IsRefusalOf (generations_of script) error
    → OnRefusal (IsOfScript text) (script_stop error)
edit_stops text script error is (inl memory) =
    stop_memory (IsOfScript text) error.cause (stops.Refused (refusals.Script error)) (ap (λ (e : ScriptError). e.cause) memory)
edit_stops text script error is (inr refusal) = elim (not_memory error.cause) [
  | inl memory ↦ stop_memory (IsOfScript text) error.cause (stops.Refused (refusals.Script error)) memory
  | inr other ↦
      stop_other (IsOfScript text) error.cause (stops.Refused (refusals.Script error)) (inr (script, is, (refusal.0, refusal.1, refusal.2)), other)
]

-- ---- one savefile

module _ (files : Option Files) (faults : Faults) where
  -- a savefile that is loaded
  pub load_of_capture : (name : Text) → AreWeaker (load_causes files faults name) (capture_causes files faults name)
  load_of_capture name = record {
    load = λ failed h. h;
    capture = λ error h. absurd h;
    report = λ error h. absurd h;
    packets = λ h. absurd h;
  }

  -- a savefile that is read
  pub capture_stops : (name bytes : List ℕ) (error : CaptureError) → FirstBytes files name (largest_file + 1) bytes
      → IsUnlessMemory (capture_of bytes) (Err error) → OnRefusal (IsCause (capture_causes files faults name)) (capture_stop error)
  capture_stops name bytes captures.Memory loaded h = tt
  capture_stops name bytes captures.TooLarge loaded h = record { bytes = bytes; loaded = loaded; refused = h }
  capture_stops name bytes captures.NotPcap loaded h = record { bytes = bytes; loaded = loaded; refused = h }
  capture_stops name bytes (captures.Version major minor) loaded h = record { bytes = bytes; loaded = loaded; refused = h }
  capture_stops name bytes (captures.LinkType kind) loaded h = record { bytes = bytes; loaded = loaded; refused = h }
  capture_stops name bytes (captures.Truncated offset) loaded h = record { bytes = bytes; loaded = loaded; refused = h }
  capture_stops name bytes (captures.RecordTooLong offset) loaded h = record { bytes = bytes; loaded = loaded; refused = h }
  capture_stops name bytes (captures.TooManyPackets offset) loaded h = record { bytes = bytes; loaded = loaded; refused = h }

  -- a savefile that is named
  pub named_capture : (name : Text) (named : Option Text) → named ≡ Some name
      → AreWeaker (capture_causes files faults name) (named_causes files faults named)
  named_capture name named is = record {
    load = λ failed h. (is ∙ ap (λ (n : Text). Some n) (sym h.0), h.1);
    capture = λ error h. (name, is, h);
    report = λ error h. absurd h;
    packets = λ h. absurd h;
  }

-- ---- the next of several

module _ (files : Option Files) (names : List (Bor (List ℕ))) where
  -- the next of them
  pub next_other : (i : ℕ) (d : Bor (List ℕ)) (captures : List Capture) → i < length names
      → AllZip (IsCaptureAt files) (texts (take i names)) captures → IsNextOther files (texts names) (get_or names i d).now
  next_other i d captures below before = record {
    place = i;
    is = slice_get-map (λ (name : Bor (List ℕ)). name.now) names i ∙ ap (option_map (λ (name : Bor (List ℕ)). name.now)) (slice_get-get_or names i d below);
    captures = captures;
    before = subst (λ ns. AllZip (IsCaptureAt files) ns captures) (sym (take-map (λ (name : Bor (List ℕ)). name.now) i names)) before;
  }

-- ---- one file behind others, which don't lower the counts of faults

module _ (files : Option Files) (first : List ℕ → ℕ) (faults : Faults) (less : (other : List ℕ) → first other ≤ faults.before other) where
  -- a load that failed, by what was there before the loads before it
  pub failed_before : (name : Text) → IsLoadFault files faults name → IsLoadFault files (faults_of first faults.after) name
  failed_before name (inl rose) = let at = less name in inl (omega (arith, at, rose))
  failed_before name (inr absent) = inr absent

  -- one of several savefiles
  pub other_capture : (names : List Text) (name : Text) → IsNextOther files names name
      → AreWeaker (capture_causes files faults name) (others_causes files (faults_of first faults.after) names)
  other_capture names name next = record {
    load = λ failed h. (subst (IsNextOther files names) (sym h.0) next, failed_before failed h.1);
    capture = λ error h. (name, next, h);
    report = λ error h. absurd h;
    packets = λ h. absurd h;
  }

  -- the load of the report
  pub load_stop : (ask : Ask) → IsTxRead files ask
      → AreWeaker (load_causes files faults ask.report) (input_causes files (faults_of first faults.after) ask)
  load_stop ask tx = record {
    load = λ failed h. (inr (h.0, tx), failed_before failed h.1);
    capture = λ error h. absurd h;
    report = λ error h. absurd h;
    packets = λ h. absurd h;
  }

  -- the run's capture
  pub capture_stop_behind : (ask : Ask) → IsTxRead files ask × IsReportAt files ask.report → AreWeaker (named_causes files faults ask.capture) (input_causes files (faults_of first faults.after) ask)
  capture_stop_behind ask (tx, report) = record {
    load = λ failed h. (inl (inr (inl (h.0, tx, report))), failed_before failed h.1);
    capture = λ error h. (h.0, inr (inl (h.1, tx, report)), h.2);
    report = λ error h. absurd h;
    packets = λ h. absurd h;
  }

  -- the other router's savefiles
  pub others_stop_behind : (ask : Ask) → IsRunRead files ask → AreWeaker (others_causes files faults ask.others) (input_causes files (faults_of first faults.after) ask)
  others_stop_behind ask run = record {
    load = λ failed h. (inl (inr (inr (run, h.0))), failed_before failed h.1);
    capture = λ error h. (h.0, inr (inr (run, h.1)), h.2);
    report = λ error h. absurd h;
    packets = λ h. absurd h;
  }

-- ---- all files that are asked for

module _ (files : Option Files) (faults : Faults) (ask : Ask) where
  -- the run's savefile
  pub tx_stop : AreWeaker (capture_causes files faults ask.tx) (input_causes files faults ask)
  tx_stop = record {
    load = λ failed h. (inl (inl h.0), h.1);
    capture = λ error h. (ask.tx, inl refl, h);
    report = λ error h. absurd h;
    packets = λ h. absurd h;
  }

  -- the text of the report
  pub text_stop : (text : List ℕ) → FirstBytes files ask.report (largest_report + 1) text → IsTxRead files ask
      → AreWeaker (report_causes text) (input_causes files faults ask)
  text_stop text loaded tx = record {
    load = λ failed h. absurd h;
    capture = λ error h. absurd h;
    report = λ error h. (tx, record { bytes = text; loaded = loaded; refused = h });
    packets = λ h. absurd h;
  }

  -- the report of what was loaded
  pub account_stop : (input : Input) → IsInput files ask input → AreWeaker (account_causes input) (input_causes files faults ask)
  account_stop input is = record {
    load = λ failed h. absurd h;
    capture = λ error h. absurd h;
    report = λ error h. ((input.tx, is.tx_is), record { bytes = input.text; loaded = is.text_is; refused = h });
    packets = λ h. (input, is, h);
  }

  -- a stop by a file behind the report, or by the report
  pub behind_report : (text : List ℕ) (behind stop : Stop)
      → IsFirstStop text behind stop → FirstBytes files ask.report (largest_report + 1) text × IsTxRead files ask
      → (IsReportAt files ask.report → OnRefusal (IsCause (input_causes files faults ask)) behind) → OnRefusal (IsCause (input_causes files faults ask)) stop
  behind_report text behind stop (inl read) (loaded, tx) h =
      subst (OnRefusal (IsCause (input_causes files faults ask))) (sym read.1) (h (record { bytes = text; loaded = loaded; report = read.0.0; is_report = read.0.1 }))
  behind_report text behind stop (inr h) (loaded, tx) other =
      weaker_stop (report_causes text) (input_causes files faults ask) (text_stop text loaded tx) stop h
