-- For `run` and `check_due`: from what a run found to what is due.
use Rattle.std.proofs.Common.{◌≡◌, ℕ, ◌+◌, ◌<◌, ◌⊎◌, List, [], length, take, refl, sym, ap, subst, ◌∙◌, inl, inr, arith}
use Rattle.std.specs.Prelude.{Option, Some, None, IfSome, IsSomeAnd, Result, Ok, Err, IfOk, if◌then◌else◌}
use Rattle.std.specs.Borrow.{Bor}
use Rattle.std.proofs.lemmas.Bool.{cases_lt, lt-ltb}
use Rattle.std.proofs.lemmas.List.{take_all, length-take-le}
use Rattle.vg_model.specs.declared.Memory.{Memory}
use Rattle.vg_model.specs.Graph.{Graph}
use Rattle.vg_outside.specs.Files.{Files, file, Rose, FirstBytes, FailedLoad, HoldsBytes, SameElsewhere}
use Rattle.vg_capture.specs.Savefile.{capture_of, largest_file}
use Rattle.vg_capture.proofs.LimitLemmas.{capture_of-take}
use Rattle.vg_script.specs.declared.errors.ScriptError.{ScriptError}
use Rattle.vg_script.specs.declared.errors.ScriptCause.TheVariants as causes
use Rattle.vg_script.specs.declared.scripts.Script.{Script}
use Rattle.vg_script.specs.Lines.{lines}
use Rattle.vg_script.specs.Reading.{script_of, script_of_lines, refused, largest_script}
use Rattle.vg_turns.specs.Turns.{turns as turns_in, most_bytes}
use Rattle.vg_words.specs.Command.{Run}
use Rattle.vg_differs.specs.declared.finding.Finding.{Finding}
use Rattle.vg_files.specs.declared.reading.Input.{Input}
use Rattle.vg_files.specs.declared.refusals.Refusal.{Refusal}
use Rattle.vg_files.specs.declared.refusals.Refusal.TheVariants as refusals
use Rattle.vg_files.specs.declared.refusals.Stop.{Stop}
use Rattle.vg_files.specs.declared.refusals.Stop.TheVariants as stops
use Rattle.vg_top.specs.declared.dues.Due.{Due}
use Rattle.vg_top.specs.declared.run.Results.{Results}
use Rattle.vg_load.specs.declared.summaries.Load.{Load}
use Rattle.vg_load.specs.Summary.{summary}
use Rattle.vg_top.specs.Command.{load_asked, run_asked, options_of}
use Rattle.vg_files.specs.Plan.{graphs_by, graphs_of}
use Rattle.vg_files.specs.Files.{FileBytes, OfTurns, AreFirstBytes, IsLoadedNext}
use Rattle.vg_top.specs.Run.{Call, AreLoaded, AreAccepted, IsRefused, IsRunRefused}
use Rattle.vg_files.specs.Refusals.{status_of, line_of}
use Rattle.vg_files.specs.Stops.{OnRefusal, IsLoadOf, IsRefusedFor, AreRead}
use Rattle.vg_top.specs.Dues.{IsDueFor, IsDueOf, AreResultsOf}
use Rattle.vg_top.proofs.TurnLemmas.{same_turns}

-- what is there and has a property
some_and : {X : Type 0} (P : X → Type 0) (o : Option X) → IsSomeAnd o P → (x : X) × (o ≡ Some x) × P x
some_and P None h = absurd h
some_and P (Some x) h = (x, refl, h)

-- the whole of a file of which the first bytes were loaded; what was loaded, where the folder doesn't tell its files
pub whole_file : (files : Option Files) (name : List ℕ) (n : ℕ) (bytes : List ℕ) → FirstBytes files name n bytes
    → (all : List ℕ) × IfSome files (λ fs. file fs name ≡ Some all) × ((all ≡ bytes) ⊎ (bytes ≡ take n all))
whole_file None name n bytes h = (bytes, tt, inl refl)
whole_file (Some files) name n bytes h = let all = some_and (λ all. bytes ≡ take n all) (file files name) h in (all.0, all.1, inr all.2)

-- the first bytes of a capture decide
pub same_capture : (all bytes : List ℕ) → (all ≡ bytes) ⊎ (bytes ≡ take (largest_file + 1) all) → capture_of bytes ≡ capture_of all
same_capture all bytes (inl e) = ap capture_of (sym e)
same_capture all bytes (inr e) = ap capture_of e ∙ capture_of-take all (largest_file + 1) (omega arith)

-- a script that is too long is refused, whatever it says
long_script : (text : List ℕ) → largest_script < length text → script_of text ≡ refused 0 causes.TooLarge
long_script text h = ap (λ b. if b then refused 0 causes.TooLarge else script_of_lines (lines text)) (lt-ltb largest_script (length text) h)

-- scripts that are read alike make the same graphs
pub graphs_by_script : (one other : List ℕ) → script_of one ≡ script_of other → graphs_of one ≡ graphs_of other
graphs_by_script one other e = ap (λ (r : Result Script ScriptError). elim r as (λ _. Result (List Graph) ScriptError) [ Ok script ↦ graphs_by script | Err error ↦ Err error ]) e

-- the first bytes of a script decide
pub same_script : (all bytes : List ℕ) → (all ≡ bytes) ⊎ (bytes ≡ take (largest_script + 1) all) → script_of bytes ≡ script_of all
same_script all bytes (inl e) = ap script_of (sym e)
same_script all bytes (inr e) = ap script_of e ∙ elim (cases_lt (length all) (largest_script + 1)) [
  | inl short ↦ ap script_of (take_all (largest_script + 1) all (omega (arith, short)))
  | inr long ↦
      let cut : length (take (largest_script + 1) all) ≡ largest_script + 1 = length-take-le (largest_script + 1) all long in
      long_script (take (largest_script + 1) all) (omega (arith, cut)) ∙ sym (long_script all (omega (arith, long)))
]

-- the whole of a turns file; no bytes where there is none
whole_turns : (files : Option Files) (name : Option (List ℕ)) (bytes : List ℕ) → OfTurns (λ n. FirstBytes files n (most_bytes + 1)) name bytes
    → (all : List ℕ) × OfTurns (HoldsBytes files) name all × ((all ≡ bytes) ⊎ (bytes ≡ take (most_bytes + 1) all))
whole_turns files None bytes e = ([], refl, inl (sym e))
whole_turns files (Some name) bytes h = whole_file files name (most_bytes + 1) bytes h

-- the files of a call, whole, and what they say
pub record AreWhole (call : Call) (run : Run) (bytes : FileBytes) : Type 0 where
  pub whole : FileBytes
  pub loaded : AreLoaded call run whole
  pub capture : capture_of bytes.capture ≡ capture_of whole.capture
  pub script : script_of bytes.script ≡ script_of whole.script
  pub turns : (workers : ℕ) → turns_in workers bytes.turns ≡ turns_in workers whole.turns

pub loaded_whole : (call : Call) (run : Run) (bytes : FileBytes) → run_asked call.words ≡ Some run → AreFirstBytes call.files run bytes → AreWhole call run bytes
loaded_whole call run bytes is first =
    let c = whole_file call.files run.capture (largest_file + 1) bytes.capture first.capture in
    let s = whole_file call.files run.script (largest_script + 1) bytes.script first.script in
    let t = whole_turns call.files run.turns bytes.turns first.turns in
    record {
      whole = record { capture = c.0; script = s.0; turns = t.0 };
      loaded = record { is_command = is; files = record { capture = c.1; script = s.1; turns = t.1 } };
      capture = same_capture c.0 bytes.capture c.2;
      script = same_script s.0 bytes.script s.2;
      turns = λ workers. same_turns workers t.0 bytes.turns t.2;
    }

-- a file couldn't be loaded
pub refused_load : (call : Call) (run : Run) (refusal : Refusal) → run_asked call.words ≡ Some run
    → IsLoadOf (λ failed. IsLoadedNext call.files run failed × FailedLoad call.files failed (call.faults failed) (call.faults_after failed)) refusal
    → call.files_after ≡ call.files → IsRunRefused call refusal
refused_load call run refusals.Usage is h same = absurd h
refused_load call run (refusals.Load name) is h same = (record { run = run; is_command = is; named = h.0; fault = h.1 }, same)
refused_load call run (refusals.Capture fault) is h same = absurd h
refused_load call run (refusals.Script error) is h same = absurd h
refused_load call run (refusals.Turns place) is h same = absurd h
refused_load call run (refusals.Save name) is h same = absurd h
refused_load call run (refusals.Verdict verdict) is h same = absurd h

-- the capture, the script or the turns file is refused
pub refused_read : (call : Call) (run : Run) (bytes : FileBytes) (refusal : Refusal) → run_asked call.words ≡ Some run
    → AreFirstBytes call.files run bytes → IsRefusedFor run.workers bytes refusal → call.files_after ≡ call.files → IsRunRefused call refusal
refused_read call run bytes refusals.Usage is first h same = absurd h
refused_read call run bytes (refusals.Load name) is first h same = absurd h
refused_read call run bytes (refusals.Capture fault) is first h same =
    let w = loaded_whole call run bytes is first in
    (record { run = run; bytes = w.whole; loaded = w.loaded; is_fault = sym w.capture ∙ h.0; no_memory = h.1 }, same)
refused_read call run bytes (refusals.Script error) is first h same =
    let w = loaded_whole call run bytes is first in (
      record {
        run = run;
        bytes = w.whole;
        loaded = w.loaded;
        capture = h.0.0;
        is_capture = sym w.capture ∙ h.0.1;
        is_fault = sym (graphs_by_script bytes.script w.whole.script w.script) ∙ h.1;
      },
      same,
    )
refused_read call run bytes (refusals.Turns place) is first h same =
    let w = loaded_whole call run bytes is first in (
      record {
        run = run;
        bytes = w.whole;
        loaded = w.loaded;
        capture = h.0.0;
        is_capture = sym w.capture ∙ h.0.1;
        graphs = h.1.0;
        are_graphs = sym (graphs_by_script bytes.script w.whole.script w.script) ∙ h.1.1;
        is_fault = sym (w.turns run.workers) ∙ h.2;
      },
      same,
    )
refused_read call run bytes (refusals.Save name) is first h same = absurd h
refused_read call run bytes (refusals.Verdict verdict) is first h same = absurd h

-- all are accepted
pub accepted_read : (call : Call) (run : Run) (bytes : FileBytes) (input : Input) → run_asked call.words ≡ Some run
    → AreFirstBytes call.files run bytes → AreRead run.workers bytes input → AreAccepted call run input.capture input.plan.script input.plan.graphs
accepted_read call run bytes input is first h =
    let w = loaded_whole call run bytes is first in
    record {
      bytes = w.whole;
      loaded = w.loaded;
      is_capture = sym w.capture ∙ h.is_capture;
      is_script = sym w.script ∙ h.makes.is_script;
      are_graphs = h.makes.are_graphs;
      steps = h.steps;
      are_turns = sym (w.turns run.workers) ∙ h.are_turns;
    }

-- a refusal is due, with its status and its line
pub refused_due : (call : Call) (refusal : Refusal) (r : Result Due Memory) → IfOk r (λ due. due.status ≡ status_of refusal)
    → IfOk r (λ due. due.text ≡ line_of refusal) → IfOk r (λ due. due.ran ≡ None) → IsRefused call refusal → IfOk r (IsDueOf call)
refused_due call refusal (Ok due) s t n h = inr (n, (refusal, s, t, h))
refused_due call refusal (Err e) s t n h = tt

-- where a run stops, its refusal is due
pub stopped_due : (call : Call) (stop : Stop) (P : Refusal → Type 0) (r : Result Due Memory) → IfOk r (IsDueFor stop) → OnRefusal P stop
    → ((refusal : Refusal) → P refusal → IsRefused call refusal) → IfOk r (IsDueOf call)
stopped_due call stops.Memory P (Ok due) d h f = absurd d
stopped_due call (stops.Refused refusal) P (Ok due) d h f = inr (d.2, (refusal, d.0, d.1, f refusal h))
stopped_due call stop P (Err e) d h f = tt

-- nothing is found where a run stops, or where nothing is said to be
pub none_found : (P : Due → Finding → Type 0) (r : Result Due Memory) → IfOk r (λ due. due.found ≡ None) → IfOk r (λ due. IfSome due.found (P due))
none_found P (Ok due) none = subst (λ o. IfSome o (P due)) (sym none) tt
none_found P (Err e) none = tt

pub stopped_found : (P : Due → Finding → Type 0) (stop : Stop) (r : Result Due Memory) → IfOk r (IsDueFor stop) → IfOk r (λ due. IfSome due.found (P due))
stopped_found P stops.Memory (Ok due) d = absurd d
stopped_found P (stops.Refused refusal) (Ok due) d = none_found P (Ok due) d.3
stopped_found P stop (Err e) d = tt

-- a load is done
pub load_due : (call : Call) (load : Load) (r : Result Due Memory) → load_asked call.words ≡ Some load → IfOk r (λ due. due.status ≡ 0)
    → IfOk r (λ due. due.text ≡ summary load.seed load.packets load.workers) → IfOk r (λ due. due.ran ≡ None) → call.files_after ≡ call.files
    → IfOk r (IsDueOf call)
load_due call load (Ok due) is s t n same = inl (s, inr (n, inl (record { load = load; is_command = is; printed = t; same = same })))
load_due call load (Err e) is s t n same = tt

-- the savefile was saved
pub done_due : (call : Call) (run : Run) (input : Input) (results : Results) → AreAccepted call run input.capture input.plan.script input.plan.graphs
    → AreResultsOf input.plan (options_of run) run.hold input.capture results → HoldsBytes call.files_after run.tx results.tx → SameElsewhere call.files call.files_after run.tx
    → IsDueOf call (record { status = 0; text = results.report; ran = Some results.end; found = None })
done_due call run input results accepted are saved others = inl (
  refl,
  inl (
    record {
      run = run;
      capture = input.capture;
      script = input.plan.script;
      graphs = input.plan.graphs;
      report = are.report;
      tx = results.tx;
      accepted = accepted;
      output = are.output;
      lawful = are.lawful;
      printed = are.is_text;
      saved = saved;
      others = others;
      alike = are.alike;
      lossless = are.lossless;
    },
    (are.end, are.remarks),
  ),
)

-- the savefile couldn't be saved
pub save_fault : (call : Call) (run : Run) (name : Bor (List ℕ)) (input : Input) → name.now ≡ run.tx
    → AreAccepted call run input.capture input.plan.script input.plan.graphs
    → Rose (call.faults name.now) (call.faults_after name.now) → SameElsewhere call.files call.files_after name.now → IsRunRefused call (refusals.Save name)
save_fault call run name input named accepted fault others = record {
  run = run;
  capture = input.capture;
  script = input.plan.script;
  graphs = input.plan.graphs;
  accepted = accepted;
  named = named;
  fault = fault;
  others = others;
}
