-- For `vgd_run`: what is due is what is to be expected.
use Rattle.std.proofs.Common.{◌≡◌, ℕ, ◌≤◌, List, refl, sym, ap, subst, ◌∙◌, inl, inr, arith}
use Rattle.std.specs.Prelude.{Option, Some, None, Result, Ok, Err, IfSome, IsSome}
use Rattle.std.proofs.lemmas.Bool.{false≢true}
use Rattle.std.proofs.lemmas.Option.{none-some, same_Some}
use Rattle.vg_model.specs.Graph.{Graph}
use Rattle.vg_outside.specs.Files.{Files, Rose, FailedLoad, HoldsBytes}
use Rattle.vg_capture.specs.declared.captures.Capture.{Capture}
use Rattle.vg_capture.specs.Savefile.{capture_of}
use Rattle.vg_script.specs.declared.scripts.Script.{Script}
use Rattle.vg_turns.specs.Turns.{turns as turns_in}
use Rattle.vg_words.specs.Command.{Run, Check}
use Rattle.vg_files.specs.declared.refusals.Refusal.{Refusal}
use Rattle.vg_files.specs.declared.refusals.Refusal.TheVariants as refusals
use Rattle.vg_top.specs.declared.dues.Due.{Due}
use Rattle.vg_load.specs.declared.summaries.Load.{Load}
use Rattle.vg_top.specs.Command.{check_asked, load_asked, run_asked}
use Rattle.vg_files.specs.Plan.{graphs_of}
use Rattle.vg_files.specs.Files.{FileBytes, OfTurns, IsLoadedNext}
use Rattle.vg_top.specs.Run.{Call, AreLoaded, AreAccepted, IsRefused, IsRunRefused, IsDue}
use Rattle.vg_files.specs.Refusals.{status_of, line_of}
use Rattle.vg_top.specs.Dues.{AreDone, IsDueOf}
use Rattle.vg_top.specs.Expected.{IsLoadable, IsExpected, HasNoFault, by_result, status_by}
use Rattle.vg_top.proofs.FileLemmas.{same_file, no_load}
use Rattle.vg_files.proofs.ScriptLemmas.{graphs_by_script, graphs_made}
use Rattle.vg_top.proofs.CheckLemmas.{yes_expected, no_expected, check_refused}
use Rattle.vg_top.proofs.WordLemmas.{run_or_load, run_or_check, load_or_check}

-- ---- files that the folder tells

same_turns : (files : Option Files) (name : Option (List ℕ)) (bytes others : List ℕ) → IsSome files → OfTurns (HoldsBytes files) name bytes → OfTurns (HoldsBytes files) name others
    → others ≡ bytes
same_turns files None bytes others told here there = there ∙ sym here
same_turns files (Some name) bytes others told here there = same_file files name bytes others told here there

no_turns_load : (call : Call) (turns : Option (List ℕ)) (name bytes : List ℕ) → IsSome call.files → OfTurns (HoldsBytes call.files) turns bytes → IfSome turns (HasNoFault call)
    → turns ≡ Some name → FailedLoad call.files name (call.faults name) (call.faults_after name) → ⊥
no_turns_load call None name bytes told here none e h = none-some name e
no_turns_load call (Some other) name bytes told here none e h =
    no_load call other bytes told here none (subst (λ n. FailedLoad call.files n (call.faults n) (call.faults_after n)) (sym (same_Some _ _ e)) h)

-- a load doesn't fail of files that can be loaded
loads : (call : Call) (run : Run) (bytes : FileBytes) (name : List ℕ) → IsLoadable call run bytes
    → IsLoadedNext call.files run name → FailedLoad call.files name (call.faults name) (call.faults_after name) → ⊥
loads call run bytes name l (inl e) h =
    no_load call run.capture bytes.capture l.told l.loaded.files.capture l.no_capture_fault (subst (λ n. FailedLoad call.files n (call.faults n) (call.faults_after n)) e h)
loads call run bytes name l (inr (inl e)) h =
    no_load call run.script bytes.script l.told l.loaded.files.script l.no_script_fault (subst (λ n. FailedLoad call.files n (call.faults n) (call.faults_after n)) e.0 h)
loads call run bytes name l (inr (inr e)) h = no_turns_load call run.turns name bytes.turns l.told l.loaded.files.turns l.no_turns_fault e.0 h

-- the run of the words is one, and so are the bytes of its files
same_run : (call : Call) (run other : Run) → run_asked call.words ≡ Some run → run_asked call.words ≡ Some other → other ≡ run
same_run call run other e f = same_Some _ _ (sym f ∙ e)

-- what was loaded is what can be loaded
record IsSame (run other : Run) (bytes others : FileBytes) : Type 0 where
  run_is : other ≡ run
  capture : others.capture ≡ bytes.capture
  script : others.script ≡ bytes.script
  turns : others.turns ≡ bytes.turns

same_loaded : (call : Call) (run other : Run) (bytes others : FileBytes) → IsLoadable call run bytes → AreLoaded call other others → IsSame run other bytes others
same_loaded call run other bytes others l a =
    let same : other ≡ run = same_run call run other l.loaded.is_command a.is_command in
    let moved : AreLoaded call run others = subst (λ (r : Run). AreLoaded call r others) same a in
    record {
      run_is = same;
      capture = same_file call.files run.capture bytes.capture others.capture l.told l.loaded.files.capture moved.files.capture;
      script = same_file call.files run.script bytes.script others.script l.told l.loaded.files.script moved.files.script;
      turns = same_turns call.files run.turns bytes.turns others.turns l.told l.loaded.files.turns moved.files.turns;
    }

-- ---- what they bring

at_ok : {X E : Type 0} (r : Result X E) (x : X) (m n : ℕ) → r ≡ Ok x → by_result r m n ≡ n
at_ok r x m n e = ap (λ r. by_result r m n) e

at_error : {X E : Type 0} (r : Result X E) (x : E) (m n : ℕ) → r ≡ Err x → by_result r m n ≡ m
at_error r x m n e = ap (λ r. by_result r m n) e

-- what was accepted made these graphs
accepted_graphs : (call : Call) (run : Run) (capture : Capture) (script : Script) (graphs : List Graph) (a : AreAccepted call run capture script graphs) → graphs_of a.bytes.script ≡ Ok graphs
accepted_graphs call run capture script graphs a = graphs_by_script a.bytes.script script a.is_script ∙ graphs_made script graphs a.are_graphs

module _ (call : Call) (run : Run) (bytes : FileBytes) (l : IsLoadable call run bytes) where
  -- what is accepted brings 0
  brings_none : (other : Run) (capture : Capture) (script : Script) (graphs : List Graph) → AreAccepted call other capture script graphs → status_by run bytes ≡ 0
  brings_none other capture script graphs a =
      let same = same_loaded call run other bytes a.bytes l a.loaded in
      let is_capture : capture_of bytes.capture ≡ Ok capture = ap capture_of (sym same.capture) ∙ a.is_capture in
      let are_graphs : graphs_of bytes.script ≡ Ok graphs = ap graphs_of (sym same.script) ∙ accepted_graphs call other capture script graphs a in
      let are_turns : turns_in run.workers bytes.turns ≡ Ok a.steps =
      ap (λ (r : Run). turns_in r.workers bytes.turns) (sym same.run_is) ∙ ap (turns_in other.workers) (sym same.turns) ∙ a.are_turns in
      at_ok (capture_of bytes.capture) capture 4 _ is_capture ∙ at_ok (graphs_of bytes.script) graphs 5 _ are_graphs ∙ at_ok (turns_in run.workers bytes.turns) a.steps 8 0 are_turns

  -- where files can be loaded, a refusal has the status to be expected
  refused_expected : (status : ℕ) (refusal : Refusal) → status ≡ status_by run bytes → (status ≡ 0 → HasNoFault call run.tx) → IsRunRefused call refusal → status_of refusal ≡ status
  refused_expected status refusals.Usage e none r = absurd (none-some run (sym r.0.0 ∙ l.loaded.is_command))
  refused_expected status (refusals.Load name) e none r =
      let same : r.0.run ≡ run = same_run call run r.0.run l.loaded.is_command r.0.is_command in
      absurd (loads call run bytes name.now l (subst (λ (q : Run). IsLoadedNext call.files q name.now) same r.0.named) r.0.fault)
  refused_expected status (refusals.Capture fault) e none r =
      let same = same_loaded call run r.0.run bytes r.0.bytes l r.0.loaded in
      sym (e ∙ at_error (capture_of bytes.capture) fault 4 _ (ap capture_of (sym same.capture) ∙ r.0.is_fault))
  refused_expected status (refusals.Script error) e none r =
      let same = same_loaded call run r.0.run bytes r.0.bytes l r.0.loaded in
      sym (e ∙ at_ok (capture_of bytes.capture) r.0.capture 4 _ (ap capture_of (sym same.capture) ∙ r.0.is_capture)
      ∙ at_error (graphs_of bytes.script) error 5 _ (ap graphs_of (sym same.script) ∙ r.0.is_fault))
  refused_expected status (refusals.Turns place) e none r =
      let same = same_loaded call run r.0.run bytes r.0.bytes l r.0.loaded in
      let is_fault : turns_in run.workers bytes.turns ≡ Err place =
      ap (λ (q : Run). turns_in q.workers bytes.turns) (sym same.run_is) ∙ ap (turns_in r.0.run.workers) (sym same.turns) ∙ r.0.is_fault in
      sym (e ∙ at_ok (capture_of bytes.capture) r.0.capture 4 _ (ap capture_of (sym same.capture) ∙ r.0.is_capture)
      ∙ at_ok (graphs_of bytes.script) r.0.graphs 5 _ (ap graphs_of (sym same.script) ∙ r.0.are_graphs)
      ∙ at_error (turns_in run.workers bytes.turns) place 8 0 is_fault)
  refused_expected status (refusals.Save name) e none r =
      let same : r.run ≡ run = same_run call run r.run l.loaded.is_command r.accepted.loaded.is_command in
      let zero : status ≡ 0 = e ∙ brings_none r.run r.capture r.script r.graphs r.accepted in
      absurd (none zero (subst (λ (n : List ℕ). Rose (call.faults n) (call.faults_after n)) (r.named ∙ ap (λ (q : Run). q.tx) same) r.fault))
  refused_expected status (refusals.Verdict verdict) e none r = absurd r

-- a run is due only where the words ask for one
refused_usage : (call : Call) (refusal : Refusal) → run_asked call.words ≡ None → IsRunRefused call refusal → 2 ≡ status_of refusal
refused_usage call refusals.Usage none r = refl
refused_usage call (refusals.Load name) none r = absurd (none-some r.0.run (sym none ∙ r.0.is_command))
refused_usage call (refusals.Capture fault) none r = absurd (none-some r.0.run (sym none ∙ r.0.loaded.is_command))
refused_usage call (refusals.Script error) none r = absurd (none-some r.0.run (sym none ∙ r.0.loaded.is_command))
refused_usage call (refusals.Turns place) none r = absurd (none-some r.0.run (sym none ∙ r.0.loaded.is_command))
refused_usage call (refusals.Save name) none r = absurd (none-some r.run (sym none ∙ r.accepted.loaded.is_command))
refused_usage call (refusals.Verdict verdict) none r = absurd r

-- a load is done only where the words ask for one
refused_load : (call : Call) (refusal : Refusal) (load : Load) → load_asked call.words ≡ Some load → IsRunRefused call refusal → ⊥
refused_load call refusals.Usage load e r = none-some load (sym r.0.1 ∙ e)
refused_load call (refusals.Load name) load e r = run_or_load call.words r.0.run load r.0.is_command e
refused_load call (refusals.Capture fault) load e r = run_or_load call.words r.0.run load r.0.loaded.is_command e
refused_load call (refusals.Script error) load e r = run_or_load call.words r.0.run load r.0.loaded.is_command e
refused_load call (refusals.Turns place) load e r = run_or_load call.words r.0.run load r.0.loaded.is_command e
refused_load call (refusals.Save name) load e r = run_or_load call.words r.run load r.accepted.loaded.is_command e
refused_load call (refusals.Verdict verdict) load e r = absurd r

-- a run is refused only where the words ask for no check
refused_check : (call : Call) (refusal : Refusal) (check : Check) → check_asked call.words ≡ Some check → IsRunRefused call refusal → ⊥
refused_check call refusals.Usage check e r = none-some check (sym r.0.2 ∙ e)
refused_check call (refusals.Load name) check e r = run_or_check call.words r.0.run check r.0.is_command e
refused_check call (refusals.Capture fault) check e r = run_or_check call.words r.0.run check r.0.loaded.is_command e
refused_check call (refusals.Script error) check e r = run_or_check call.words r.0.run check r.0.loaded.is_command e
refused_check call (refusals.Turns place) check e r = run_or_check call.words r.0.run check r.0.loaded.is_command e
refused_check call (refusals.Save name) check e r = run_or_check call.words r.run check r.accepted.loaded.is_command e
refused_check call (refusals.Verdict verdict) check e r = absurd r

-- what is there
the_load : (o : Option Load) → IsSome o → (load : Load) × (o ≡ Some load)
the_load None some = absurd (false≢true some)
the_load (Some load) some = (load, refl)

-- what is due is what is to be expected
pub due_expected : (call : Call) (due : Due) (expected : ℕ) → IsDueOf call due → IsExpected call expected → due.status ≡ expected
due_expected call due expected (inl (zero_status, inl d)) (inl e) = absurd (none-some d.0.run (sym e.1.0 ∙ d.0.accepted.loaded.is_command))
due_expected call due expected (inl (zero_status, inl d)) (inr (inl e)) = zero_status ∙ sym e.0
due_expected call due expected (inl (zero_status, inl d)) (inr (inr (inl (run, bytes, l, e, none)))) =
    zero_status ∙ sym (e ∙ brings_none call run bytes l d.0.run d.0.capture d.0.script d.0.graphs d.0.accepted)
due_expected call due expected (inl (zero_status, inl d)) (inr (inr (inr (check, bytes, l, e)))) =
    absurd (run_or_check call.words d.0.run check d.0.accepted.loaded.is_command l.loaded.is_command)
due_expected call due expected (inl (zero_status, inr (n, inl d))) (inl e) = absurd (none-some d.load (sym e.1.1 ∙ d.is_command))
due_expected call due expected (inl (zero_status, inr (n, inl d))) (inr (inl e)) = zero_status ∙ sym e.0
due_expected call due expected (inl (zero_status, inr (n, inl d))) (inr (inr (inl (run, bytes, l, e, none)))) =
    absurd (run_or_load call.words run d.load l.loaded.is_command d.is_command)
due_expected call due expected (inl (zero_status, inr (n, inl d))) (inr (inr (inr (check, bytes, l, e)))) =
    absurd (load_or_check call.words d.load check d.is_command l.loaded.is_command)
due_expected call due expected (inl (zero_status, inr (n, inr d))) (inl e) = absurd (none-some d.check (sym e.1.2 ∙ d.loaded.is_command))
due_expected call due expected (inl (zero_status, inr (n, inr d))) (inr (inl e)) = zero_status ∙ sym e.0
due_expected call due expected (inl (zero_status, inr (n, inr d))) (inr (inr (inl (run, bytes, l, e, none)))) =
    absurd (run_or_check call.words run d.check l.loaded.is_command d.loaded.is_command)
due_expected call due expected (inl (zero_status, inr (n, inr d))) (inr (inr (inr (check, bytes, l, e)))) = zero_status ∙ sym (yes_expected call check bytes l due.text expected d e)
due_expected call due expected (inr (no_end, (refusal, s, t, inl r))) (inl e) = s ∙ sym (refused_usage call refusal e.1.0 r) ∙ sym e.0
due_expected call due expected (inr (no_end, (refusal, s, t, inl r))) (inr (inl e)) =
    let load = the_load (load_asked call.words) e.1 in
    absurd (refused_load call refusal load.0 load.1 r)
due_expected call due expected (inr (no_end, (refusal, s, t, inl r))) (inr (inr (inl (run, bytes, l, e, none)))) =
    s ∙ refused_expected call run bytes l expected refusal e none r
due_expected call due expected (inr (no_end, (refusal, s, t, inl r))) (inr (inr (inr (check, bytes, l, e)))) =
    absurd (refused_check call refusal check l.loaded.is_command r)
due_expected call due expected (inr (no_end, (refusal, s, t, inr r))) (inl e) =
    let asked = check_refused call refusal r in
    absurd (none-some asked.0 (sym e.1.2 ∙ asked.1))
due_expected call due expected (inr (no_end, (refusal, s, t, inr r))) (inr (inl e)) =
    let load = the_load (load_asked call.words) e.1 in
    let asked = check_refused call refusal r in
    absurd (load_or_check call.words load.0 asked.0 load.1 asked.1)
due_expected call due expected (inr (no_end, (refusal, s, t, inr r))) (inr (inr (inl (run, bytes, l, e, none)))) =
    let asked = check_refused call refusal r in
    absurd (run_or_check call.words run asked.0 l.loaded.is_command asked.1)
due_expected call due expected (inr (no_end, (refusal, s, t, inr r))) (inr (inr (inr (check, bytes, l, e)))) =
    s ∙ no_expected call check bytes l expected refusal e r

-- ---- by status

-- a refusal's status is at least 2
status_least : (refusal : Refusal) → 2 ≤ status_of refusal
status_least refusals.Usage = omega arith
status_least (refusals.Load name) = omega arith
status_least (refusals.Capture fault) = omega arith
status_least (refusals.Script error) = omega arith
status_least (refusals.Turns place) = omega arith
status_least (refusals.Save name) = omega arith
status_least (refusals.Verdict verdict) = omega arith

status_most : (refusal : Refusal) → status_of refusal ≤ 9
status_most refusals.Usage = omega arith
status_most (refusals.Load name) = omega arith
status_most (refusals.Capture fault) = omega arith
status_most (refusals.Script error) = omega arith
status_most (refusals.Turns place) = omega arith
status_most (refusals.Save name) = omega arith
status_most (refusals.Verdict verdict) = omega arith

pub known : (call : Call) (due : Due) → IsDueOf call due → due.status ≤ 9
known call due (inl d) = let none = d.0 in omega (arith, none)
known call due (inr r) = let most = status_most r.1.0 in let is = r.1.1 in omega (arith, most, is)

-- 0 is due where a run is done, and its end is there, or a load is
pub done_at : (call : Call) (due : Due) → IsDueOf call due → due.status ≡ 0 → AreDone call due.text due.ran
done_at call due (inl d) e = d.1
done_at call due (inr (no_end, (refusal, s, t, r))) e = let least = status_least refusal in absurd (omega (arith, least, s, e))

-- no end is there where a call is refused
pub ran_at : (call : Call) (due : Due) → IsDueOf call due → IsSome due.ran → due.status ≡ 0
ran_at call due (inl d) some = d.0
ran_at call due (inr r) some = absurd (false≢true (subst IsSome r.0 some))

-- another status is due where a run is refused
pub refused_at : (call : Call) (due : Due) → IsDueOf call due → 2 ≤ due.status
    → (refusal : Refusal) × (due.status ≡ status_of refusal) × (due.text ≡ line_of refusal) × IsRefused call refusal
refused_at call due (inl d) h = let none = d.0 in absurd (omega (arith, none, h))
refused_at call due (inr r) h = r.1

-- what is due, without the end of a run
pub due_is : (call : Call) (due : Due) → IsDueOf call due → IsDue call due.status due.text
due_is call due (inl (zero_status, inl d)) = inl (zero_status, inl d.0)
due_is call due (inl (zero_status, inr d)) = inl (zero_status, inr d.1)
due_is call due (inr r) = inr r.1
