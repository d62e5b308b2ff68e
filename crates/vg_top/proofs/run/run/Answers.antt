use Rattle.std.proofs.Common.{◌≡◌, ◌∙◌, ap, subst, sym, inl, inr, refl}
use Rattle.std.specs.Prelude.{Ok, Some, option_and_then, option_map, unwrap_or, []}
use Rattle.vg_outside.specs.Files.{FailedLoad, HoldsBytes, SameElsewhere, Rose}
use Rattle.vg_dispatch.specs.Progress.{AreInRange}
use Rattle.vg_engine.specs.Orders.{AreTurns}
use Rattle.vg_words.specs.Command.{Run, texts}
use Rattle.vg_words.specs.Shown.{run_shown, shown}
use Rattle.vg_words.proofs.RangeLemmas.{loads-in_range, runs-in_range}
use Rattle.vg_files.specs.declared.refusals.Refusal.TheVariants as refusals
use Rattle.vg_top.specs.Command.{check_in, load_in, run_asked, run_in}
use Rattle.vg_top.specs.declared.dues.Due.{Due}
use Rattle.vg_top.specs.Dues.{AreResultsOf}
use Rattle.vg_top.specs.Found.{IsFoundOf}
use Rattle.vg_files.specs.Files.{IsLoadedNext, bytes_of}
use Rattle.vg_top.specs.Run.{Call}
use Rattle.vg_files.specs.Stops.{IsLoadOf, IsRefusedFor}
use Rattle.vg_files.proofs.PrintLemmas.{rose_later}
use Rattle.vg_top.proofs.RunLemmas.{refused_due, refused_load, refused_read, accepted_read, none_found, stopped_due, stopped_found, done_due, load_due, save_fault}
use Rattle.vg_top.proofs.TurnLemmas.{are_turns}
use Rattle.vg_top.proofs.WordLemmas.{in_range, load_in_range}
use Rattle.vg_top.proofs.run.run.Goals as goal

pub returns-in-Err-clause-due : goal.returns-in-Err-clause-due
returns-in-Err-clause-due g c =
    let call : Call = record {
      words = texts c.args.words.now;
      files = g.F.Folder.contents c.args.folder.now;
      files_after = g.F.Folder.contents c.load_files.new.folder;
      faults = g.F.Folder.faults c.args.folder.now;
      faults_after = g.F.Folder.faults c.load_files.new.folder;
    } in
    let run : Run = run_shown c.in-Some-Run.run' in
    let is : run_asked (texts c.args.words.now) ≡ Some run = ap (option_and_then run_in) (sym c.in_ok-run.ensures ∙ ap (option_map shown) (c.in-Some-Run.is ∙ ap Some c.in-Some-Run.field-0-is)) in
    stopped_due call c.in-Err.stop (IsLoadOf (λ failed. IsLoadedNext call.files run failed × FailedLoad call.files failed (call.faults failed) (call.faults_after failed)))
    c.stopped.result c.stopped.ensures c.in-Err.ensures.stop (λ refusal h. inl (refused_load call run refusal is h c.load_files.ensures.same))

pub returns-in-Err-read_files-clause-due : goal.returns-in-Err-read_files-clause-due
returns-in-Err-read_files-clause-due g c =
    let call : Call = record {
      words = texts c.args.words.now;
      files = g.F.Folder.contents c.args.folder.now;
      files_after = g.F.Folder.contents c.load_files.new.folder;
      faults = g.F.Folder.faults c.args.folder.now;
      faults_after = g.F.Folder.faults c.load_files.new.folder;
    } in
    let run : Run = run_shown c.in-Some-Run.run' in
    let is : run_asked (texts c.args.words.now) ≡ Some run = ap (option_and_then run_in) (sym c.in_ok-run.ensures ∙ ap (option_map shown) (c.in-Some-Run.is ∙ ap Some c.in-Some-Run.field-0-is)) in
    stopped_due call c.in-Err-read_files.stop (IsRefusedFor run.workers (bytes_of c.in-Ok.files)) c.stopped-in-Err-read_files.result
    c.stopped-in-Err-read_files.ensures c.in-Err-read_files.ensures.stop
    (λ refusal h. inl (refused_read call run (bytes_of c.in-Ok.files) refusal is c.in-Ok.ensures.files h c.load_files.ensures.same))

pub returns-in-Ok-save-clause-due : goal.returns-in-Ok-save-clause-due
returns-in-Ok-save-clause-due g c =
    let run : Run = run_shown c.in-Some-Run.run' in
    let is : run_asked (texts c.args.words.now) ≡ Some run = ap (option_and_then run_in) (sym c.in_ok-run.ensures ∙ ap (option_map shown) (c.in-Some-Run.is ∙ ap Some c.in-Some-Run.field-0-is)) in
    let results = c.in_ok-tx.field-0 in
    let saved : HoldsBytes (g.F.Folder.contents c.save.new.self) c.in-Some-Run.run'.tx.now results.tx =
    subst (HoldsBytes (g.F.Folder.contents c.save.new.self) c.in-Some-Run.run'.tx.now) c.as_slice.ensures c.in-Ok-save.ensures.ok in
    let others : SameElsewhere (g.F.Folder.contents c.args.folder.now) (g.F.Folder.contents c.save.new.self) c.in-Some-Run.run'.tx.now =
    subst (λ o. SameElsewhere o (g.F.Folder.contents c.save.new.self) c.in-Some-Run.run'.tx.now) c.load_files.ensures.same c.save.ensures.others in
    let input = c.in-Ok-read_files.input in
    done_due _ run input results
    (accepted_read _ run (bytes_of c.in-Ok.files) input is c.in-Ok.ensures.files c.in-Ok-read_files.ensures.read)
    (subst (λ options. AreResultsOf input.plan options run.hold input.capture results) c.options_of.ensures c.in_ok-tx.ensures)
    saved others

pub returns-clause-due : goal.returns-clause-due
returns-clause-due g c =
    let run : Run = run_shown c.in-Some-Run.run' in
    let is : run_asked (texts c.args.words.now) ≡ Some run = ap (option_and_then run_in) (sym c.in_ok-run.ensures ∙ ap (option_map shown) (c.in-Some-Run.is ∙ ap Some c.in-Some-Run.field-0-is)) in
    let others : SameElsewhere (g.F.Folder.contents c.args.folder.now) (g.F.Folder.contents c.save.new.self) c.in-Some-Run.run'.tx.now =
    subst (λ o. SameElsewhere o (g.F.Folder.contents c.save.new.self) c.in-Some-Run.run'.tx.now) c.load_files.ensures.same c.save.ensures.others in
    let fault : Rose (g.F.Folder.faults c.args.folder.now c.in-Some-Run.run'.tx.now) (g.F.Folder.faults c.save.new.self c.in-Some-Run.run'.tx.now) =
    rose_later _ (g.F.Folder.faults c.load_files.new.folder c.in-Some-Run.run'.tx.now) _ (c.load_files.ensures.later c.in-Some-Run.run'.tx.now) c.in-Err-save.ensures.failed in
    let input = c.in-Ok-read_files.input in
    inr (
      c.in_ok-not_saved.ensures.ran,
      (
        refusals.Save c.in-Some-Run.run'.tx,
        c.in_ok-not_saved.ensures.status,
        c.in_ok-not_saved.ensures.text,
        inl (save_fault _ run c.in-Some-Run.run'.tx input refl
            (accepted_read _ run (bytes_of c.in-Ok.files) input is c.in-Ok.ensures.files c.in-Ok-read_files.ensures.read) fault others),
      ),
    )

pub forward-requires-clause-options : goal.forward-requires-clause-options
forward-requires-clause-options g c κs within =
    let run : Run = run_shown c.in-Some-Run.run' in
    let is : run_asked (texts c.args.words.now) ≡ Some run = ap (option_and_then run_in) (sym c.in_ok-run.ensures ∙ ap (option_map shown) (c.in-Some-Run.is ∙ ap Some c.in-Some-Run.field-0-is)) in
    subst AreInRange (sym c.options_of.ensures) (in_range runs-in_range (texts c.args.words.now) run is)

pub forward-requires-clause-turns : goal.forward-requires-clause-turns
forward-requires-clause-turns g c κs within =
    let run : Run = run_shown c.in-Some-Run.run' in
    let input = c.in-Ok-read_files.input in
    let read = c.in-Ok-read_files.ensures.read in
    let turns : AreTurns run.workers (unwrap_or c.in-Ok.files.turns []) = are_turns run.workers (unwrap_or c.in-Ok.files.turns []) read.steps read.are_turns in
    let kept : AreTurns run.workers (unwrap_or input.turns []) = subst (λ bytes. AreTurns run.workers (unwrap_or bytes [])) (sym c.in-Ok-read_files.ensures.turns) turns in
    subst (λ options. AreTurns options.workers (unwrap_or input.turns [])) (sym c.options_of.ensures) kept

pub returns-in-Some-Check-clause-due : goal.returns-in-Some-Check-clause-due
returns-in-Some-Check-clause-due g c =
    let is = sym c.in_ok-run.ensures ∙ ap (option_map shown) (c.in-Some-Check.is ∙ ap Some c.in-Some-Check.field-0-is) in
    c.check_due.ensures.due (texts c.args.words.now) (ap (option_and_then check_in) is)

pub returns-in-None-clause-due : goal.returns-in-None-clause-due
returns-in-None-clause-due g c =
    let is = sym c.in_ok-run.ensures ∙ ap (option_map shown) c.in-None.is in
    refused_due _ refusals.Usage c.refuse.result c.refuse.ensures.status c.refuse.ensures.text c.refuse.ensures.ran
    (inl ((ap (option_and_then run_in) is, ap (option_and_then load_in) is, ap (option_and_then check_in) is), refl))

pub returns-in-Some-Load-clause-due : goal.returns-in-Some-Load-clause-due
returns-in-Some-Load-clause-due g c =
    let is = sym c.in_ok-run.ensures ∙ ap (option_map shown) (c.in-Some-Load.is ∙ ap Some c.in-Some-Load.field-0-is) in
    load_due _ _ c.load_due.result (ap (option_and_then load_in) is) c.load_due.ensures.status c.load_due.ensures.text c.load_due.ensures.ran refl

pub load_due-requires-clause-packets : goal.load_due-requires-clause-packets
load_due-requires-clause-packets g c κs within =
    let is = sym c.in_ok-run.ensures ∙ ap (option_map shown) (c.in-Some-Load.is ∙ ap Some c.in-Some-Load.field-0-is) in
    (load_in_range loads-in_range (texts c.args.words.now) _ (ap (option_and_then load_in) is)).few_packets

pub load_due-requires-clause-workers : goal.load_due-requires-clause-workers
load_due-requires-clause-workers g c κs within =
    let is = sym c.in_ok-run.ensures ∙ ap (option_map shown) (c.in-Some-Load.is ∙ ap Some c.in-Some-Load.field-0-is) in
    let range = load_in_range loads-in_range (texts c.args.words.now) _ (ap (option_and_then load_in) is) in
    (range.some_workers, range.few_workers)

pub returns-in-Err-clause-found : goal.returns-in-Err-clause-found
returns-in-Err-clause-found g c = stopped_found _ c.in-Err.stop c.stopped.result c.stopped.ensures

pub returns-in-Err-read_files-clause-found : goal.returns-in-Err-read_files-clause-found
returns-in-Err-read_files-clause-found g c = stopped_found _ c.in-Err-read_files.stop c.stopped-in-Err-read_files.result c.stopped-in-Err-read_files.ensures

pub returns-clause-found : goal.returns-clause-found
returns-clause-found g c =
    let call : Call = record {
      words = texts c.args.words.now;
      files = g.F.Folder.contents c.args.folder.now;
      files_after = g.F.Folder.contents c.save.new.self;
      faults = g.F.Folder.faults c.args.folder.now;
      faults_after = g.F.Folder.faults c.save.new.self;
    } in
    none_found (λ (due : Due). IsFoundOf call due.status) (Ok c.in_ok-not_saved.not_saved) c.in_ok-not_saved.ensures.found

pub returns-in-Some-Check-clause-found : goal.returns-in-Some-Check-clause-found
returns-in-Some-Check-clause-found g c =
    let is = sym c.in_ok-run.ensures ∙ ap (option_map shown) (c.in-Some-Check.is ∙ ap Some c.in-Some-Check.field-0-is) in
    c.check_due.ensures.found (texts c.args.words.now) (ap (option_and_then check_in) is)

pub returns-in-None-clause-found : goal.returns-in-None-clause-found
returns-in-None-clause-found g c = none_found _ c.refuse.result c.refuse.ensures.found

pub returns-in-Some-Load-clause-found : goal.returns-in-Some-Load-clause-found
returns-in-Some-Load-clause-found g c = none_found _ c.load_due.result c.load_due.ensures.found
