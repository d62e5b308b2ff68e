use Rattle.std.proofs.Common.{◌≡◌, ℕ, ◌+◌, ◌≤◌, List, ap, subst, ◌∙◌, arith}
use Rattle.std.specs.Prelude.{Some, option_map}
use Rattle.std.proofs.lemmas.Result.{err_from_is_err_and}
use Rattle.vg_outside.specs.Files.{FirstBytes, FailedLoad}
use Rattle.vg_capture.specs.Savefile.{largest_file}
use Rattle.vg_script.specs.Reading.{largest_script}
use Rattle.vg_words.specs.Command.{Run}
use Rattle.vg_words.specs.Shown.{run_shown}
use Rattle.vg_files.specs.Files.{IsLoadedNext}
use Rattle.vg_files.proofs.LoadLemmas.{on_load, turns_failed}
use Rattle.vg_files.proofs.loading.load_files.Goals as goal

pub returns-in_err-load_file-in-Some-clause-stop : goal.returns-in_err-load_file-in-Some-clause-stop
returns-in_err-load_file-in-Some-clause-stop g c =
    let run : Run = run_shown c.args.run.now in
    let turns : List ℕ = c.in-Some.name.now in
    let named : run.turns ≡ Some turns = ap (option_map (λ name. name.now)) c.in-Some.is in
    let p = err_from_is_err_and c.from_residual-in_err-load_file-in-Some.result c.from_residual-in_err-load_file-in-Some.ensures.1 in
    let files = g.F.Folder.contents c.args.folder.now in
    let before = g.F.Folder.faults c.load_file-2.new.folder in
    let later : (other : List ℕ) → g.F.Folder.faults c.args.folder.now other ≤ before other =
    λ other. (let one = c.load_file.ensures.later other in let two = c.load_file-2.ensures.later other in omega (arith, one, two)) in
    let script : FirstBytes files run.script (largest_script + 1) c.in_ok-script.script =
    subst (λ fs. FirstBytes fs run.script (largest_script + 1) c.in_ok-script.script) c.load_file.ensures.same c.in_ok-script.ensures.bytes in
    rw (p.1, p.2)
    (on_load (λ failed. (failed ≡ turns) × FailedLoad (g.F.Folder.contents c.load_file-2.new.folder) turns (before turns) (g.F.Folder.faults c.load_file-in-Some.new.folder turns))
    (λ failed. IsLoadedNext files run failed × FailedLoad files failed (g.F.Folder.faults c.args.folder.now failed) (g.F.Folder.faults c.load_file-in-Some.new.folder failed))
    _
    (turns_failed files (g.F.Folder.contents c.load_file-2.new.folder) run turns (g.F.Folder.faults c.args.folder.now) before (g.F.Folder.faults c.load_file-in-Some.new.folder)
    c.in_ok-capture.capture c.in_ok-script.script (largest_file + 1) (largest_script + 1) named c.in_ok-capture.ensures.bytes script
    (c.load_file-2.ensures.same ∙ c.load_file.ensures.same) later)
    c.in_err-load_file-in-Some.ensures.stop)
