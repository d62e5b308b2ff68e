-- For `load_why`: its clause `stop`.
use Rattle.std.proofs.Common.{◌≡◌, ℕ, ◌+◌, ◌≤◌, List, refl, subst, ◌∙◌, inr, arith}
use Rattle.std.proofs.lemmas.Result.{err_from_is_err_and}
use Rattle.vg_outside.specs.Files.{FirstBytes, FailedLoad}
use Rattle.vg_capture.specs.Savefile.{largest_file}
use Rattle.vg_script.specs.Reading.{largest_script}
use Rattle.vg_files.proofs.LoadLemmas.{is_there, on_load, failed_next}
use Rattle.vg_why.specs.Asked.{Ask, ask_shown}
use Rattle.vg_why.specs.Files.{IsLoadedNext}
use Rattle.vg_why.proofs.loading.load_why.Goals as goal

pub returns-in_err-report-clause-stop : goal.returns-in_err-report-clause-stop
returns-in_err-report-clause-stop g c =
    let ask : Ask = ask_shown c.args.ask.now in
    let p = err_from_is_err_and c.from_residual-in_err-report.result c.from_residual-in_err-report.ensures.1 in
    let files = g.F.Folder.contents c.args.folder.now in
    let now = g.F.Folder.contents c.load_file-2.new.folder in
    let first = g.F.Folder.faults c.args.folder.now in
    let before = g.F.Folder.faults c.load_file-2.new.folder in
    let after = g.F.Folder.faults c.load_file-3.new.folder in
    let later : (other : List ℕ) → first other ≤ before other =
    λ other. (let one = c.load_file.ensures.later other in let two = c.load_file-2.ensures.later other in omega (arith, one, two)) in
    let script : FirstBytes files ask.script (largest_script + 1) c.in_ok-script.script =
    subst (λ fs. FirstBytes fs ask.script (largest_script + 1) c.in_ok-script.script) c.load_file.ensures.same c.in_ok-script.ensures.bytes in
    let next : IsLoadedNext files ask ask.report =
    inr (inr (
      refl,
      is_there files ask.capture c.in_ok-capture.capture (largest_file + 1) c.in_ok-capture.ensures.bytes,
      is_there files ask.script c.in_ok-script.script (largest_script + 1) script,
    )) in
    rw (p.1, p.2)
    (on_load (λ failed. (failed ≡ ask.report) × FailedLoad now ask.report (before ask.report) (after ask.report))
    (λ failed. IsLoadedNext files ask failed × FailedLoad files failed (first failed) (after failed))
    _
    (failed_next files now ask.report first before after (IsLoadedNext files ask) next (c.load_file-2.ensures.same ∙ c.load_file.ensures.same) later)
    c.in_err-report.ensures.stop)
