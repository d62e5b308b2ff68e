use Rattle.std.proofs.Common.{◌≡◌, ℕ, ◌+◌, ◌≤◌, List, refl, subst, ◌∙◌, inl, inr, arith}
use Rattle.std.proofs.lemmas.Result.{err_from_is_err_and}
use Rattle.vg_outside.specs.Files.{FirstBytes, FailedLoad}
use Rattle.vg_capture.specs.Savefile.{largest_file}
use Rattle.vg_script.specs.Reading.{largest_script}
use Rattle.vg_words.specs.Command.{Check}
use Rattle.vg_words.specs.Shown.{check_shown}
use Rattle.vg_files.specs.Checks.{IsCheckedNext, largest_output}
use Rattle.vg_files.proofs.LoadLemmas.{is_there, on_load, failed_next}
use Rattle.vg_files.proofs.checking.load_checked.Goals as goal

pub returns-in_err-tx-clause-stop : goal.returns-in_err-tx-clause-stop
returns-in_err-tx-clause-stop g c =
    let check : Check = check_shown c.args.check.now in
    let p = err_from_is_err_and c.from_residual-in_err-tx.result c.from_residual-in_err-tx.ensures.1 in
    let files = g.F.Folder.contents c.args.folder.now in
    let now = g.F.Folder.contents c.load_file-2.new.folder in
    let first = g.F.Folder.faults c.args.folder.now in
    let before = g.F.Folder.faults c.load_file-2.new.folder in
    let after = g.F.Folder.faults c.load_file-3.new.folder in
    let later : (other : List ℕ) → first other ≤ before other =
    λ other. (let one = c.load_file.ensures.later other in let two = c.load_file-2.ensures.later other in omega (arith, one, two)) in
    let script : FirstBytes files check.script (largest_script + 1) c.in_ok-script.script =
    subst (λ fs. FirstBytes fs check.script (largest_script + 1) c.in_ok-script.script) c.load_file.ensures.same c.in_ok-script.ensures.bytes in
    let next : IsCheckedNext files check check.tx =
    inr (inr (inl (
      refl,
      is_there files check.capture c.in_ok-capture.capture (largest_file + 1) c.in_ok-capture.ensures.bytes,
      is_there files check.script c.in_ok-script.script (largest_script + 1) script,
    ))) in
    rw (p.1, p.2)
    (on_load (λ failed. (failed ≡ check.tx) × FailedLoad now check.tx (before check.tx) (after check.tx))
    (λ failed. IsCheckedNext files check failed × FailedLoad files failed (first failed) (after failed))
    _
    (failed_next files now check.tx first before after (IsCheckedNext files check) next (c.load_file-2.ensures.same ∙ c.load_file.ensures.same) later)
    c.in_err-tx.ensures.stop)

pub returns-in_err-report-clause-stop : goal.returns-in_err-report-clause-stop
returns-in_err-report-clause-stop g c =
    let check : Check = check_shown c.args.check.now in
    let p = err_from_is_err_and c.from_residual-in_err-report.result c.from_residual-in_err-report.ensures.1 in
    let files = g.F.Folder.contents c.args.folder.now in
    let now = g.F.Folder.contents c.load_file-3.new.folder in
    let first = g.F.Folder.faults c.args.folder.now in
    let before = g.F.Folder.faults c.load_file-3.new.folder in
    let after = g.F.Folder.faults c.load_file-4.new.folder in
    let later : (other : List ℕ) → first other ≤ before other =
    λ other. (let one = c.load_file.ensures.later other in let two = c.load_file-2.ensures.later other in let three = c.load_file-3.ensures.later other in
    omega (arith, one, two, three)) in
    let script : FirstBytes files check.script (largest_script + 1) c.in_ok-script.script =
    subst (λ fs. FirstBytes fs check.script (largest_script + 1) c.in_ok-script.script) c.load_file.ensures.same c.in_ok-script.ensures.bytes in
    let tx : FirstBytes files check.tx (largest_output + 1) c.in_ok-tx.tx =
    subst (λ fs. FirstBytes fs check.tx (largest_output + 1) c.in_ok-tx.tx) (c.load_file-2.ensures.same ∙ c.load_file.ensures.same) c.in_ok-tx.ensures.bytes in
    let next : IsCheckedNext files check check.report =
    inr (inr (inr (
      refl,
      is_there files check.capture c.in_ok-capture.capture (largest_file + 1) c.in_ok-capture.ensures.bytes,
      is_there files check.script c.in_ok-script.script (largest_script + 1) script,
      is_there files check.tx c.in_ok-tx.tx (largest_output + 1) tx,
    ))) in
    rw (p.1, p.2)
    (on_load (λ failed. (failed ≡ check.report) × FailedLoad now check.report (before check.report) (after check.report))
    (λ failed. IsCheckedNext files check failed × FailedLoad files failed (first failed) (after failed))
    _
    (failed_next files now check.report first before after (IsCheckedNext files check) next
    (c.load_file-3.ensures.same ∙ c.load_file-2.ensures.same ∙ c.load_file.ensures.same) later)
    c.in_err-report.ensures.stop)
