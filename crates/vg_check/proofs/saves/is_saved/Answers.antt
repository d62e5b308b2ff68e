use Rattle.std.proofs.Common.{◌≡◌, ◌++◌, ap, sym, ◌∙◌}
use Rattle.std.proofs.lemmas.Bool.{false≢true}
use Rattle.vg_capture.specs.Savefile.{file_header}
use Rattle.vg_check.specs.Saves.{records_from}
use Rattle.vg_check.proofs.saves.is_saved.Goals as goal

pub returns : goal.returns
returns c =
    let header : c.as_slice.result.now ≡ file_header c.args.capture.now = c.as_slice.ensures ∙ c.end-header.ensures ∙ c.in_ok-header.ensures in
    let records = records_from c.args.capture.now.packets 0 c.args.trips.now in (
      (λ h. absurd (false≢true h)),
      (λ e. absurd (c.in-None.ensures records (e ∙ ap (λ front. front ++ records) (sym header)))),
    )
