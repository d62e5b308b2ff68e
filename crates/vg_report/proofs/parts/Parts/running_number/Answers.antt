use Rattle.std.proofs.Common.{sym, ap, ◌∙◌}
use Rattle.std.specs.Prelude.{Err}
use Rattle.vg_report.proofs.FormLemmas.{IsNextWord, running_read, running_missed}
use Rattle.vg_report.proofs.parts.Parts.running_number.Goals as goal

pub returns-in-Some : goal.returns-in-Some
returns-in-Some c =
    let at : IsNextWord c.args.self.now c.word.new.self c.in_ok-word.word.now = record { read = c.in_ok-word.ensures } in
    running_read c.args.next _ at c.in-Some.ensures.value

pub returns-in-None : goal.returns-in-None
returns-in-None c =
    let at : IsNextWord c.args.self.now c.word.new.self c.in_ok-word.word.now = record { read = c.in_ok-word.ensures } in
    running_missed c.args.next at c.in-None.ensures.value ∙ ap Err (sym c.refused_number.ensures)
