use Rattle.std.proofs.Common.{◌<◌, length, sym, ap, ◌∙◌, arith}
use Rattle.std.proofs.lemmas.Bool.Decides.{nat_tests}
use Rattle.vg_report.specs.Reading.{Rest, ended}
use Rattle.vg_report.proofs.TextLemmas.{text_goes_on}
use Rattle.vg_report.proofs.reading.Lines.end.Goals as goal

pub returns : goal.returns
returns c = λ report.
    let some : 0 < length c.self.inside.rest.now = grind (arith, nat_tests, c.if-is_empty.ensures) in
    ap (λ (r : Rest). ended report r.number r.text.lines r.text.tail) (sym c.self.view_is) ∙ text_goes_on report c.self.inside.number c.self.inside.rest.now some
