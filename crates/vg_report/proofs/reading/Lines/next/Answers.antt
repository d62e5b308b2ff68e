use Rattle.std.proofs.Common.{◌≡◌, ◌+◌, refl, sym, ap, arith}
use Rattle.vg_report.specs.Reading.{Rest, text_of}
use Rattle.vg_report.proofs.TextLemmas.{next_line, no_next_line}
use Rattle.vg_report.proofs.reading.Lines.next.Goals as goal

pub returns-in-Some-clause-next : goal.returns-in-Some-clause-next
returns-in-Some-clause-next c =
    let whole : c.args.self.now.text ≡ text_of c.self.inside.rest.now = ap (λ (r : Rest). r.text) (sym c.self.view_is) in
    let number : c.args.self.now.number ≡ c.self.inside.number = ap (λ (r : Rest). r.number) (sym c.self.view_is) in
    next_line c.args.self.now (record { number = c.self.inside.number + 1; text = text_of c.in-Some.rest.now }) c.self.inside.rest.now c.in-Some.bytes.now c.in-Some.rest.now
    whole c.in-Some.ensures refl (omega (arith, number))

pub returns-in-None-clause-next : goal.returns-in-None-clause-next
returns-in-None-clause-next c =
    let whole : c.args.self.now.text ≡ text_of c.self.inside.rest.now = ap (λ (r : Rest). r.text) (sym c.self.view_is) in
    no_next_line c.args.self.now c.args.self.now c.self.inside.rest.now whole c.in-None.ensures
