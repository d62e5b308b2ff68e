use Rattle.std.proofs.Common.{◌≡◌, ap, ◌∙◌}
use Rattle.std.specs.Option.{option_copied}
use Rattle.vg_report.specs.Parts.{parts_of}
use Rattle.vg_report.proofs.SplitLemmas.{parts_cut, parts_uncut}
use Rattle.vg_report.proofs.parts.Parts.next.Goals as goal

pub returns-in-Some : goal.returns-in-Some
returns-in-Some c =
    let start : c.args.self.now ≡ parts_of c.self.inside.mark (option_copied c.self.inside.rest) = cc (c.self.view_is) in
    start
    ∙ (ap (λ o. parts_of c.self.inside.mark (option_copied o)) c.in_ok-text.was
    ∙ parts_cut c.self.inside.mark c.in_ok-text.text.now c.in-Some.part.now c.in-Some.rest.now c.in-Some.ensures)

pub returns-in-None : goal.returns-in-None
returns-in-None c =
    let start : c.args.self.now ≡ parts_of c.self.inside.mark (option_copied c.self.inside.rest) = cc (c.self.view_is) in
    start
    ∙ (ap (λ o. parts_of c.self.inside.mark (option_copied o)) c.in_ok-text.was
    ∙ parts_uncut c.self.inside.mark c.in_ok-text.text.now c.in-None.ensures)
