use Rattle.std.proofs.Common.{◌==◌, subst}
use Rattle.memchr.specs.Find.{IsFirstByte, is_byte}
use Rattle.vg_report.proofs.SplitLemmas.{at_first, at_no_first, before_place, after_place}
use Rattle.vg_report.proofs.parts.cut_at_first.Goals as goal

pub returns-in-Some : goal.returns-in-Some
returns-in-Some c =
    let text = c.args.text.now in
    let at = at_first c.args.mark text _ (subst (IsFirstByte (is_byte c.args.mark) text) c.in-Some.is c.memchr.ensures) in
    (at.1, before_place (λ byte. byte == c.args.mark) text _ at.0, after_place (λ byte. byte == c.args.mark) text _ at.0)

pub returns-in-None : goal.returns-in-None
returns-in-None c = at_no_first c.args.mark c.args.text.now (subst (IsFirstByte (is_byte c.args.mark) c.args.text.now) c.in-None.is c.memchr.ensures)
