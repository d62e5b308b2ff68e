use Rattle.std.proofs.Common.{◌++◌, ◌∷◌, ap, sym, ◌∙◌}
use Rattle.std.proofs.lemmas.Result.{on_ok_weaker}
use Rattle.vg_report.proofs.LineLemmas.{leg_text-digits}
use Rattle.vg_report.proofs.writing.put_leg.Goals as goal

pub returns-then-leg-lt10-2 : goal.returns-then-leg-lt10-2
returns-then-leg-lt10-2 c =
    on_ok_weaker c.put.result (λ e. e
    ∙ ap (λ r. c.args.out.now.items ++ c.args.mark ∷ r) (sym (leg_text-digits c.args.leg c.if-leg-lt10.true c.if-leg-lt10-2.true))) c.put.ensures
