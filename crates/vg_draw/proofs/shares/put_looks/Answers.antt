-- For the clause of `put_looks`: the width of a line that carried packets.
use Rattle.std.proofs.Common.{◌++◌, append_assoc, ap, sym, ◌∙◌, decimal}
use Rattle.std.specs.Prelude.{codes}
use Rattle.std.proofs.lemmas.Result.{on_ok_weaker}
use Rattle.vg_draw.specs.Drawing.{width}
use Rattle.vg_draw.proofs.ShareLemmas.{looks_text-some}
use Rattle.vg_draw.proofs.shares.put_looks.Goals as goal

pub returns : goal.returns
returns c =
    let before = c.args.out.now.items in
    let digits = decimal (width c.args.packets c.args.count) in
    on_ok_weaker c.put_decimal.result (λ e.
    e ∙ ap (λ n. c.put.new.out.items ++ decimal n) c.width.ensures ∙ ap (λ text. text ++ digits) c.in_ok-put.ensures
    ∙ append_assoc before (codes ", penwidth=") digits
    ∙ ap (λ text. before ++ text) (sym (looks_text-some c.args.packets c.args.count c.if-count-eq0.false))) c.put_decimal.ensures
