-- For `put_changed`: its clause.
use Rattle.std.proofs.Common.{◌∷◌, [], ◌++◌, ap, ◌∙◌}
use Rattle.std.specs.Prelude.{codes}
use Rattle.std.proofs.lemmas.Result.{on_ok_weaker}
use Rattle.vg_diff.specs.Lines.{number_at, difference_text}
use Rattle.vg_diff.specs.Texts.{line_begin}
use Rattle.vg_diff.proofs.LineLemmas.{three}
use Rattle.vg_diff.proofs.lines.put_changed.Goals as goal

pub returns : goal.returns
returns c =
    let before = c.args.out.now.items in
    let number = number_at c.args.found.now.sent.now c.args.wanted in
    let text = difference_text c.args.found.now c.args.wanted c.args.got in
    on_ok_weaker c.put.result (λ e.
    e ∙ ap (λ front. front ++ 10 ∷ [])
    (c.in_ok-put_difference.ensures
    ∙ ap (λ front. front ++ text) (c.in_ok-put_begin.ensures ∙ ap (λ n. before ++ line_begin (codes "changed") n) (c.from.ensures ∙ c.number_at-number.ensures)))
    ∙ three before (line_begin (codes "changed") number) text (10 ∷ [])) c.put.ensures
