-- For `put_difference`: its clause.
use Rattle.std.proofs.Common.{◌++◌, ap, ◌∙◌}
use Rattle.std.proofs.lemmas.Result.{on_ok_weaker}
use Rattle.vg_diff.specs.Lines.{frame_at, change_of, change_text, difference_text}
use Rattle.vg_diff.proofs.lines.put_difference.Goals as goal

pub returns : goal.returns
unfolding difference_text
returns c =
    let before = c.args.out.now.items in
    let ignored = c.args.found.now.ignored.now in
    let one = c.frame_at-first.result.now in
    let other = c.frame_at-second.result.now in
    let first = frame_at c.args.found.now.wanted.now c.args.wanted in
    on_ok_weaker c.put_change.result (λ e.
    e ∙ ap (λ change. before ++ change_text change one other) c.in_ok-change.ensures
    ∙ ap (λ frame. before ++ change_text (change_of ignored frame other) frame other) c.frame_at-first.ensures
    ∙ ap (λ frame. before ++ change_text (change_of ignored first frame) first frame) c.frame_at-second.ensures) c.put_change.ensures
