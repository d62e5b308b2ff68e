-- For the clause of `put_there_with`: the word of the error, and the packets that were dropped with it.
use Rattle.std.proofs.Common.{◌++◌, ap, ◌∙◌}
use Rattle.std.specs.Prelude.{codes}
use Rattle.std.proofs.lemmas.Result.{on_ok_weaker}
use Rattle.vg_model.specs.Errors.{error_word}
use Rattle.vg_diff.specs.Classes.{class_line}
use Rattle.vg_diff.proofs.classes.put_there_with.Goals as goal

pub returns : goal.returns
returns c =
    let before = c.args.out.now.items in
    let starts = c.args.found.now.starts.now in
    let class = codes "dropped-but-there" in
    on_ok_weaker c.put_class.result (λ e.
    e ∙ ap (λ part. before ++ class_line class part starts c.as_slice.result.now) c.word.ensures
    ∙ ap (λ numbers. before ++ class_line class (error_word c.args.error) starts numbers) (c.as_slice.ensures.value ∙ c.in_ok-numbers.ensures)) c.put_class.ensures
