-- For the clause of `put_drop_text`: the line in its pieces.
use Rattle.std.proofs.Common.{◌∷◌, []}
use Rattle.std.specs.Prelude.{codes, ◌++◌, Some}
use Rattle.std.proofs.lemmas.Result.{on_ok_weaker}
use Rattle.vg_model.specs.Errors.{error_word}
use Rattle.vg_draw.specs.Drawing.{node_id, carrying}
use Rattle.vg_draw.proofs.LineLemmas.{two_behind}
use Rattle.vg_draw.proofs.lines.put_drop_text.Goals as goal

pub returns : goal.returns
returns c =
    on_ok_weaker c.put.result (λ e. cc (
      e,
      c.in_ok-put_begin.ensures,
      c.as_bytes.ensures.value,
      c.word.ensures,
      c.in_ok-put_carrying.ensures,
      two_behind c.args.out.now.items (codes "  ") (node_id c.args.number) (codes " -> n8 [") (carrying c.args.packets (error_word c.args.error) (Some c.args.count))
          (codes ", color=red, fontcolor=red];" ++ 10 ∷ []),
    )) c.put.ensures
