-- For the clause of `put_carrying`: the label and the looks in their pieces.
use Rattle.std.proofs.Common.{◌∷◌, [], ◌++◌}
use Rattle.std.specs.Prelude.{codes}
use Rattle.std.proofs.lemmas.Result.{on_ok_weaker}
use Rattle.vg_draw.specs.Drawing.{behind_text, share_text}
use Rattle.vg_draw.proofs.LineLemmas.{five}
use Rattle.vg_draw.proofs.shares.put_carrying.Goals as goal

pub returns : goal.returns
returns c =
    on_ok_weaker c.put_share.result (λ e. cc (
      e,
      c.in_ok-put.ensures,
      c.in_ok-put-2.ensures,
      c.in_ok-put_behind.ensures,
      c.in_ok-put-3.ensures,
      five c.args.out.now.items (codes "label=" ++ 34 ∷ 32 ∷ []) c.args.word.now (behind_text c.args.count) (34 ∷ []) (share_text c.args.packets c.args.count),
    )) c.put_share.ensures
