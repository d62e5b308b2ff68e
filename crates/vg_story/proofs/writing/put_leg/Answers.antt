-- For `put_leg`: its clause.
use Rattle.std.proofs.Common.{◌∷◌, decimal}
use Rattle.std.specs.Prelude.{codes}
use Rattle.std.proofs.lemmas.Result.{on_ok_weaker}
use Rattle.vg_story.proofs.WriteLemmas.{four}
use Rattle.vg_story.proofs.writing.put_leg.Goals as goal

pub returns : goal.returns
returns c =
    on_ok_weaker c.put_decimal-2.result (λ e. cc (
      e,
      c.in_ok-put.ensures,
      c.from.ensures,
      c.in_ok-put_decimal.ensures,
      c.in_ok-put-2.ensures,
      c.from-2.ensures,
      four c.args.out.now.items (10 ∷ codes "  leg worker ") (decimal c.args.worker) (codes " generation ") (decimal c.args.generation),
    )) c.put_decimal-2.ensures
