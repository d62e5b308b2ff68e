-- `put_head`, the first lines.
use Rattle.std.proofs.Common.{◌∷◌, [], ◌++◌, decimal}
use Rattle.std.specs.Prelude.{codes}
use Rattle.std.proofs.lemmas.Result.{on_ok_weaker}
use Rattle.vg_draw.specs.Drawing.{generation_label}
use Rattle.vg_draw.proofs.LineLemmas.{five}
use Rattle.vg_draw.proofs.lines.put_head.Goals as goal

pub returns : goal.returns
returns c =
    on_ok_weaker c.put-3.result (λ e. cc (
      e,
      c.in_ok-put.ensures,
      c.in_ok-put_decimal.ensures,
      c.in_ok-put-2.ensures,
      c.in_ok-put_generation_label.ensures,
      five c.args.out.now.items (codes "digraph " ++ 34 ∷ codes "generation ") (decimal c.args.generation) (34 ∷ (codes " {" ++ 10 ∷ (codes "  label=" ++ 34 ∷ [])))
          (generation_label c.args.report.now c.args.generation c.args.from)
          (34 ∷ (codes ";" ++ 10 ∷ (codes "  labelloc=t;" ++ 10 ∷ (codes "  node [shape=box];" ++ 10 ∷ (codes "  wire [shape=point];" ++ 10 ∷ []))))),
    )) c.put-3.ensures
