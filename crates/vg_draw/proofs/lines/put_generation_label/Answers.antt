-- For the clause of `put_generation_label`: the label in its pieces.
use Rattle.std.proofs.Common.{◌≡◌, ℕ, List, ◌++◌, append_assoc, decimal}
use Rattle.std.specs.Prelude.{codes}
use Rattle.std.proofs.lemmas.Result.{on_ok_weaker}
use Rattle.vg_draw.specs.Drawing.{began_text}
use Rattle.vg_draw.proofs.lines.put_generation_label.Goals as goal

six : (before a b c d e f : List ℕ) → (((((before ++ a) ++ b) ++ c) ++ d) ++ e) ++ f ≡ before ++ (a ++ (b ++ (c ++ (d ++ (e ++ f)))))
six before a b c d e f = simp append_assoc

pub returns : goal.returns
returns c =
    on_ok_weaker c.put_began.result (λ e. cc (
      e,
      c.in_ok-put.ensures,
      c.in_ok-put_decimal.ensures,
      c.in_ok-put-2.ensures,
      c.in_ok-put_decimal-2.ensures,
      c.in_ok-put-3.ensures,
      six c.args.out.now.items (codes "generation ") (decimal c.args.generation) (codes ", from ") (decimal c.args.from) (codes " us")
          (began_text c.args.report.now c.args.generation),
    )) c.put_began.ensures
