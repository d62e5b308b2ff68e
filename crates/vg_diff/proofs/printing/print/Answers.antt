-- For `print`: its clause.
use Rattle.std.proofs.Common.{◌<◌, length, subst, sym, ◌∙◌, rules}
use Rattle.vg_diff.specs.Run.{AppendsFront}
use Rattle.vg_diff.proofs.PrintLemmas.{print_piece, print_front, always_on_err}
use Rattle.vg_diff.proofs.printing.print.Goals as goal

pub returns-in_err-taken-clause-front : goal.returns-in_err-taken-clause-front
returns-in_err-taken-clause-front g c =
    let some : 0 < length c.loop-rest.rest.now = search rules in
    let front : AppendsFront (g.O.Sink.written c.args.out.now) (g.O.Sink.written c.loop-rest.out) c.args.text.now = print_front _ _ _ c.loop-rest.rest.now c.loop-rest.invariant.0 some in
    always_on_err c.from_residual.result _ (subst (λ o. AppendsFront (g.O.Sink.written c.args.out.now) o c.args.text.now) (sym c.in_err-taken.ensures.err) front)

pub loop-rest-preserved : goal.loop-rest-preserved
loop-rest-preserved g c = (
  print_piece _ _ _ _ c.loop-rest.rest.now c.in_ok-taken.taken _ c.loop-rest.invariant.0 c.in_ok-taken.ensures.written c.split_at.ensures.back,
  c.in_ok-taken.ensures.quiet ∙ c.loop-rest.invariant.1,
)
