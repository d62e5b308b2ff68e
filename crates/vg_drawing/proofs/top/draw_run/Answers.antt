use Rattle.std.proofs.Common.{subst, ◌∙◌, inl}
use Rattle.vg_drawing.specs.Dues.{IsDueFor}
use Rattle.vg_drawing.specs.Run.{Appends, AppendsFront}
use Rattle.vg_drawing.proofs.RunLemmas.{due_is, refused_at}
use Rattle.vg_drawing.proofs.ExpectedLemmas.{due_expected}
use Rattle.vg_drawing.proofs.top.draw_run.Goals as goal

pub returns-in-Ok-clause-refused : goal.returns-in-Ok-clause-refused
returns-in-Ok-clause-refused g c = λ two others.
    let due = due_is _ c.drawn.result c.in-Some.due c.drawn.ensures.text c.drawn.ensures.stop (subst (IsDueFor c.drawn.result) c.in-Some.is c.due_for.ensures) in
    let r = refused_at _ c.in-Some.due.status c.in-Some.due.text due two in
    (r.0, r.1, r.2, subst (Appends (g.O.Sink.written c.args.out.now) (g.O.Sink.written c.print.new.out)) (c.as_slice.ensures ∙ r.3) c.in-Ok.ensures.ok)

pub returns-clause-printing : goal.returns-clause-printing
returns-clause-printing g c = λ seven. (
  c.in-Err.ensures.failed,
  c.in-Some.due.status,
  c.in-Some.due.text,
  due_is _ c.drawn.result c.in-Some.due c.drawn.ensures.text c.drawn.ensures.stop (subst (IsDueFor c.drawn.result) c.in-Some.is c.due_for.ensures),
  subst (AppendsFront (g.O.Sink.written c.args.out.now) (g.O.Sink.written c.print.new.out)) c.as_slice.ensures c.in-Err.ensures.front,
)

pub returns-in-Ok-clause-exactly : goal.returns-in-Ok-clause-exactly
returns-in-Ok-clause-exactly g c = λ expected e. inl
    (due_expected _ c.drawn.result c.in-Some.due expected c.drawn.ensures.text c.drawn.ensures.stop (subst (IsDueFor c.drawn.result) c.in-Some.is c.due_for.ensures) e)
