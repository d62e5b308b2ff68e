use Rattle.std.proofs.Common.{subst, ◌∙◌, inl}
use Rattle.vg_files.specs.Printing.{Appends, AppendsFront}
use Rattle.vg_top.proofs.ExpectedLemmas.{due_expected, done_at, refused_at, due_is}
use Rattle.vg_top.proofs.top.vgd_run.Goals as goal

pub returns-in-Ok-print-clause-done : goal.returns-in-Ok-print-clause-done
returns-in-Ok-print-clause-done g c = λ e. (
  c.in-Ok.due.text,
  subst (Appends (g.O.Sink.written c.args.out.now) (g.O.Sink.written c.print.new.out)) c.as_slice.ensures c.in-Ok-print.ensures.ok,
  done_at _ c.in-Ok.due c.in-Ok.ensures.due e,
)

pub returns-in-Ok-print-clause-refused : goal.returns-in-Ok-print-clause-refused
returns-in-Ok-print-clause-refused g c = λ h i.
    let r = refused_at _ c.in-Ok.due c.in-Ok.ensures.due h in
    (r.0, r.1, r.3, subst (Appends (g.O.Sink.written c.args.out.now) (g.O.Sink.written c.print.new.out)) (c.as_slice.ensures ∙ r.2) c.in-Ok-print.ensures.ok)

pub returns-in-Ok-print-clause-exactly : goal.returns-in-Ok-print-clause-exactly
returns-in-Ok-print-clause-exactly g c = λ expected e. inl (due_expected _ c.in-Ok.due expected c.in-Ok.ensures.due e)

pub returns-in-Err-clause-printing : goal.returns-in-Err-clause-printing
returns-in-Err-clause-printing g c = λ seven. (
  c.in-Err.ensures.failed,
  c.in-Ok.due.status,
  c.in-Ok.due.text,
  due_is _ c.in-Ok.due c.in-Ok.ensures.due,
  subst (AppendsFront (g.O.Sink.written c.args.out.now) (g.O.Sink.written c.print.new.out)) c.as_slice.ensures c.in-Err.ensures.front,
)
