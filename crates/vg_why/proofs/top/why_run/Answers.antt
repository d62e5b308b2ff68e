-- For `why_run`: its clauses `exactly` and `printing` and `refused` and `told`.
use Rattle.std.proofs.Common.{subst, ◌∙◌, inl}
use Rattle.vg_files.specs.Printing.{Appends, AppendsFront}
use Rattle.vg_why.specs.Run.{IsDueFor}
use Rattle.vg_why.proofs.RunLemmas.{due_is, refused_at, told_at}
use Rattle.vg_why.proofs.ExpectedLemmas.{due_expected}
use Rattle.vg_why.proofs.top.why_run.Goals as goal

pub returns-in-Ok-clause-told : goal.returns-in-Ok-clause-told
returns-in-Ok-clause-told g c = λ zero_status.
    let due = due_is c.why.result c.in-Some.due (record { ok = c.why.ensures.text; err = c.why.ensures.stop }) (subst (IsDueFor c.why.result) c.in-Some.is c.due_for.ensures) in (
      c.in-Some.due.text,
      told_at _ c.in-Some.due.status c.in-Some.due.text due zero_status,
      subst (Appends (g.O.Sink.written c.args.out.now) (g.O.Sink.written c.print.new.out)) c.as_slice.ensures c.in-Ok.ensures.ok,
    )

pub returns-in-Ok-clause-refused : goal.returns-in-Ok-clause-refused
returns-in-Ok-clause-refused g c = λ two others.
    let due = due_is c.why.result c.in-Some.due (record { ok = c.why.ensures.text; err = c.why.ensures.stop }) (subst (IsDueFor c.why.result) c.in-Some.is c.due_for.ensures) in
    let r = refused_at _ c.in-Some.due.status c.in-Some.due.text due two in
    (r.0, r.1, r.2, subst (Appends (g.O.Sink.written c.args.out.now) (g.O.Sink.written c.print.new.out)) (c.as_slice.ensures ∙ r.3) c.in-Ok.ensures.ok)

pub returns-clause-printing : goal.returns-clause-printing
returns-clause-printing g c = λ seven. (
  c.in-Err.ensures.failed,
  c.in-Some.due.status,
  c.in-Some.due.text,
  due_is c.why.result c.in-Some.due (record { ok = c.why.ensures.text; err = c.why.ensures.stop }) (subst (IsDueFor c.why.result) c.in-Some.is c.due_for.ensures),
  subst (AppendsFront (g.O.Sink.written c.args.out.now) (g.O.Sink.written c.print.new.out)) c.as_slice.ensures c.in-Err.ensures.front,
)

pub returns-in-Ok-clause-exactly : goal.returns-in-Ok-clause-exactly
returns-in-Ok-clause-exactly g c = λ expected e. inl
    (due_expected c.why.result c.in-Some.due expected (record { ok = c.why.ensures.text; err = c.why.ensures.stop }) (subst (IsDueFor c.why.result) c.in-Some.is c.due_for.ensures) e)
