-- For the clauses of `diff_run`: what is due was printed.
use Rattle.std.proofs.Common.{subst, ◌∙◌, inl, inr, arith}
use Rattle.vg_diff.specs.Dues.{IsDueFor}
use Rattle.vg_diff.specs.Run.{Appends, AppendsFront}
use Rattle.vg_diff.proofs.RunLemmas.{due_is, found_at, refused_at, known_status}
use Rattle.vg_diff.proofs.top.diff_run.Goals as goal

pub returns-in-Ok-clause-found : goal.returns-in-Ok-clause-found
returns-in-Ok-clause-found g c = λ at.
    let due = due_is _ c.found.result c.in-Some.due (c.found.ensures.found, c.found.ensures.stop) (subst (IsDueFor c.found.result) c.in-Some.is c.due_for.ensures) in (
      c.in-Some.due.text.items,
      found_at _ c.in-Some.due.status c.in-Some.due.text.items due at,
      subst (Appends (g.O.Sink.written c.args.out.now) (g.O.Sink.written c.print.new.out)) c.as_slice.ensures.value c.in-Ok.ensures.ok,
    )

pub returns-in-Ok-clause-memory : goal.returns-in-Ok-clause-memory
returns-in-Ok-clause-memory g c = λ one.
    let due = due_is _ c.found.result c.in-Some.due (c.found.ensures.found, c.found.ensures.stop) (subst (IsDueFor c.found.result) c.in-Some.is c.due_for.ensures) in
    elim (known_status _ c.in-Some.due.status c.in-Some.due.text.items due) [
      | inl (inl zero_status) ↦ absurd (omega (arith, one, zero_status))
      | inl (inr nine) ↦ absurd (omega (arith, one, nine))
      | inr refused ↦ absurd (omega (arith, one, refused.0))
    ]

pub returns-in-Ok-clause-refused : goal.returns-in-Ok-clause-refused
returns-in-Ok-clause-refused g c = λ low high.
    let due = due_is _ c.found.result c.in-Some.due (c.found.ensures.found, c.found.ensures.stop) (subst (IsDueFor c.found.result) c.in-Some.is c.due_for.ensures) in
    let r = refused_at _ c.in-Some.due.status c.in-Some.due.text.items due low high in
    (r.0, r.1, r.2, subst (Appends (g.O.Sink.written c.args.out.now) (g.O.Sink.written c.print.new.out)) (c.as_slice.ensures.value ∙ r.3) c.in-Ok.ensures.ok)

pub returns-in-Ok-clause-printing : goal.returns-in-Ok-clause-printing
returns-in-Ok-clause-printing g c = λ seven.
    let due = due_is _ c.found.result c.in-Some.due (c.found.ensures.found, c.found.ensures.stop) (subst (IsDueFor c.found.result) c.in-Some.is c.due_for.ensures) in
    elim (known_status _ c.in-Some.due.status c.in-Some.due.text.items due) [
      | inl (inl zero_status) ↦ absurd (omega (arith, seven, zero_status))
      | inl (inr nine) ↦ absurd (omega (arith, seven, nine))
      | inr refused ↦ absurd (omega (arith, seven, refused.1))
    ]

pub returns-in-Ok-clause-statuses : goal.returns-in-Ok-clause-statuses
returns-in-Ok-clause-statuses g c =
    let due = due_is _ c.found.result c.in-Some.due (c.found.ensures.found, c.found.ensures.stop) (subst (IsDueFor c.found.result) c.in-Some.is c.due_for.ensures) in
    elim (known_status _ c.in-Some.due.status c.in-Some.due.text.items due) [
      | inl (inl zero_status) ↦ inl (omega (arith, zero_status))
      | inl (inr nine) ↦ inr (inr nine)
      | inr refused ↦ inl refused.1
    ]

pub returns-clause-printing : goal.returns-clause-printing
returns-clause-printing g c = λ seven. (
  c.in-Err.ensures.failed,
  c.in-Some.due.status,
  c.in-Some.due.text.items,
  due_is _ c.found.result c.in-Some.due (c.found.ensures.found, c.found.ensures.stop) (subst (IsDueFor c.found.result) c.in-Some.is c.due_for.ensures),
  subst (AppendsFront (g.O.Sink.written c.args.out.now) (g.O.Sink.written c.print.new.out)) c.as_slice.ensures.value c.in-Err.ensures.front,
)
