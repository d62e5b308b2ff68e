use Rattle.std.proofs.Common.{sym, ap, subst, ◌∙◌}
use Rattle.std.specs.Prelude.{Ok, Err}
use Rattle.vg_report.specs.declared.errors.ReportError.{ReportError}
use Rattle.vg_report.specs.Answers.{line_answer, refusal_at, Says}
use Rattle.vg_report.specs.Reading.{said_form, body, IsRefusal}
use Rattle.vg_report.proofs.BodyLemmas.{goes_ok, goes_err}
use Rattle.vg_report.proofs.reading.Lines.further.Goals as goal

pub returns-in-Ok : goal.returns-in-Ok
returns-in-Ok c =
    goes_ok c.args.packets c.args.report.now c.said.new.report c.args.self.now c.next-line.new.self c.next-line.result.bytes.now c.next-line.result.fed c.in-Ok.more c.said.new.words
    c.checked.result c.requires.so_far c.next-line.ensures.next
    (subst (λ ws. Says (said_form c.args.packets c.args.report.now ws) c.args.report.now (Ok c.in-Ok.more) c.said.new.report c.said.new.words) c.of.ensures c.in-Ok.ensures)
    (c.checked.ensures ∙ ap (λ n. line_answer c.next-line.result.fed n (Ok c.in-Ok.more)) c.next-line.ensures.number)

pub returns-in-Err : goal.returns-in-Err
returns-in-Err c =
    subst (λ (e : ReportError). IsRefusal (body c.args.packets c.args.report.now c.args.self.now) e.line e.cause)
    (sym (c.refused.ensures ∙ ap (λ n. refusal_at n c.in-Err.cause) c.next-line.ensures.number))
    (goes_err c.args.packets c.args.report.now c.said.new.report c.args.self.now c.next-line.new.self c.next-line.result.bytes.now c.next-line.result.fed c.in-Err.cause c.said.new.words
    c.next-line.ensures.next
    (subst (λ ws. Says (said_form c.args.packets c.args.report.now ws) c.args.report.now (Err c.in-Err.cause) c.said.new.report c.said.new.words) c.of.ensures c.in-Err.ensures))
