use Rattle.std.proofs.Common.{sym, ap, ◌∙◌}
use Rattle.vg_report.specs.Answers.{line_answer}
use Rattle.vg_report.specs.Forms.{count_form}
use Rattle.vg_report.proofs.TextLemmas.{line_read}
use Rattle.vg_report.proofs.reading.Lines.count.Goals as goal

pub returns-clause-value : goal.returns-clause-value
returns-clause-value c =
    let form = count_form c.args.word.now c.args.least c.args.most in
    line_read form c.args.self.now c.next-line.new.self c.next-line.result.bytes.now c.next-line.result.fed c.count-read.result c.count-read.new.words c.checked.result
    c.next-line.ensures.next (ap form (sym c.of.ensures) ∙ c.count-read.ensures.value)
    (c.checked.ensures ∙ ap (λ n. line_answer c.next-line.result.fed n c.count-read.result) c.next-line.ensures.number)
