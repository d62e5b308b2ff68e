use Rattle.std.proofs.Common.{ap, sym, ◌∙◌}
use Rattle.vg_report.specs.declared.errors.ReportCause.TheVariants as causes
use Rattle.vg_report.specs.Answers.{found}
use Rattle.vg_report.specs.Words.{name_of}
use Rattle.vg_report.proofs.FormLemmas.{class_read}
use Rattle.vg_report.proofs.WordLemmas.{name_read}
use Rattle.vg_report.proofs.parts.Parts.name.Goals as goal

pub returns : goal.returns
returns c =
    class_read name_of causes.Unknown c.args.self.now c.word.new.self c.in_ok-word.word.now c.of.result c.in_ok-word.ensures
    (name_read c.in_ok-word.word.now c.of.result c.of.ensures.some c.of.ensures.name)
    ∙ ap (λ r. found r c.word.new.self) (sym c.ok_or.ensures.value)
