use Rattle.std.proofs.Common.{ap, sym, ◌∙◌}
use Rattle.vg_script.specs.declared.errors.ScriptCause.TheVariants as causes
use Rattle.vg_script.specs.Classes.{name_of}
use Rattle.vg_script.specs.Keywords.{found}
use Rattle.vg_script.proofs.ClassLemmas.{name_read}
use Rattle.vg_script.proofs.FormLemmas.{class_read}
use Rattle.vg_script.proofs.words.Words.name.Goals as goal

pub returns : goal.returns
returns c =
    class_read name_of causes.Name c.args.self.now c.word.new.self c.in_ok-word.word.now c.of.result c.in_ok-word.ensures
    (name_read c.in_ok-word.word.now c.of.result c.of.ensures.some c.of.ensures.name)
    ∙ ap (λ r. found r c.word.new.self) (sym c.ok_or.ensures.value)
