use Rattle.std.proofs.Common.{sym, ap, ◌∙◌}
use Rattle.std.specs.Prelude.{decimal, bytes_eq}
use Rattle.vg_script.proofs.PartLemmas.{begins_with, begins_else}
use Rattle.vg_script.proofs.classes.is_text_and_number.Goals as goal

pub returns-in-Some : goal.returns-in-Some
returns-in-Some c =
    c.eq.ensures
    ∙ ap (λ t. bytes_eq t c.as_bytes.result.now) c.in-Some.ensures.cases.1
    ∙ ap (bytes_eq _) (c.as_bytes.ensures.value ∙ c.format.ensures.text)
    ∙ sym (begins_with c.args.text.now c.args.word.now (decimal c.args.number) c.in-Some.ensures.cases.0)

pub returns-in-None : goal.returns-in-None
returns-in-None c = sym (begins_else c.args.text.now c.args.word.now (decimal c.args.number) c.in-None.ensures.cases)
