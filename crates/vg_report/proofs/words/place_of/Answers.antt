use Rattle.std.proofs.Common.{refl}
use Rattle.vg_model.proofs.SlotLemmas.{named_place}
use Rattle.vg_report.specs.Lawful.{names}
use Rattle.vg_report.proofs.words.place_of.Goals as goal

pub returns-clause-value : goal.returns-clause-value
returns-clause-value c =
    named_place (λ entry. entry.0) c.args.name.now c.args.entries.now (names c.args.entries.now) _ c.position_of.ensures.value refl
