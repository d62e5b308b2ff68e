use Rattle.std.proofs.Common.{◌≡◌, ℕ, List, subst, sym, ap, ◌∙◌}
use Rattle.std.specs.Prelude.{Ok}
use Rattle.vg_model.specs.Name.{IsName}
use Rattle.vg_report.specs.Lawful.{names}
use Rattle.vg_report.proofs.FormLemmas.{IsNextWord, declared_read, declared_missed}
use Rattle.vg_report.proofs.ListLemmas.{name_at_place}
use Rattle.vg_report.proofs.parts.Parts.declared_name.Goals as goal

pub returns-in-Some : goal.returns-in-Some
returns-in-Some c =
    let word = c.in_ok-word.word.now in
    let same : c.copied.result ≡ word =
    c.copied.ensures.same ∙ ap (λ (entry : List ℕ × ℕ). entry.0) (sym c.index-declared-place.is)
    ∙ name_at_place c.args.declared.now word c.in-Some.place c.index-declared-place.result c.in-Some.ensures.value c.index-declared-place.is in
    let at : IsNextWord c.args.self.now c.word.new.self word = record { read = c.in_ok-word.ensures } in
    declared_read (names c.args.declared.now) c.in-Some.place at (subst IsName same c.copied.ensures.name) c.in-Some.ensures.value
    ∙ ap (λ n. Ok (n, c.word.new.self)) (sym same)

pub returns-in-None : goal.returns-in-None
returns-in-None c =
    let at : IsNextWord c.args.self.now c.word.new.self c.in_ok-word.word.now = record { read = c.in_ok-word.ensures } in
    declared_missed (names c.args.declared.now) at c.in-None.ensures.value
