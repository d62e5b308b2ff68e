-- For what `PacketLines::named_fates` says: the lines of the fates are the first ones, and their ends have names.
use Rattle.std.proofs.Common.{◌∙◌, ap, sym, subst, length, take}
use Rattle.std.proofs.lemmas.List.{length-map}
use Rattle.vg_report.specs.Named.{line_by, lines_of, AreNamed}
use Rattle.vg_report.proofs.LineLemmas.{take_front}
use Rattle.vg_report.proofs.lists.PacketLines.named_fates.Goals as goal

pub returns-clause-first : goal.returns-clause-first
returns-clause-first c =
    let p = c.self.inside in
    ap (take (length p.fates)) (sym c.self.view_is)
    ∙ (take_front (length p.fates) (lines_of p.interfaces.items p.nodes.items p.fates) p.added.items (sym (length-map p.fates (line_by p.interfaces.items p.nodes.items)))
    ∙ (ap (λ names. lines_of names p.nodes.items p.fates) (sym c.as_slice.ensures.value)
    ∙ ap (λ names. lines_of c.as_slice.result.now names p.fates) (sym c.as_slice-2.ensures.value)))

pub returns-clause-named : goal.returns-clause-named
returns-clause-named c =
    let p = c.self.inside in
    subst (λ names. AreNamed c.as_slice.result.now names p.fates) (sym c.as_slice-2.ensures.value)
    (subst (λ names. AreNamed names p.nodes.items p.fates) (sym c.as_slice.ensures.value) c.self.invariant)
