-- For what `LastAddresses::contains` answers: an address whose bit isn't set is none of them.
use Rattle.std.proofs.Common.{ap, sym, ◌∙◌}
use Rattle.vg_remarks.specs.Lasts.{has, is_marked}
use Rattle.vg_remarks.proofs.LastLemmas.{not_marked}
use Rattle.vg_remarks.proofs.lasts.LastAddresses.contains.Goals as goal

pub returns-else-is_marked : goal.returns-else-is_marked
returns-else-is_marked c =
    let address = c.args.address in
    let unmarked = ap (λ marks. is_marked marks address) (sym c.as_slice.ensures.value) ∙ (sym c.is_marked.ensures ∙ c.if-is_marked.false) in
    c.if-is_marked.false
    ∙ sym (ap (λ addresses. has addresses address) (sym c.self.view_is)
    ∙ not_marked c.self.inside.addresses.items c.self.inside.marks.items address c.self.invariant.1 unmarked)
