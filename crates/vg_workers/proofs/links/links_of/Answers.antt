use Rattle.std.proofs.Common.{◌≡◌, ℕ, length, rules, subst}
use Rattle.vg_workers.specs.Linking.{AreLinkedUpTo}
use Rattle.vg_workers.proofs.LinkLemmas.{linked_none, linked_all}
use Rattle.vg_workers.proofs.links.links_of.Goals as goal

pub loop-from-init : goal.loop-from-init
loop-from-init c = record { end = search rules; count = search rules; linked = linked_none c.args.slots _ c.in_ok-links.ensures.none }

pub returns : goal.returns
returns c =
    let inv = c.loop-from.invariant in
    let end : c.loop-from.from ≡ length c.loop-from.links.items = search rules in
    linked_all c.args.slots c.args.workers c.loop-from.links.items inv.count (subst (λ (n : ℕ). AreLinkedUpTo c.args.slots n 0 0 c.loop-from.links.items) end inv.linked)
