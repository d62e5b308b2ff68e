use Rattle.std.proofs.Common.{◌≡◌, ◌+◌, ◌<◌, ℕ, suc, length, set, get_or, rules, arith, sym, subst, refl, ◌∙◌, length-set}
use Rattle.vg_ring.specs.declared.ends.RingTx.{RingTx}
use Rattle.vg_journeys.specs.Accounts.{HandoffFrame}
use Rattle.vg_dispatch.specs.declared.links.WorkerLinks.{WorkerLinks}
use Rattle.vg_workers.specs.Linking.{AreLinkedUpTo}
use Rattle.vg_workers.proofs.LinkLemmas.{linked_more, linked_past, linked_next}
use Rattle.vg_workers.proofs.links.link_from.Goals as goal

pub loop-to-preserved-then-to-from : goal.loop-to-preserved-then-to-from
loop-to-preserved-then-to-from c =
    let inv = c.loop-to.invariant in
    let same : c.loop-to.to ≡ c.args.from = c.if-to-from.true in
    let past = linked_past c.args.slots c.args.from c.loop-to.links.items (subst (λ (n : ℕ). AreLinkedUpTo c.args.slots c.args.from n n c.loop-to.links.items) same inv.linked) in
    let next : suc c.args.from ≡ c.loop-to.to + 1 = omega (arith, same) in
    record { end = inv.end; count = inv.count; linked = subst (λ (n : ℕ). AreLinkedUpTo c.args.slots c.args.from n n c.loop-to.links.items) next past }

pub loop-to-preserved : goal.loop-to-preserved
loop-to-preserved c =
    let inv = c.loop-to.invariant in
    let items = c.loop-to.links.items in
    let one = c.index_mut.result.now in
    let one_new : WorkerLinks (RingTx HandoffFrame) = record { inputs = one.inputs; outputs = c.push.new.list } in
    let middle = set items c.args.from one_new in
    let other = c.index_mut-in-loop-to.result.now in
    let other_new : WorkerLinks (RingTx HandoffFrame) = record { inputs = c.push-in-loop-to.new.list; outputs = other.outputs } in
    let from_low : c.args.from < length items = search rules in
    let to_low : c.loop-to.to < length items = search rules in
    let one_is : one ≡ get_or items c.args.from one = search rules in
    let other_is : other ≡ get_or middle c.loop-to.to other = search rules in
    let more = linked_more c.args.slots c.args.from c.loop-to.to items one one_new other other_new _ _ c.if-to-from.false from_low to_low inv.linked one_is refl c.in_ok-push.ensures other_is refl
    c.in_ok-push-2.ensures c.in_ok-tx.ensures in
    let next : suc c.loop-to.to ≡ c.loop-to.to + 1 = omega arith in
    let size = length-set middle c.loop-to.to other_new ∙ length-set items c.args.from one_new in
    record { end = inv.end ∙ sym size; count = size ∙ inv.count; linked = subst (λ (n : ℕ). AreLinkedUpTo c.args.slots c.args.from n n (set middle c.loop-to.to other_new)) next more }

pub returns-clause-linked : goal.returns-clause-linked
returns-clause-linked c =
    let inv = c.loop-to.invariant in
    let end : c.loop-to.to ≡ length c.loop-to.links.items = search rules in
    let low : c.args.from < length c.loop-to.links.items = search rules in
    linked_next c.args.slots c.args.from c.loop-to.links.items low (subst (λ (n : ℕ). AreLinkedUpTo c.args.slots c.args.from n n c.loop-to.links.items) end inv.linked)
