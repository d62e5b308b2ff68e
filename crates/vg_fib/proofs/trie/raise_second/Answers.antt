-- For `raise_second`: one place more is raised.
use Rattle.std.proofs.Common.{◌≡◌, ◌+◌, ◌-◌, ◌<◌, length, sym, ap, subst, ◌∙◌, arith}
use Rattle.vg_model.specs.Route.{ip4}
use Rattle.vg_fib.specs.Numbers.{changed_by}
use Rattle.vg_fib.specs.Entries.{IsShort}
use Rattle.vg_fib.proofs.EntryLemmas.{changed_short}
use Rattle.vg_fib.proofs.LevelLemmas.{entry_read}
use Rattle.vg_fib.proofs.RaiseLemmas.{leaf_raised_second, child_raised_second, counted_second}
use Rattle.vg_fib.proofs.trie.raise_second.Goals as goal
use Rattle.vg_fib.proofs.trie.raise_second.Goals.{in-Leaf, in-Child}

pub raise_third-requires : goal.raise_third-requires
raise_third-requires c =
    let raised = c.loop-place.invariant.raised in
    let place = c.loop-place.place in
    let within : place < length c.loop-place.second.items = omega (arith, c.loop-place-test.true, c.requires.places, raised.same_length) in
    let is = entry_read c.loop-place.second.items place _ _ _ within c.index.ensures c.entry.ensures.entry c.in-Child.is in
    omega (arith, c.requires.children.within _ _ (raised.no_more _ _ is), raised.third)

pub leaf-requires : goal.leaf-requires
leaf-requires c =
    let short = subst IsShort c.in-Leaf.is c.entry.ensures.short in
    omega (arith, c.next-last.ensures.after, changed_short c.args.slots.now c.args.change c.in-Leaf.old c.requires.fits short)

pub loop-place-preserved : goal.loop-place-preserved
loop-place-preserved c =
    let raised = c.loop-place.invariant.raised in
    let place = c.loop-place.place in
    let from = c.args.from in
    let f = changed_by ip4 c.args.slots.now c.args.change in
    let old = c.args.second.now.items in
    let old_third = c.args.third.now.items in
    let here : place ≡ from + (place - from) = omega arith in
    let next : place - from + 1 ≡ place + 1 - from = omega arith in
    let old_within : place < length old = omega (arith, c.loop-place-test.true, c.requires.places) in
    let within : place < length c.loop-place.second.items = omega (arith, old_within, raised.same_length) in
    elim c.match-entry.branch [
      | in-Leaf w ↦
          let is = entry_read c.loop-place.second.items place _ _ _ within c.index.ensures c.entry.ensures.entry w.in-Leaf.is in
          let more = leaf_raised_second f from (place - from) place w.in-Leaf.old old c.loop-place.second.items old_third c.loop-place.third.items raised here old_within is in
          record {
            raised = rw (w.second-is, w.third-is, w.leaf.ensures, w.next-last.ensures.after) (counted_second f from _ _ _ _ _ _ next more);
            known = rw w.last-is (w.next-last.ensures.after ∙ ap f (sym w.next-last.ensures.number));
          }
      | in-Child w ↦
          let is = entry_read c.loop-place.second.items place _ _ _ within c.index.ensures c.entry.ensures.entry w.in-Child.is in
          let more = child_raised_second f from (place - from) place w.in-Child.child old c.loop-place.second.items old_third c.loop-place.third.items _
          c.requires.children raised here is w.raise_third.ensures in
          record {
            raised = rw (w.second-is, w.third-is) (counted_second f from _ _ _ _ _ _ next more);
            known = rw w.last-is c.loop-place.invariant.known;
          }
    ]
