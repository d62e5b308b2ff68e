-- For `raise_first`: one place more is raised.
use Rattle.std.proofs.Common.{◌≡◌, ◌+◌, ◌-◌, ◌<◌, length, sym, ap, subst, ◌∙◌, arith}
use Rattle.vg_model.specs.Route.{ip4}
use Rattle.vg_fib.specs.Numbers.{changed_by}
use Rattle.vg_fib.specs.Entries.{IsShort}
use Rattle.vg_fib.proofs.EntryLemmas.{changed_short}
use Rattle.vg_fib.proofs.LevelLemmas.{entry_read, fewer_children}
use Rattle.vg_fib.proofs.RaiseLemmas.{leaf_raised_first, child_raised_first, counted_first}
use Rattle.vg_fib.proofs.trie.Levels.raise_first.Goals as goal
use Rattle.vg_fib.proofs.trie.Levels.raise_first.Goals.{in-Leaf, in-Child}

pub raise_second-requires-clause-places : goal.raise_second-requires-clause-places
raise_second-requires-clause-places c =
    let raised = c.loop-place.invariant.raised in
    let place = c.loop-place.place in
    let within : place < length c.loop-place.self.first.items = omega (arith, c.loop-place-test.true, c.requires.places, c.requires.shape.all, raised.same_length) in
    let is = entry_read c.loop-place.self.first.items place _ _ _ within c.index.ensures c.entry.ensures.entry c.in-Child.is in
    omega (arith, c.requires.shape.first_children.within _ _ (raised.no_more _ _ is), raised.second)

pub raise_second-requires-clause-children : goal.raise_second-requires-clause-children
raise_second-requires-clause-children c =
    let raised = c.loop-place.invariant.raised in
    fewer_children _ _ _ _ c.requires.shape.second_children (omega (arith, raised.third)) raised.no_more_below

pub leaf-requires : goal.leaf-requires
leaf-requires c =
    let short = subst IsShort c.in-Leaf.is c.entry.ensures.short in
    omega (arith, c.next-last.ensures.after, changed_short c.args.slots.now c.args.change c.in-Leaf.old c.requires.fits short)

pub loop-place-preserved : goal.loop-place-preserved
loop-place-preserved c =
    let raised = c.loop-place.invariant.raised in
    let place = c.loop-place.place in
    let from = c.args.from in
    let f = changed_by ip4 c.args.slots.now c.args.change in
    let old = c.args.self.now in
    let mid = c.loop-place.self in
    let here : place ≡ from + (place - from) = omega arith in
    let next : place - from + 1 ≡ place + 1 - from = omega arith in
    let old_within : place < length old.first.items = omega (arith, c.loop-place-test.true, c.requires.places, c.requires.shape.all) in
    let within : place < length mid.first.items = omega (arith, old_within, raised.same_length) in
    elim c.match-entry.branch [
      | in-Leaf w ↦
          let is = entry_read mid.first.items place _ _ _ within c.index.ensures c.entry.ensures.entry w.in-Leaf.is in
          let more = leaf_raised_first f from (place - from) place w.in-Leaf.old old.first.items old.second.items old.third.items
          mid.first.items mid.second.items mid.third.items raised here old_within is in
          record {
            raised = rw (w.self-is, w.leaf.ensures, w.next-last.ensures.after) (counted_first f from _ _ _ _ _ _ _ _ next more);
            known = rw w.last-is (w.next-last.ensures.after ∙ ap f (sym w.next-last.ensures.number));
          }
      | in-Child w ↦
          let is = entry_read mid.first.items place _ _ _ within c.index.ensures c.entry.ensures.entry w.in-Child.is in
          let more = child_raised_first f from (place - from) place w.in-Child.child old.first.items old.second.items old.third.items
          mid.first.items mid.second.items mid.third.items _ _ c.requires.shape.first_children raised here is w.raise_second.ensures in
          record {
            raised = rw w.self-is (counted_first f from _ _ _ _ _ _ _ _ next more);
            known = rw w.last-is c.loop-place.invariant.known;
          }
    ]
