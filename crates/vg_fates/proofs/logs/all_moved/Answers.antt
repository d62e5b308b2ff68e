use Rattle.std.proofs.Common.{rules, ◌∙◌, ap, arith, length, slice_set}
use Rattle.std.proofs.lemmas.List.Edits.{map_over_more}
use Rattle.vg_fates.specs.Logs.{moved_behind}
use Rattle.vg_fates.proofs.logs.all_moved.Goals as goal

pub loop-entry-preserved : goal.loop-entry-preserved
loop-entry-preserved c =
    let inside = c.loop-entry-test.true in
    let same = ap length c.deref_mut-entry-items.ensures.value in
    ap (λ entry. slice_set c.loop-entry.entry-items c.loop-entry.entry-index entry) c.moved.ensures
    ∙ map_over_more (moved_behind c.args.places) c.args.entries.items c.loop-entry.entry-items c.loop-entry.entry-index _ (omega (arith, inside, same)) c.loop-entry.invariant (search rules)
