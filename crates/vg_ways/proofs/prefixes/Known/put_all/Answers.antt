-- For `Known::put_all`: its loop, what a call requires, its clause.
use Rattle.std.proofs.Common.{refl}
use Rattle.vg_ways.proofs.PrefixLemmas.{edit_more, edits_done}
use Rattle.vg_ways.proofs.prefixes.Known.put_all.Goals as goal

pub loop-edit-init : goal.loop-edit-init
loop-edit-init c = record { whole = c.requires; later = refl; later6 = refl }

pub put-requires : goal.put-requires
put-requires c = c.loop-edit.invariant.whole

pub loop-edit-preserved : goal.loop-edit-preserved
loop-edit-preserved c = edit_more (record { within = c.loop-edit-test.true; read = c.edit-item.is }) c.loop-edit.invariant c.in_ok-put.ensures

pub returns : goal.returns
returns c = edits_done c.loop-edit.edit-index c.as_slice-edit-items.ensures c.loop-edit-test.false c.loop-edit.invariant
