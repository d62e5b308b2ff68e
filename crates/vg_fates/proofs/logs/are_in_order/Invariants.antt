-- For `are_in_order`: the entries so far are in order, and none has a number above the last one's.
use Rattle.std.proofs.Common.{take}
use Rattle.vg_fates.specs.declared.logs.LogEntry.{LogEntry}
use Rattle.vg_fates.specs.Logs.{fate_in}
use Rattle.vg_fates.proofs.LogLemmas.{AreInOrder}
use Rattle.vg_fates.proofs.logs.are_in_order.Given as goal

abbrev pub invariant-loop-entry : goal.invariant-loop-entry
invariant-loop-entry l = AreInOrder (λ (entry : LogEntry). (fate_in l.others entry).number) l.least (take l.entry-index l.entries)
