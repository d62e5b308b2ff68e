-- For `are_in_order`: the loop looks at one entry more, and in the end at all.
use Rattle.std.proofs.Common.{subst, arith}
use Rattle.std.specs.List.Sorted.{IsNonDecreasingBy}
use Rattle.std.proofs.lemmas.List.{take_all}
use Rattle.vg_fates.specs.declared.logs.LogEntry.{LogEntry}
use Rattle.vg_fates.specs.Logs.{fate_in}
use Rattle.vg_fates.proofs.LogLemmas.{none_in_order, one_more_in_order}
use Rattle.vg_fates.proofs.logs.are_in_order.Goals as goal

pub loop-entry-init : goal.loop-entry-init
loop-entry-init c = none_in_order (λ (entry : LogEntry). (fate_in c.args.others.now entry).number) 0

pub loop-entry-preserved : goal.loop-entry-preserved
loop-entry-preserved c =
    one_more_in_order (λ (entry : LogEntry). (fate_in c.args.others.now entry).number) c.loop-entry.least c.args.entries.now c.loop-entry.entry-index _ c.number_of-number.result
    c.loop-entry.invariant c.loop-entry-test.true c.number_of-number.ensures (omega arith)

pub returns : goal.returns
returns c =
    subst (IsNonDecreasingBy (λ (entry : LogEntry). (fate_in c.args.others.now entry).number))
    (take_all c.loop-entry.entry-index c.args.entries.now c.loop-entry-test.false)
    c.loop-entry.invariant.rise
