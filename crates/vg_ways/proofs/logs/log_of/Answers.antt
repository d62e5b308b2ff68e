-- For `log_of`: its loop, what a call requires, its clause.
use Rattle.std.proofs.Common.{arith}
use Rattle.vg_ways.proofs.CountLemmas.{none_counted, take_few, has_room, log_more, log_done}
use Rattle.vg_ways.proofs.logs.log_of.Goals as goal

pub loop-entry-init : goal.loop-entry-init
loop-entry-init c = none_counted c.args.generations _ _ c.in_ok-no_tallies.ensures c.new.ensures

pub put_entry-requires : goal.put_entry-requires
put_entry-requires c =
    has_room c.loop-entry.log c.entry-item.result (let few = take_few c.loop-entry.entry-index c.args.entries.now in let before = c.loop-entry-test.true in omega (arith, few, before))
    c.loop-entry.invariant

pub loop-entry-preserved : goal.loop-entry-preserved
loop-entry-preserved c =
    log_more c.loop-entry.log c.put_entry.new.log (record { within = c.loop-entry-test.true; read = c.entry-item.is }) c.loop-entry.invariant c.in_ok-put_entry.ensures.tallies c.in_ok-put_entry.ensures.all

pub returns : goal.returns
returns c = log_done c.args.generations c.args.entries.now c.loop-entry.entry-index c.loop-entry.log c.loop-entry-test.false c.loop-entry.invariant
