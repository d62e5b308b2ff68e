-- For `put_under`: what a call requires, its clause `tallies`.
use Rattle.std.proofs.Common.{◌<◌, ◌-◌, ◌^◌, sym, ap, subst, ◌∙◌}
use Rattle.std.proofs.lemmas.Result.{on_ok_weaker}
use Rattle.vg_ways.specs.Tallied.{Tallied, counted_as, with_entry}
use Rattle.vg_ways.specs.Tallies.{tally_in}
use Rattle.vg_ways.proofs.CountLemmas.{tally_written, tally_read}
use Rattle.vg_ways.proofs.logs.put_under.Goals as goal

pub put-requires : goal.put-requires
put-requires c =
    let tallies = c.args.log.now.tallies.items in
    subst (λ (t : Tallied). counted_as c.args.entry t < 2 ^ 64 - 1)
    (sym (tally_read tally_in tallies c.args.generation c.index_mut.result.now c.requires.generation c.index_mut.ensures.value)) c.requires.room.under

pub returns-clause-tallies : goal.returns-clause-tallies
returns-clause-tallies c =
    let tallies = c.args.log.now.tallies.items in
    on_ok_weaker c.put-2.result
    (λ put.
    tally_written tally_in tallies c.args.generation c.put.new.self _
    (c.in_ok-put.ensures
    ∙ ap (λ t. with_entry t c.args.entry) (tally_read tally_in tallies c.args.generation c.index_mut.result.now c.requires.generation c.index_mut.ensures.value)))
    c.put-2.ensures
