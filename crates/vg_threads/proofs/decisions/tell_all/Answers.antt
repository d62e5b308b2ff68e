use Rattle.std.proofs.Common.{set, sym, arith, ◌∙◌, ap}
use Rattle.std.proofs.lemmas.List.Edits.{map_over_more}
use Rattle.std.proofs.lemmas.Option.{get_or_from_slice_get}
use Rattle.vg_dispatch.specs.declared.parcels.WorkerParcel.{WorkerParcel}
use Rattle.vg_threads.specs.Renewals.{told}
use Rattle.vg_threads.proofs.decisions.tell_all.Goals as goal

pub loop-k-preserved : goal.loop-k-preserved
loop-k-preserved c =
    let inv = c.loop-k.invariant in
    let now = c.loop-k.held.parcels.items in
    let was = c.parcel_mut.result.now in
    let is = get_or_from_slice_get now c.loop-k.k was was (sym c.parcel_mut.ensures.value) in
    let within = c.loop-k-test.true in (
      inv.0,
      inv.1,
      ap (λ (w : WorkerParcel). set now c.loop-k.k w) c.tell.ensures ∙ map_over_more (told c.args.stop) c.args.held.now.parcels.items now c.loop-k.k was (omega (arith, inv.1, within)) inv.2 (sym is),
    )
