use Rattle.std.proofs.Common.{sym}
use Rattle.std.proofs.lemmas.Bool.{false≢true}
use Rattle.std.proofs.lemmas.Option.{slice_get_within, get_or_from_slice_get}
use Rattle.vg_check.proofs.SaveLemmas.{left_next, left_none}
use Rattle.vg_check.proofs.saves.are_records.Goals as goal

pub returns-in-None : goal.returns-in-None
returns-in-None c =
    let trips = c.args.trips.now in
    let k = c.loop-k.k in
    let t = c.get-trip.result in (
      (λ h. absurd (false≢true h)),
      (λ e. absurd (left_none c.args.capture.now.packets trips c.args.bytes.now c.loop-k.rest.now k t (slice_get_within trips k t c.get-trip.ensures) (sym (get_or_from_slice_get trips k t t c.get-trip.ensures)) c.loop-k.invariant c.in-None.ensures e)),
    )

pub loop-k-preserved : goal.loop-k-preserved
loop-k-preserved c =
    let trips = c.args.trips.now in
    let k = c.loop-k.k in
    let t = c.get-trip.result in
    left_next c.args.capture.now.packets trips c.args.bytes.now c.loop-k.rest.now c.in-Some.more.now k t (slice_get_within trips k t c.get-trip.ensures) (sym (get_or_from_slice_get trips k t t c.get-trip.ensures)) c.loop-k.invariant c.in-Some.ensures
