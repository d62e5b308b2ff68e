use Rattle.std.proofs.Common.{◌++◌, length, ap, sym, subst, ◌∙◌}
use Rattle.vg_capture.specs.Places.{head_of}
use Rattle.vg_replay.specs.Legs.{outcome_of}
use Rattle.vg_check.proofs.SaveLemmas.{IsBehind, record_sent}
use Rattle.vg_check.proofs.saves.behind_sent.Goals as goal

pub returns-in-Sent : goal.returns-in-Sent
returns-in-Sent c =
    let t = c.args.trip.now in
    let marks = c.marks.result in
    let same = record_sent c.args.capture.now.packets c.args.number t c.in-Sent.interface marks (sym c.outcome.ensures ∙ ap outcome_of c.in-Sent.is) c.marks.ensures in
    subst (λ front. IsBehind front c.args.bytes.now c.behind_record.result) (ap (λ bytes. head_of marks (length bytes) ++ bytes) c.bytes.ensures.bytes ∙ sym same) c.behind_record.ensures
