-- For what `told` answers: it is what is said of the packet's destination, where its line says that it was transmitted.
use Rattle.std.proofs.Common.{ap, sym, ◌∙◌}
use Rattle.std.specs.Prelude.{None, slice_get, if◌then◌else◌}
use Rattle.vg_report.specs.Seen.{line_seen}
use Rattle.vg_remarks.specs.Addresses.{destination}
use Rattle.vg_remarks.specs.Packets.{said_of, told_of}
use Rattle.vg_remarks.proofs.PacketLemmas.{nothing_told, told_by}
use Rattle.vg_remarks.proofs.packets.told.Goals as goal

pub returns-in_err-one : goal.returns-in_err-one
returns-in_err-one c = λ led known.
    let number = c.args.number in
    c.from_residual.ensures
    ∙ sym (nothing_told led number (slice_get c.args.packets.now number) (slice_get c.args.lines.now number) c.bytes.result.now c.bytes.ensures
    (ap (said_of led number) (sym c.destination.ensures) ∙ sym (c.in_err-one.ensures led known)))

pub returns-then-is_sent : goal.returns-then-is_sent
returns-then-is_sent c = λ led known.
    let number = c.args.number in
    let packet = slice_get c.args.packets.now number in
    let bytes = c.bytes.result.now in
    sym (ap (told_of led number packet) c.get.ensures
    ∙ (told_by led number packet (line_seen c.get.result) bytes c.bytes.ensures
    ∙ (ap (λ b. if b then said_of led number (destination bytes) else None) (sym c.is_sent.ensures ∙ c.if-is_sent.true)
    ∙ (ap (said_of led number) (sym c.destination.ensures) ∙ sym (c.in_ok-one.ensures led known)))))

pub returns-else-is_sent : goal.returns-else-is_sent
returns-else-is_sent c = λ led known.
    let number = c.args.number in
    let packet = slice_get c.args.packets.now number in
    let bytes = c.bytes.result.now in
    sym (ap (told_of led number packet) c.get.ensures
    ∙ (told_by led number packet (line_seen c.get.result) bytes c.bytes.ensures
    ∙ ap (λ b. if b then said_of led number (destination bytes) else None) (sym c.is_sent.ensures ∙ c.if-is_sent.false)))
