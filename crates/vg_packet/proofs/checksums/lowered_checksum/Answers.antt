use Rattle.std.proofs.Common.{◌-◌, ◌∙◌, ap, arith}
use Rattle.std.proofs.lemmas.Bool.{eqb-true}
use Rattle.vg_model.specs.Bytes.{number16_at}
use Rattle.vg_model.proofs.Rewrites.{twelve_of}
use Rattle.vg_packet.specs.Update.{updated}
use Rattle.vg_packet.proofs.SumLemmas.{bytes_of_reads}
use Rattle.vg_packet.proofs.UpdateLemmas.{word_of, lowered_checksum_is}
use Rattle.vg_packet.proofs.checksums.lowered_checksum.Goals as goal

pub returns : goal.returns
returns c =
    let h = c.args.header.now in
    let cells = twelve_of h (omega (arith, c.requires.least)) in
    let bytes = bytes_of_reads h (λ i. omega (arith, c.type_inv.header i)) in
    let word = word_of h cells bytes c.requires.alive in
    c.raised_checksum.ensures (number16_at h 8) word.0 word.1
    ∙ ap (λ check. updated check (number16_at h 8) (number16_at h 8 - 256)) c.u16_at.ensures
    ∙ lowered_checksum_is h cells bytes (eqb-true _ _ c.requires.verified) c.requires.versioned c.requires.alive
