use Rattle.std.proofs.Common.{◌∙◌, ap, length, List, ℕ, ◌-◌}
use Rattle.std.specs.Prelude.{slice_set, slice_index}
use Rattle.std.specs.Int.{w16, to_be_bytes}
use Rattle.vg_model.specs.Bytes.{overwritten}
use Rattle.vg_packet.proofs.UpdateLemmas.{written_at}
use Rattle.vg_packet.proofs.checksums.lower_ttl.Goals as goal
use borrow.Rule.Slice.PartMut.{put_mid}

pub returns : goal.returns
returns c =
    let h = c.args.header.now in
    let less : List ℕ = slice_set h 8 (slice_index h 8 - 1) in
    ap (λ part. put_mid 10 (length less - 10) less part) c.write_u16.ensures
    ∙ written_at less c.lowered_checksum-checksum.result
    ∙ ap (λ checksum. overwritten less 10 (to_be_bytes w16 checksum)) c.lowered_checksum-checksum.ensures
