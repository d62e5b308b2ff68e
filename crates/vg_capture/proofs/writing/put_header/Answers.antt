use Rattle.std.proofs.Common.{◌≡◌, ◌∙◌, ap, sym, ◌++◌}
use Rattle.std.proofs.lemmas.Result.{on_ok_weaker}
use Rattle.byteorder.specs.Endian.{little_bytes}
use Rattle.vg_capture.specs.Savefile.{magic_of}
use Rattle.vg_capture.proofs.WriteLemmas.{header_appended}
use Rattle.vg_capture.proofs.writing.put_header.Goals as goal
use Rattle.vg_capture.proofs.writing.put_header.Goals.{then-capture, else-capture}

pub returns : goal.returns
returns c =
    let magic : c.if-capture.magic ≡ magic_of c.args.capture.now.nanos =
    elim c.if-capture.branch [ then-capture w ↦ w.magic-is ∙ ap magic_of (sym w.if-capture.true) | else-capture w ↦ w.magic-is ∙ ap magic_of (sym w.if-capture.false) ] in
    on_ok_weaker c.write_u32-5.result (λ e. e
    ∙ (ap (λ x. x ++ little_bytes 4 1) (c.in_ok-write_u32-4.ensures.bytes
    ∙ ap (λ x. x ++ little_bytes 4 c.args.capture.now.snaplen) (c.in_ok-write_u32-3.ensures.bytes
    ∙ ap (λ x. x ++ little_bytes 4 0) (c.in_ok-write_u32-2.ensures.bytes
    ∙ ap (λ x. x ++ little_bytes 4 0) (c.in_ok-write_u16-2.ensures.bytes
    ∙ ap (λ x. x ++ little_bytes 2 4) (c.in_ok-write_u16.ensures.bytes
    ∙ ap (λ x. x ++ little_bytes 2 2) (c.in_ok-write_u32.ensures.bytes ∙ ap (λ m. c.args.out.now.items ++ little_bytes 4 m) magic))))))
    ∙ header_appended c.args.out.now.items (little_bytes 4 (magic_of c.args.capture.now.nanos)) (little_bytes 2 2) (little_bytes 2 4)
    (little_bytes 4 0) (little_bytes 4 0) (little_bytes 4 c.args.capture.now.snaplen) (little_bytes 4 1))) c.write_u32-5.ensures.bytes
