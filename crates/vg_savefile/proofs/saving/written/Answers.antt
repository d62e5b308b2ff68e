use Rattle.std.proofs.Common.{ℕ, List, ◌++◌, take, ap, sym, ◌∙◌, append_assoc}
use Rattle.std.specs.Prelude.{flat_map}
use Rattle.vg_capture.specs.Savefile.{file_header, sent_in}
use Rattle.vg_savefile.proofs.WrittenLemmas.{records_more}
use Rattle.vg_savefile.proofs.saving.written.Goals as goal

pub loop-k-preserved : goal.loop-k-preserved
loop-k-preserved c =
    let capture = c.args.capture.now in
    let one : List ℕ = sent_in capture.packets (c.get-number.result.0, c.get-number.result.1.now) in
    c.in_ok-put.ensures ∙ ap (λ before. before ++ one) c.loop-k.invariant
    ∙ append_assoc (file_header capture) (flat_map (sent_in capture.packets) (take c.loop-k.k c.args.sent.now)) one
    ∙ ap (λ more. file_header capture ++ more) (sym (records_more capture.packets c.args.sent.now c.loop-k.k (c.get-number.result.0, c.get-number.result.1.now) c.get-number.ensures))
