use Rattle.std.proofs.Common.{◌++◌, ap, ◌∙◌}
use Rattle.std.proofs.lemmas.Result.{on_ok_weaker}
use Rattle.vg_capture.proofs.WriteLemmas.{numbers_appended}
use Rattle.vg_capture.proofs.writing.put_head.Goals as goal

pub returns : goal.returns
returns c = on_ok_weaker c.put-4.result (λ e. e
    ∙ ap (λ x. x ++ c.to_le_bytes-4.result) (c.in_ok-put-3.ensures
    ∙ ap (λ x. x ++ c.to_le_bytes-3.result) (c.in_ok-put-2.ensures
    ∙ ap (λ x. x ++ c.to_le_bytes-2.result) c.in_ok-put.ensures))
    ∙ numbers_appended c.args.out.now.items c.to_le_bytes.result c.to_le_bytes-2.result c.to_le_bytes-3.result c.to_le_bytes-4.result
    ∙ (λ i. c.args.out.now.items ++ (c.to_le_bytes.ensures i ++ (c.to_le_bytes-2.ensures i ++ (c.to_le_bytes-3.ensures i ++ c.to_le_bytes-4.ensures i))))) c.put-4.ensures
