use Rattle.std.proofs.Common.{◌++◌, length, ap, ◌∙◌, append_assoc}
use Rattle.std.proofs.lemmas.Result.{on_ok_weaker}
use Rattle.vg_capture.specs.Places.{head_of}
use Rattle.vg_capture.proofs.WriteLemmas.{sent_is}
use Rattle.vg_capture.proofs.writing.Savefile.put.Goals as goal

pub returns : goal.returns
returns c = on_ok_weaker c.put.result (λ e. e
    ∙ ap (λ before. before ++ c.args.bytes.now) c.in_ok-put_head.ensures
    ∙ append_assoc c.self.inside.bytes.items (head_of c.marks-marks.result (length c.args.bytes.now)) c.args.bytes.now
    ∙ ap (λ before. before ++ (head_of c.marks-marks.result (length c.args.bytes.now) ++ c.args.bytes.now)) c.self.view_is
    ∙ ap (λ more. c.args.self.now ++ more) (sent_is c.args.capture.now.packets c.args.number c.args.bytes.now c.marks-marks.result c.marks-marks.ensures)) c.put.ensures
