use Rattle.std.proofs.Common.{◌≡◌, ℕ, ◌+◌, ◌-◌, ◌≤◌, List, length, slice_range, ◌∙◌, arith}
use Rattle.std.proofs.lemmas.List.Edits.{length-between}
use Rattle.vg_savefile.proofs.PlaceLemmas.{sent_made}
use Rattle.vg_savefile.proofs.placing.put_record.Goals as goal

pub returns : goal.returns
returns c =
    let back : c.args.start + c.args.len + 16 ≤ c.args.end = c.requires.back in
    let body : List ℕ = slice_range c.args.list.now c.args.start (c.args.start + c.args.len) in
    let size : length body ≡ c.args.len =
    length-between c.args.list.now c.args.start (c.args.start + c.args.len) (let within = c.requires.within in omega (arith, back, within))
    ∙ (let e : c.args.start + c.args.len - c.args.start ≡ c.args.len = omega arith in e) in
    sent_made c.args.capture.now.packets c.args.list.now c.move_back.new.list c.put_header.new.list body c.marks-marks.result c.args.number c.args.len c.args.end
    c.marks-marks.ensures size (omega (arith, back)) c.requires.within c.move_back.ensures c.put_header.ensures
