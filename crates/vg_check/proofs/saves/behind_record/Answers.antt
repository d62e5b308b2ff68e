use Rattle.std.proofs.Common.{◌≡◌, ◌++◌, List, ℕ, None, length, rules}
use Rattle.vg_capture.specs.Places.{head_of}
use Rattle.vg_check.proofs.SaveLemmas.{behind_none, no_rest}
use Rattle.vg_check.proofs.saves.behind_record.Goals as goal

pub returns-in_err-bytes : goal.returns-in_err-bytes
returns-in_err-bytes c =
    let head : List ℕ = head_of c.args.marks (length c.args.packet.now) in
    let none : c.from_residual.result ≡ None = search rules in
    no_rest (head ++ c.args.packet.now) c.args.bytes.now c.from_residual.result none (behind_none head c.args.packet.now c.args.bytes.now c.in_err-bytes.ensures)
