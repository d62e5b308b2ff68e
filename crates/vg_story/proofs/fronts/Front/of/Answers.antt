-- For `Front::of`: its bytes are the first of the packet.
use Rattle.std.proofs.Common.{◌≡◌, ℕ, List, take, length, min, arith}
use Rattle.std.proofs.lemmas.Grind.{common_steps}
use Rattle.vg_story.proofs.FrontLemmas.{front_is}
use Rattle.vg_story.proofs.fronts.Front.of.Goals as goal

pub returns : goal.returns
returns c =
    let items : List ℕ = c.try_extend_from_slice.new.self.items in
    let are : items ≡ take (min 74 (length c.head-head.result.now)) c.head-head.result.now = grind (arith, common_steps, c.in-Ok.ensures.ok, c.min.ensures, c.new-bytes.ensures) in
    let bytes = front_is c.args.buffer.now.packet.bytes _ are c.head-head.ensures.head c.head-head.ensures.long in
    λ i. record { bytes = bytes i; len = c.len.ensures i }
