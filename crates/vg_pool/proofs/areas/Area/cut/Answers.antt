use Rattle.std.proofs.Common.{◌≡◌, ℕ, ◌+◌, List, take, drop, ap, ◌∙◌}
use Rattle.vg_pool.specs.Areas.{Held}
use Rattle.vg_pool.proofs.AreaLemmas.{cut_front}
use Rattle.vg_pool.proofs.areas.Area.cut.Goals as goal

pub returns : goal.returns
returns c =
    let held : List ℕ = c.args.self.now.bytes in
    let front : List ℕ = c.copy_from_slice.new.self in
    let is : front ≡ take 12 held = c.copy_from_slice.ensures.after ∙ ap (take 12) c.bytes.ensures in
    let narrowed : Held → Held = λ w. record { room = w.room + 4; bytes = drop 4 w.bytes } in
    let with_room : List ℕ → Held = λ bytes. record { room = c.args.self.now.room + 4; bytes = bytes } in
    c.narrow.ensures ∙ ap narrowed c.write.ensures ∙ ap with_room (cut_front held front c.requires is)
