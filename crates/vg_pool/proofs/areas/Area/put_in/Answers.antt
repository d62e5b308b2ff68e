use Rattle.std.proofs.Common.{◌≡◌, ℕ, ◌-◌, List, length, take, ap, ◌∙◌, rules}
use Rattle.vg_model.specs.Bytes.{overwritten}
use Rattle.vg_pool.specs.Areas.{Held}
use Rattle.vg_pool.proofs.AreaLemmas.{put_front}
use Rattle.vg_pool.proofs.areas.Area.put_in.Goals as goal

pub returns : goal.returns
returns c =
    let held : List ℕ = c.args.self.now.bytes in
    let wide : Held = c.widen.new.self in
    let front : List ℕ = c.copy_from_slice.new.self in
    let is : front ≡ take 12 held = c.copy_from_slice.ensures.after ∙ ap (take 12) c.bytes.ensures in
    let four : length c.args.tag ≡ 4 = search rules in
    let behind : Held → Held = λ w. record { room = w.room; bytes = overwritten w.bytes 12 c.args.tag } in
    let with_room : ℕ → Held = λ room. record { room = room; bytes = overwritten (overwritten wide.bytes 0 front) 12 c.args.tag } in
    let with_bytes : List ℕ → Held = λ bytes. record { room = c.args.self.now.room - 4; bytes = bytes } in
    c.write-2.ensures ∙ ap behind c.write.ensures ∙ ap with_room c.widen.ensures.room ∙ ap with_bytes (put_front held wide.bytes front c.args.tag c.requires.long c.widen.ensures.bytes is four)
