-- For `Area::fill`: its clause.
use Rattle.std.proofs.Common.{ℕ, ◌+◌, ◌-◌, List, length, take, drop, ap, ◌∙◌}
use Rattle.vg_land.specs.Ground.{Ground}
use Rattle.vg_pool.specs.Areas.{Held}
use Rattle.vg_pool.proofs.AreaLemmas.{filled}
use Rattle.vg_pool.proofs.areas.Area.fill.Goals as goal

pub returns : goal.returns
returns c =
    let n : ℕ = length c.args.bytes.now in
    let s : ℕ = c.args.room in
    let with_room : List ℕ → Held = λ bytes. record { room = s; bytes = bytes } in
    ap (λ (g : Ground). with_room (take (s + n - s) (drop s g.items))) c.lay.ensures.bytes
    ∙ ap with_room (filled c.self.inside.plot.items c.args.bytes.now s)
