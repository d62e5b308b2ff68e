-- For `lay`: its clause, where the bytes stand within the list.
use Rattle.std.proofs.Common.{◌≡◌, ℕ, ◌+◌, ◌≤◌, List, length, ap, ◌∙◌, arith}
use Rattle.vg_land.specs.Ground.{Ground}
use Rattle.vg_land.proofs.Laying.{laid_within}
use Rattle.vg_land.proofs.plots.Plot.lay.Goals as goal

pub returns-clause-bytes : goal.returns-clause-bytes
returns-clause-bytes c =
    let xs : List ℕ = c.args.self.now.items in
    let ys : List ℕ = c.args.bytes.now in
    let same : length c.self.inside.bytes.items ≡ length xs = ap (λ (g : Ground). length g.items) c.self.view_is in
    let within : c.args.at + length ys ≤ length xs = omega (arith, same) in
    let with_items : List ℕ → Ground = λ items. record { items = items; cap = c.args.self.now.cap } in
    c.write.ensures.bytes ∙ ap with_items (laid_within xs ys c.args.at within)
