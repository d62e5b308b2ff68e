use Rattle.std.proofs.Common.{◌≡◌, ◌-◌, ◌++◌, length, replicate, ap, ◌∙◌, arith, ℕ, List}
use Rattle.vg_land.specs.Ground.{Ground}
use Rattle.vg_land.proofs.plots.Plot.reach.Goals as goal

pub returns-clause-bytes : goal.returns-clause-bytes
returns-clause-bytes c =
    let with_items : List ℕ → Ground = λ items. record { items = items; cap = c.loop.self-inside.bytes.cap } in
    let with_cap : ℕ → Ground = λ cap. record { items = c.args.self.now.items ++ replicate (c.args.len - length c.args.self.now.items) 0; cap = cap } in
    let had : ℕ = length c.args.self.now.items in
    let done : c.loop.counter - had ≡ c.args.len - had = omega (arith, c.loop-test.false, c.loop.invariant.1) in
    ap with_items (c.loop.invariant.0 ∙ ap (λ n. c.args.self.now.items ++ replicate n 0) done) ∙ ap with_cap c.loop.invariant.4
