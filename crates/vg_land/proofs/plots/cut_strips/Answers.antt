use Rattle.std.proofs.Common.{rules, ◌≡◌, ℕ, ◌+◌, ◌-◌, ◌*◌, List, [], ◌∷◌, ◌++◌, replicate, sym, ap, ◌∙◌}
use Rattle.std.proofs.lemmas.List.{replicate-append-replicate}
use Rattle.vg_land.specs.Ground.{Loan}
use Rattle.vg_land.proofs.Rows.{rows_left}
use Rattle.vg_land.proofs.plots.cut_strips.Goals as goal

pub loop-preserved : goal.loop-preserved
loop-preserved c =
    let size : ℕ = c.args.size in
    let done : ℕ = c.loop.counter in
    let loan : ℕ → Loan = λ life. record { life = life; len = size } in
    let life : ℕ = c.cut-whole.result.0.life in
    let left : c.cut-whole.result.2.len ≡ (c.args.count - (done + 1)) * size =
    c.cut-whole.ensures.6 ∙ ap (λ n. n - size) c.loop.invariant.2 ∙ rows_left size c.loop-test.true in
    let items : c.push.new.self.items ≡ replicate (done + 1) (loan life) =
    c.in_ok-push.ensures.items
    ∙ ap (λ (l : List Loan). l ++ loan c.cut-whole.result.1.life ∷ []) c.loop.invariant.6
    ∙ ap (λ n. replicate done (loan n) ++ loan c.cut-whole.result.1.life ∷ []) (sym c.cut-whole.ensures.0)
    ∙ ap (λ n. replicate done (loan life) ++ loan n ∷ []) (c.cut-whole.ensures.1 ∙ sym c.cut-whole.ensures.0)
    ∙ replicate-append-replicate done 1 (loan life) in
    (search rules, search rules, left, search rules, search rules, search rules, items)
