-- For `Front::lay`: the text of the hundred, and the two digits behind it.
use Rattle.std.proofs.Common.{ℕ, ◌+◌, ◌/◌, ◌%◌, ◌<◌, ◌≤◌, ◌^◌, List, [], ◌∷◌, ◌++◌, take, codes, decimal, ap, sym, subst, ◌∙◌}
use Rattle.vg_report.proofs.LayLemmas.{number_laid}
use Rattle.vg_report.proofs.laying.Front.lay.Goals as goal

pub returns-clause-laid : goal.returns-clause-laid
returns-clause-laid c =
    let hundred = c.self.inside.hundred in
    let low = c.self.inside.low in
    let before : List ℕ = take c.args.at c.args.list.now in
    let digits : List ℕ = (48 + low / 10) ∷ (48 + low % 10) ∷ [] in
    let number = c.self.view_is in
    c.lay_digits.ensures.laid
    ∙ ap (λ front. front ++ digits) (c.lay-end.ensures.laid ∙ ap (λ text. before ++ text) c.self.invariant.1)
    ∙ number_laid before (codes "packet ") hundred low c.self.invariant.0 (subst (λ n. 100 ≤ n) (sym number) c.requires.number.0) (subst (λ n. n < 2 ^ 64) (sym number) c.requires.number.1)
    ∙ ap (λ n. before ++ (codes "packet " ++ decimal n)) number
