-- For `lay_leg`: the space, the worker's digit and the colon, and the generation behind them.
use Rattle.std.proofs.Common.{ℕ, ◌+◌, List, [], ◌∷◌, ◌++◌, take, decimal, ap, sym, ◌∙◌, append_assoc, arith}
use Rattle.std.proofs.lemmas.Fmt.{decimal_digit}
use Rattle.vg_report.proofs.LayLemmas.{three_laid}
use Rattle.vg_report.proofs.laying.lay_leg.Goals as goal

pub returns-clause-laid : goal.returns-clause-laid
returns-clause-laid c =
    let leg = c.args.leg in
    let before : List ℕ = take c.args.at c.args.list.now in
    let number : List ℕ = decimal leg.generation in
    c.lay_number.ensures.laid
    ∙ ap (λ l. l ++ number) (three_laid c.args.list.now c.args.at 32 (48 + leg.worker) 58 (omega (arith, c.requires.room)))
    ∙ append_assoc before (32 ∷ (48 + leg.worker) ∷ 58 ∷ []) number
    ∙ ap (λ worker. before ++ 32 ∷ (worker ++ 58 ∷ number)) (sym (decimal_digit leg.worker c.requires.leg.0))
