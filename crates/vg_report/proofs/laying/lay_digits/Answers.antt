-- For `lay_digits`: the digits of the table.
use Rattle.std.proofs.Common.{ℕ, ◌+◌, ◌*◌, ◌/◌, List, [], ◌∷◌, ◌++◌, take, get_or, ap, ◌∙◌}
use Rattle.vg_report.specs.declared.laying.TheConstants.{PAIRS}
use Rattle.vg_report.proofs.DigitLemmas.{pair_at}
use Rattle.vg_report.proofs.LayLemmas.{two_laid}
use Rattle.vg_report.proofs.laying.lay_digits.Goals as goal

pub returns-clause-laid : goal.returns-clause-laid
returns-clause-laid c =
    let number = c.args.number in
    let before : List ℕ = take c.args.at c.args.list.now in
    let digits = pair_at number c.requires.low in
    two_laid c.args.list.now c.args.at (get_or PAIRS (number * 2) 0) (get_or PAIRS (number * 2 + 1) 0) c.requires.room
    ∙ ap (λ d. before ++ d ∷ get_or PAIRS (number * 2 + 1) 0 ∷ []) digits.0
    ∙ ap (λ d. before ++ (48 + number / 10) ∷ d ∷ []) digits.1
