-- For `lay_number`: one digit, two digits, or one and two behind it.
use Rattle.std.proofs.Common.{ℕ, ◌+◌, ◌/◌, ◌%◌, List, [], ◌∷◌, ◌++◌, take, decimal, ap, sym, ◌∙◌, append_assoc, arith}
use Rattle.std.proofs.lemmas.Fmt.{decimal_digit}
use Rattle.itoa.proofs.Decimal.{decimal_pair, decimal_two}
use Rattle.vg_report.proofs.laying.lay_number.Goals as goal

pub returns-then-number-lt10-clause-laid : goal.returns-then-number-lt10-clause-laid
returns-then-number-lt10-clause-laid c =
    c.lay_digit.ensures.laid ∙ ap (λ digits. take c.args.at c.args.list.now ++ digits) (sym (decimal_digit c.args.number c.if-number-lt10.true))

pub returns-then-number-lt100-clause-laid : goal.returns-then-number-lt100-clause-laid
returns-then-number-lt100-clause-laid c =
    c.lay_digits.ensures.laid
    ∙ ap (λ digits. take c.args.at c.args.list.now ++ digits) (sym (decimal_two c.args.number c.if-number-lt10.false c.if-number-lt100.true))

pub returns-clause-laid : goal.returns-clause-laid
returns-clause-laid c =
    let number = c.args.number in
    let before : List ℕ = take c.args.at c.args.list.now in
    let low : List ℕ = (48 + number % 100 / 10) ∷ (48 + number % 100 % 10) ∷ [] in
    c.lay_digits-2.ensures.laid
    ∙ ap (λ front. front ++ low) c.lay_digit-tens.ensures.laid
    ∙ append_assoc before ((48 + number / 100) ∷ []) low
    ∙ ap (λ digit. before ++ (digit ++ low)) (sym (decimal_digit (number / 100) (omega (arith, c.requires.low))))
    ∙ ap (λ digits. before ++ digits) (sym (decimal_pair number c.if-number-lt100.false (omega (arith, c.requires.low))))
