use Rattle.std.proofs.Common.{◌≡◌, true, subst, sym, arith}
use Rattle.std.specs.Prelude.{Err}
use Rattle.std.specs.Str.Parse.{ParsesUnsigned}
use Rattle.vg_script.specs.Classes.{is_decimal}
use Rattle.vg_script.proofs.ClassLemmas.{digits_are_utf8, decimal_digits, no_number}
use Rattle.vg_script.proofs.classes.number.Goals as goal

pub returns-in_default-clause-value : goal.returns-in_default-clause-value
returns-in_default-clause-value c =
    let decimal : is_decimal c.args.word.now ≡ true = sym c.if-not-is_decimal.ensures in
    absurd (c.in_default.ensures.cases.0 (digits_are_utf8 c.args.word.now (decimal_digits c.args.word.now decimal)))

pub returns-in-Err-clause-value : goal.returns-in-Err-clause-value
returns-in-Err-clause-value c =
    let decimal : is_decimal c.args.word.now ≡ true = sym c.if-not-is_decimal.ensures in
    no_number _ c.args.least c.args.most c.args.word.now c.in-Err.field-0 (omega (arith, c.ranges.most.fits)) decimal
    (subst (λ text. ParsesUnsigned 64 10 text (Err c.in-Err.field-0)) c.in-Ok.ensures.cases.0 (subst (ParsesUnsigned 64 10 c.in-Ok.digits.now) c.in-Err.is c.parse.ensures.value.0))
