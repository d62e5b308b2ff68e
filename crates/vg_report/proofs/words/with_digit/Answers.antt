use Rattle.std.proofs.Common.{sym, ◌∙◌, true≢false, arith}
use Rattle.vg_report.proofs.words.with_digit.Goals as goal

pub returns-then-not-is_ascii_digit : goal.returns-then-not-is_ascii_digit
returns-then-not-is_ascii_digit c = λ digit. absurd (true≢false (sym digit ∙ sym c.if-not-is_ascii_digit.ensures.value))

pub returns-in_err-tens : goal.returns-in_err-tens
returns-in_err-tens c = rw c.from_residual.ensures (λ digit. omega (arith, c.in_err-tens.ensures))

pub returns-in_err-more : goal.returns-in_err-more
returns-in_err-more c = rw c.from_residual-in_err-more.ensures (λ digit. omega (arith, c.in_ok-tens.ensures.1, c.in_err-more.ensures))

pub returns : goal.returns
returns c = (sym c.if-not-is_ascii_digit.ensures.value, omega (arith, c.in_ok-tens.ensures.1, c.in_ok-more.ensures.1))
