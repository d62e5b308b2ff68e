use Rattle.std.proofs.Common.{sym, ◌∙◌, true≢false, arith}
use Rattle.vg_report.proofs.WordLemmas.{decimal_begins, none_read, one_more_read, all_read, grows_too_large}
use Rattle.vg_report.proofs.words.value_of.Goals as goal

pub returns-then-not-begins_as_decimal : goal.returns-then-not-begins_as_decimal
returns-then-not-begins_as_decimal c = λ decimal. absurd (true≢false (sym (decimal_begins c.args.word.now decimal) ∙ sym c.if-not-begins_as_decimal.ensures))

pub loop-byte-init : goal.loop-byte-init
loop-byte-init c = none_read c.args.word.now

pub loop-byte-preserved : goal.loop-byte-preserved
loop-byte-preserved c =
    one_more_read c.in_ok-number.number c.loop-byte-test.true c.loop-byte.invariant c.in_ok-number.ensures

pub returns-in_err-number : goal.returns-in_err-number
returns-in_err-number c =
    rw c.from_residual.ensures
    (grows_too_large c.loop-byte-test.true c.loop-byte.invariant c.in_err-number.ensures)

pub returns : goal.returns
returns c = all_read c.args.word.now c.loop-byte.byte-index c.loop-byte.number (omega (arith, c.loop-byte-test.false)) (sym c.if-not-begins_as_decimal.ensures) c.loop-byte.invariant
