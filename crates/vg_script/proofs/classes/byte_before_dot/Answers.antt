-- For `byte_before_dot`: no number, one that is no byte, and one that is.
use Rattle.std.proofs.Common.{sym, arith}
use Rattle.std.specs.List.{before_first}
use Rattle.vg_script.proofs.FrontLemmas.{is_dot, front_is}
use Rattle.vg_script.proofs.NumberLemmas.{number_missing, number_taken, number_left}
use Rattle.vg_script.proofs.classes.byte_before_dot.Goals as goal

pub returns-in_err-number : goal.returns-in_err-number
returns-in_err-number c =
    rw c.from_residual.ensures
    (λ some. number_missing (before_first is_dot c.args.text.now) 255 (omega arith) ((front_is c.args.text.now).missing (sym c.in_err-number.ensures.value) some))

pub returns-then-number-le255 : goal.returns-then-number-le255
returns-then-number-le255 c =
    let found = (front_is c.args.text.now).there c.in_ok-number.number c.in_ok-number.rest.now (sym c.in_ok-number.ensures.value) in
    (number_taken (before_first is_dot c.args.text.now) 255 c.in_ok-number.number found.0 c.if-number-le255.true, found.1)

pub returns-else-number-le255 : goal.returns-else-number-le255
returns-else-number-le255 c =
    let found = (front_is c.args.text.now).there c.in_ok-number.number c.in_ok-number.rest.now (sym c.in_ok-number.ensures.value) in
    λ some. number_left (before_first is_dot c.args.text.now) 255 c.in_ok-number.number found.0 c.if-number-le255.false
