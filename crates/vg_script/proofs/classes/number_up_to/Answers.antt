-- For `number_up_to`: a number below a thousand is taken where it is small enough.
use Rattle.std.proofs.Common.{◌∙◌}
use Rattle.vg_script.proofs.NumberLemmas.{number_missing, number_taken, number_left}
use Rattle.vg_script.proofs.classes.number_up_to.Goals as goal

pub returns-in_err-number-clause-value : goal.returns-in_err-number-clause-value
returns-in_err-number-clause-value c = c.from_residual.ensures ∙ number_missing c.args.word.now c.args.most c.requires c.in_err-number.ensures

pub returns-then-number-most-clause-value : goal.returns-then-number-most-clause-value
returns-then-number-most-clause-value c =
    number_taken c.args.word.now c.args.most c.in_ok-number.number c.in_ok-number.ensures c.if-number-most.true

pub returns-else-number-most-clause-value : goal.returns-else-number-most-clause-value
returns-else-number-most-clause-value c =
    number_left c.args.word.now c.args.most c.in_ok-number.number c.in_ok-number.ensures c.if-number-most.false
