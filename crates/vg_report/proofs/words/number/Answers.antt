use Rattle.std.proofs.Common.{◌∙◌, arith}
use Rattle.vg_report.proofs.WordLemmas.{none_within}
use Rattle.vg_report.proofs.words.number.Goals as goal

pub returns-in_err-number-clause-value : goal.returns-in_err-number-clause-value
returns-in_err-number-clause-value c = c.from_residual.ensures ∙ none_within c.args.least c.args.most c.args.word.now (omega arith) c.in_err-number.ensures
