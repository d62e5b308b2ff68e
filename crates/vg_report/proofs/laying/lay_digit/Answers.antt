-- For `lay_digit`: the byte of the digit.
use Rattle.std.proofs.Common.{◌+◌}
use Rattle.std.proofs.lemmas.List.{take_more_set}
use Rattle.vg_report.proofs.laying.lay_digit.Goals as goal

pub returns-clause-laid : goal.returns-clause-laid
returns-clause-laid c = take_more_set c.args.list.now c.args.at (48 + c.args.digit) c.requires.room
