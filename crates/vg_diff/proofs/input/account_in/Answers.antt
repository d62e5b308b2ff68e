-- For the clause of `account_in`: why the report isn't one, or not that of the files.
use Rattle.vg_diff.specs.Stops.{report_causes, account_causes}
use Rattle.vg_diff.proofs.StopLemmas.{weaker_stop, report_of_account}
use Rattle.vg_diff.proofs.input.account_in.Goals as goal

pub returns-in-Err : goal.returns-in-Err
returns-in-Err c =
    weaker_stop (report_causes c.args.input.now.text) (account_causes c.args.input.now) (report_of_account c.args.input.now) c.in-Err.stop c.in-Err.ensures.stop
