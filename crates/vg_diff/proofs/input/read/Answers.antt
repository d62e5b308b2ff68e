-- For the clause `stop` of `read`: the report is refused.
use Rattle.std.proofs.Common.{subst, sym}
use Rattle.vg_report.specs.Reading.{report_of, IsRefusal}
use Rattle.vg_diff.specs.Stops.{OnRefusal, IsCause, report_causes}
use Rattle.vg_diff.proofs.StopLemmas.{report_stops}
use Rattle.vg_diff.proofs.input.read.Goals as goal

pub returns-in-Err-clause-stop : goal.returns-in-Err-clause-stop
returns-in-Err-clause-stop c =
    let fault = c.in-Err.fault in
    subst (OnRefusal (IsCause (report_causes c.args.text.now))) (sym c.report_stop.ensures)
    (report_stops c.args.text.now fault (subst (λ text. IsRefusal (report_of text) fault.line fault.cause) c.as_slice.ensures c.in-Err.ensures))
