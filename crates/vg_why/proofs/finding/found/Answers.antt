-- For `found`: its clauses `stop` and `text`.
use Rattle.std.proofs.Common.{subst}
use Rattle.std.specs.Prelude.{IfOk, IfErr}
use Rattle.std.proofs.lemmas.Result.{IfOk-weaker, IfErr-weaker}
use Rattle.vg_files.specs.Checks.{CheckBytes, AreInputs, inputs_in}
use Rattle.vg_files.specs.Stops.{OnRefusal, IsRefusedFor}
use Rattle.vg_why.specs.Asked.{Asked, asked_shown}
use Rattle.vg_why.specs.Files.{bytes_of, case_in, IsFound, IsRefusedBy}
use Rattle.vg_why.specs.Texts.{case_with, IsToldBy, IsUntoldBy}
use Rattle.vg_why.proofs.FoundLemmas.{found_is, found_untold, read_refused}
use Rattle.vg_why.proofs.RunLemmas.{on_refusal}
use Rattle.vg_why.proofs.finding.found.Goals as goal

pub returns-in-Err-clause-stop : goal.returns-in-Err-clause-stop
returns-in-Err-clause-stop c =
    let asked : Asked = asked_shown c.args.asked.now in
    let bytes : CheckBytes = bytes_of c.args.files in
    on_refusal (IsRefusedFor 1 (inputs_in bytes)) (IsRefusedBy asked bytes) c.in-Err.stop (read_refused asked bytes) c.in-Err.ensures.stop

pub returns-clause-text : goal.returns-clause-text
returns-clause-text c =
    let asked : Asked = asked_shown c.args.asked.now in
    let bytes : CheckBytes = bytes_of c.args.files in
    let capture = c.in-Ok.read.capture in
    let plan = c.in-Ok.read.plan in
    let inputs : AreInputs bytes capture plan = record { is_capture = c.in-Ok.ensures.read.is_capture; makes = c.in-Ok.ensures.read.makes } in
    IfOk-weaker c.report_told.result (IsToldBy asked (case_in bytes capture plan)) (IsFound asked bytes) (λ text h. found_is inputs h)
    (subst (λ text. IfOk c.report_told.result (IsToldBy asked (case_with plan capture text))) c.as_slice.ensures c.report_told.ensures.text)

pub returns-clause-stop : goal.returns-clause-stop
returns-clause-stop c =
    let asked : Asked = asked_shown c.args.asked.now in
    let bytes : CheckBytes = bytes_of c.args.files in
    let capture = c.in-Ok.read.capture in
    let plan = c.in-Ok.read.plan in
    let inputs : AreInputs bytes capture plan = record { is_capture = c.in-Ok.ensures.read.is_capture; makes = c.in-Ok.ensures.read.makes } in
    IfErr-weaker c.report_told.result (OnRefusal (IsUntoldBy asked (case_in bytes capture plan))) (OnRefusal (IsRefusedBy asked bytes))
    (λ stop h. on_refusal (IsUntoldBy asked (case_in bytes capture plan)) (IsRefusedBy asked bytes) stop (λ refusal. found_untold asked refusal inputs) h)
    (subst (λ text. IfErr c.report_told.result (OnRefusal (IsUntoldBy asked (case_with plan capture text)))) c.as_slice.ensures c.report_told.ensures.stop)
