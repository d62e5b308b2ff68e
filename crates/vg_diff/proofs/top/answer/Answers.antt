-- For the clauses of `answer`: what was loaded is what the files hold, and why nothing is compared.
use Rattle.std.proofs.lemmas.Result.{IfOk-weaker, IfErr-weaker}
use Rattle.vg_diff.specs.Asked.{ask_shown}
use Rattle.vg_diff.specs.Stops.{faults_of, account_causes, input_causes}
use Rattle.vg_diff.proofs.StopLemmas.{weaker_stop, account_stop}
use Rattle.vg_diff.proofs.top.answer.Goals as goal

pub returns-clause-answer : goal.returns-clause-answer
returns-clause-answer g c =
    IfOk-weaker c.compared.result _ _ (λ due is. record { input = c.in-Ok.input; is_input = c.in-Ok.ensures.input; answers_in = is }) c.compared.ensures.answers

pub returns-clause-stop : goal.returns-clause-stop
returns-clause-stop g c =
    let files = g.F.Folder.contents c.args.folder.now in
    let faults = faults_of (g.F.Folder.faults c.args.folder.now) (g.F.Folder.faults c.load_input.new.folder) in
    let ask = ask_shown c.args.ask.now in
    IfErr-weaker c.compared.result _ _
    (λ stop h. weaker_stop (account_causes c.in-Ok.input) (input_causes files faults ask) (account_stop files faults ask c.in-Ok.input c.in-Ok.ensures.input) stop h) c.compared.ensures.stop
