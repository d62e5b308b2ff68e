-- For the clause `stop` of `load_input`: which file isn't read, and that those before it are.
use Rattle.std.proofs.Common.{◌≡◌, ◌≤◌, ◌+◌, ℕ, List, ◌∙◌, subst, arith}
use Rattle.vg_outside.specs.Files.{FirstBytes}
use Rattle.vg_diff.specs.Asked.{ask_shown}
use Rattle.vg_diff.specs.Files.{IsCaptureOf, IsTxRead, largest_report}
use Rattle.vg_diff.specs.Stops.{OnRefusal, IsCause, faults_of, load_causes, capture_causes, named_causes, others_causes, input_causes}
use Rattle.vg_diff.proofs.StopLemmas.{weaker_stop, tx_stop, load_stop, capture_stop_behind, others_stop_behind, behind_report}
use Rattle.vg_diff.proofs.input.load_input.Goals as goal

pub returns-in-Err-clause-stop : goal.returns-in-Err-clause-stop
returns-in-Err-clause-stop g c =
    let files = g.F.Folder.contents c.args.folder.now in
    let faults = faults_of (g.F.Folder.faults c.args.folder.now) (g.F.Folder.faults c.load_capture.new.folder) in
    let ask = ask_shown c.args.ask.now in
    weaker_stop (capture_causes files faults ask.tx) (input_causes files faults ask) (tx_stop files faults ask) c.in-Err.stop c.in-Err.ensures.stop

pub returns-in-Err-load_file-clause-stop : goal.returns-in-Err-load_file-clause-stop
returns-in-Err-load_file-clause-stop g c =
    let files = g.F.Folder.contents c.args.folder.now in
    let first = g.F.Folder.faults c.args.folder.now in
    let faults = faults_of (g.F.Folder.faults c.load_capture.new.folder) (g.F.Folder.faults c.load_file.new.folder) in
    let ask = ask_shown c.args.ask.now in
    weaker_stop (load_causes files faults ask.report) (input_causes files (faults_of first faults.after) ask)
    (load_stop files first faults c.load_capture.ensures.later ask (c.in-Ok.tx, c.in-Ok.ensures.capture)) c.in-Err-load_file.stop
    (subst (λ fs. OnRefusal (IsCause (load_causes fs faults ask.report)) c.in-Err-load_file.stop) c.load_capture.ensures.same c.in-Err-load_file.ensures.stop)

pub returns-in-Err-load_named-clause-stop : goal.returns-in-Err-load_named-clause-stop
returns-in-Err-load_named-clause-stop g c =
    let files = g.F.Folder.contents c.args.folder.now in
    let first = g.F.Folder.faults c.args.folder.now in
    let now = g.F.Folder.contents c.load_file.new.folder in
    let same : now ≡ files = c.load_file.ensures.same ∙ c.load_capture.ensures.same in
    let faults = faults_of (g.F.Folder.faults c.load_file.new.folder) (g.F.Folder.faults c.load_named.new.folder) in
    let less : (other : List ℕ) → first other ≤ g.F.Folder.faults c.load_file.new.folder other
    = λ other. (let one = c.load_capture.ensures.later other in let two = c.load_file.ensures.later other in omega (arith, one, two)) in
    let ask = ask_shown c.args.ask.now in
    let tx : IsTxRead files ask = (c.in-Ok.tx, c.in-Ok.ensures.capture) in
    behind_report files (faults_of first faults.after) ask c.in-Ok-load_file.text c.in-Err-load_named.stop c.first_stop.result c.first_stop.ensures
    (subst (λ fs. FirstBytes fs ask.report (largest_report + 1) c.in-Ok-load_file.text) c.load_capture.ensures.same c.in-Ok-load_file.ensures.bytes, tx)
    (λ report. weaker_stop (named_causes files faults ask.capture) (input_causes files (faults_of first faults.after) ask)
    (capture_stop_behind files first faults less ask (tx, report)) c.in-Err-load_named.stop
    (subst (λ fs. OnRefusal (IsCause (named_causes fs faults ask.capture)) c.in-Err-load_named.stop) same c.in-Err-load_named.ensures.stop))

pub returns-in-Err-load_all-clause-stop : goal.returns-in-Err-load_all-clause-stop
returns-in-Err-load_all-clause-stop g c =
    let files = g.F.Folder.contents c.args.folder.now in
    let first = g.F.Folder.faults c.args.folder.now in
    let now = g.F.Folder.contents c.load_named.new.folder in
    let loaded : g.F.Folder.contents c.load_file.new.folder ≡ files = c.load_file.ensures.same ∙ c.load_capture.ensures.same in
    let same : now ≡ files = c.load_named.ensures.same ∙ loaded in
    let faults = faults_of (g.F.Folder.faults c.load_named.new.folder) (g.F.Folder.faults c.load_all.new.folder) in
    let less : (other : List ℕ) → first other ≤ g.F.Folder.faults c.load_named.new.folder other
    = λ other. (let one = c.load_capture.ensures.later other in let two = c.load_file.ensures.later other in let three = c.load_named.ensures.later other in omega (arith, one, two, three)) in
    let ask = ask_shown c.args.ask.now in
    let tx : IsTxRead files ask = (c.in-Ok.tx, c.in-Ok.ensures.capture) in
    behind_report files (faults_of first faults.after) ask c.in-Ok-load_file.text c.in-Err-load_all.stop c.first_stop-in-Err-load_all.result c.first_stop-in-Err-load_all.ensures
    (subst (λ fs. FirstBytes fs ask.report (largest_report + 1) c.in-Ok-load_file.text) c.load_capture.ensures.same c.in-Ok-load_file.ensures.bytes, tx)
    (λ report. weaker_stop (others_causes files faults ask.others) (input_causes files (faults_of first faults.after) ask)
    (others_stop_behind files first faults less ask
    (record { tx = tx; report = report; capture = c.in-Ok-load_named.capture; is_capture = subst (λ fs. IsCaptureOf fs ask.capture c.in-Ok-load_named.capture) loaded c.in-Ok-load_named.ensures.capture }))
    c.in-Err-load_all.stop
    (subst (λ fs. OnRefusal (IsCause (others_causes fs faults ask.others)) c.in-Err-load_all.stop) same c.in-Err-load_all.ensures.stop))
