-- `drawn`, what a call prints and refuses.
use Rattle.std.proofs.Common.{◌≡◌, sym, ap, ◌∙◌, arith}
use Rattle.std.proofs.lemmas.Grind.{common_steps}
use Rattle.std.specs.Prelude.{Some, option_map}
use Rattle.vg_words.specs.Command.{texts}
use Rattle.vg_drawing.specs.Asked.{Ask, ask_shown, asked}
use Rattle.vg_drawing.specs.Drawn.{IsWithin}
use Rattle.vg_drawing.specs.Reading.{IsScriptStop, IsReportStop}
use Rattle.vg_drawing.specs.Run.{Call, IsRefused, called}
use Rattle.vg_drawing.proofs.RunLemmas.{on_refusal, script_refused, report_refused, graphs_made, drawn_is}
use Rattle.vg_drawing.proofs.top.drawn.Goals as goal

pub returns-in-Err-clause-stop : goal.returns-in-Err-clause-stop
returns-in-Err-clause-stop g c =
    let ask : Ask = ask_shown c.in-Some.ask in
    let is : asked (texts c.args.words.now) ≡ Some ask = sym c.asked.ensures ∙ ap (option_map ask_shown) c.in-Some.is in
    let files = g.F.Folder.contents c.args.folder.now in
    let before = g.F.Folder.faults c.args.folder.now in
    let after = g.F.Folder.faults c.load_plan.new.folder in
    let call : Call = called c.args.words.now files before after in
    on_refusal (IsScriptStop files ask.script before after) (IsRefused call) c.in-Err.stop (λ refusal h. script_refused call ask refusal is h) c.in-Err.ensures.stop

pub returns-in-Err-load_report-clause-stop : goal.returns-in-Err-load_report-clause-stop
returns-in-Err-load_report-clause-stop g c =
    let ask : Ask = ask_shown c.in-Some.ask in
    let is : asked (texts c.args.words.now) ≡ Some ask = sym c.asked.ensures ∙ ap (option_map ask_shown) c.in-Some.is in
    let files = g.F.Folder.contents c.args.folder.now in
    let now = g.F.Folder.contents c.load_plan.new.folder in
    let middle = g.F.Folder.faults c.load_plan.new.folder in
    let after = g.F.Folder.faults c.load_report.new.folder in
    let call : Call = called c.args.words.now (g.F.Folder.contents c.args.folder.now) (g.F.Folder.faults c.args.folder.now) after in
    on_refusal (IsReportStop now ask.report middle after) (IsRefused call) c.in-Err-load_report.stop
    (λ refusal h. report_refused call ask now middle refusal is (c.in-Ok.plan.graphs, graphs_made files ask.script c.in-Ok.plan c.in-Ok.ensures.plan) c.load_plan.ensures.same c.load_plan.ensures.later h) c.in-Err-load_report.ensures.stop

pub returns-in-Ok-draw_generations-clause-text : goal.returns-in-Ok-draw_generations-clause-text
returns-in-Ok-draw_generations-clause-text g c =
    let ask : Ask = ask_shown c.in-Some.ask in
    let is : asked (texts c.args.words.now) ≡ Some ask = sym c.asked.ensures ∙ ap (option_map ask_shown) c.in-Some.is in
    let after = g.F.Folder.faults c.load_report.new.folder in
    let call : Call = called c.args.words.now (g.F.Folder.contents c.args.folder.now) (g.F.Folder.faults c.args.folder.now) after in
    let within : IsWithin c.generations-generations.result ask.which = grind (arith, common_steps) in
    drawn_is call ask c.in-Ok.plan c.generations-generations.result (g.F.Folder.contents c.load_plan.new.folder) c.in-Ok-load_report.report c.in-Ok-draw_generations.text is
    c.in-Ok.ensures.plan c.generations-generations.ensures.graphs within c.load_plan.ensures.same c.in-Ok-load_report.ensures.report c.in-Ok-draw_generations.ensures
