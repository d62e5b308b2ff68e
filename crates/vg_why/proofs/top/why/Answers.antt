-- For `why`: its clauses `stop` and `text`.
use Rattle.std.proofs.Common.{◌≡◌, sym, ap, ◌∙◌, inl, refl}
use Rattle.std.specs.Prelude.{Some, option_map}
use Rattle.std.proofs.lemmas.Result.{IfOk-weaker, IfErr-weaker}
use Rattle.vg_outside.specs.Files.{FailedLoad}
use Rattle.vg_words.specs.Command.{texts}
use Rattle.vg_files.specs.Checks.{CheckBytes}
use Rattle.vg_files.specs.Stops.{OnRefusal, IsLoadOf}
use Rattle.vg_why.specs.Asked.{Ask, ask_shown, asked}
use Rattle.vg_why.specs.Files.{bytes_of, IsLoadedNext, IsFound, IsRefusedBy}
use Rattle.vg_why.specs.Run.{Call, called, IsWhy, IsRefused}
use Rattle.vg_why.proofs.RunLemmas.{on_refusal, load_refused, found_refused}
use Rattle.vg_why.proofs.top.why.Goals as goal

pub returns-in_default-ask-clause-stop : goal.returns-in_default-ask-clause-stop
returns-in_default-ask-clause-stop g c = inl (refl, sym c.in-Ok.ensures ∙ ap (option_map ask_shown) c.in_default-ask.is)

pub returns-in-Err-clause-stop : goal.returns-in-Err-clause-stop
returns-in-Err-clause-stop g c =
    let ask : Ask = ask_shown c.in-Some.ask in
    let is : asked (texts c.args.words.now) ≡ Some ask = sym c.in-Ok.ensures ∙ ap (option_map ask_shown) c.in-Some.is in
    let call : Call = called c.args.words.now (g.F.Folder.contents c.args.folder.now) (g.F.Folder.faults c.args.folder.now) (g.F.Folder.faults c.load_why.new.folder) in
    on_refusal (IsLoadOf (λ failed. IsLoadedNext call.files ask failed × FailedLoad call.files failed (call.faults failed) (call.faults_after failed))) (IsRefused call)
    c.in-Err.stop (λ refusal h. load_refused call ask refusal is h) c.in-Err.ensures.stop

pub returns-clause-text : goal.returns-clause-text
returns-clause-text g c =
    let ask : Ask = ask_shown c.in-Some.ask in
    let is : asked (texts c.args.words.now) ≡ Some ask = sym c.in-Ok.ensures ∙ ap (option_map ask_shown) c.in-Some.is in
    let call : Call = called c.args.words.now (g.F.Folder.contents c.args.folder.now) (g.F.Folder.faults c.args.folder.now) (g.F.Folder.faults c.load_why.new.folder) in
    let bytes : CheckBytes = bytes_of c.in-Ok-load_why.files in
    IfOk-weaker c.found.result (IsFound ask.asked bytes) (IsWhy call) (λ text h. record { ask = ask; is_ask = is; bytes = bytes; loaded = c.in-Ok-load_why.ensures.files; found = h })
    c.found.ensures.text

pub returns-clause-stop : goal.returns-clause-stop
returns-clause-stop g c =
    let ask : Ask = ask_shown c.in-Some.ask in
    let is : asked (texts c.args.words.now) ≡ Some ask = sym c.in-Ok.ensures ∙ ap (option_map ask_shown) c.in-Some.is in
    let call : Call = called c.args.words.now (g.F.Folder.contents c.args.folder.now) (g.F.Folder.faults c.args.folder.now) (g.F.Folder.faults c.load_why.new.folder) in
    let bytes : CheckBytes = bytes_of c.in-Ok-load_why.files in
    IfErr-weaker c.found.result (OnRefusal (IsRefusedBy ask.asked bytes)) (OnRefusal (IsRefused call))
    (λ stop h. on_refusal (IsRefusedBy ask.asked bytes) (IsRefused call) stop (λ refusal. found_refused call ask refusal is c.in-Ok-load_why.ensures.files) h)
    c.found.ensures.stop
