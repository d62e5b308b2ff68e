-- For the clauses of `found`: what the words ask for, and why nothing is compared.
use Rattle.std.proofs.Common.{◌≡◌, refl, sym, ap, ◌∙◌, inl, inr}
use Rattle.std.specs.Prelude.{Some, option_map}
use Rattle.std.proofs.lemmas.Result.{IfOk-weaker, IfErr-weaker}
use Rattle.vg_diff.specs.Asked.{Ask, texts, ask_shown, asked, router_of}
use Rattle.vg_diff.specs.Run.{Call, called, IsRefused}
use Rattle.vg_diff.specs.Stops.{IsCause, IsRouterCause, input_causes}
use Rattle.vg_diff.proofs.RunLemmas.{on_refusal}
use Rattle.vg_diff.proofs.top.found.Goals as goal

pub returns-in-Some-clause-found : goal.returns-in-Some-clause-found
returns-in-Some-clause-found g c =
    let is : router_of (texts c.args.words.now) ≡ Some c.in-Some.script.now = sym c.script_of_router.ensures ∙ ap (option_map (λ script. script.now)) c.in-Some.is in
    IfOk-weaker c.router.result _ _ (λ due h. inr (c.in-Some.script.now, is, h)) c.router.ensures.router

pub returns-clause-found : goal.returns-clause-found
returns-clause-found g c =
    let ask : Ask = ask_shown c.in-Some-ask.ask in
    let is : asked (texts c.args.words.now) ≡ Some ask = sym c.in-Ok.ensures ∙ ap (option_map ask_shown) c.in-Some-ask.is in
    IfOk-weaker c.answer.result _ _ (λ due h. inl (record { ask = ask; is_ask = is; answers = h })) c.answer.ensures.answer

pub returns-in-Some-clause-stop : goal.returns-in-Some-clause-stop
returns-in-Some-clause-stop g c =
    let is : router_of (texts c.args.words.now) ≡ Some c.in-Some.script.now = sym c.script_of_router.ensures ∙ ap (option_map (λ script. script.now)) c.in-Some.is in
    let call : Call = called c.args.words.now (g.F.Folder.contents c.args.folder.now) (g.F.Folder.faults c.args.folder.now) (g.F.Folder.faults c.router.new.folder) in
    IfErr-weaker c.router.result _ _
    (λ stop h. on_refusal (IsRouterCause call.files call.faults c.in-Some.script.now) (IsRefused call) stop (λ refusal k. inr (inr (c.in-Some.script.now, is, k))) h) c.router.ensures.stop

pub returns-in_default-ask-clause-stop : goal.returns-in_default-ask-clause-stop
returns-in_default-ask-clause-stop g c =
    inl (refl, sym c.script_of_router.ensures ∙ ap (option_map (λ script. script.now)) c.in_default.is, sym c.in-Ok.ensures ∙ ap (option_map ask_shown) c.in_default-ask.is)

pub returns-clause-stop : goal.returns-clause-stop
returns-clause-stop g c =
    let ask : Ask = ask_shown c.in-Some-ask.ask in
    let is : asked (texts c.args.words.now) ≡ Some ask = sym c.in-Ok.ensures ∙ ap (option_map ask_shown) c.in-Some-ask.is in
    let call : Call = called c.args.words.now (g.F.Folder.contents c.args.folder.now) (g.F.Folder.faults c.args.folder.now) (g.F.Folder.faults c.answer.new.folder) in
    IfErr-weaker c.answer.result _ _
    (λ stop h. on_refusal (IsCause (input_causes call.files call.faults ask)) (IsRefused call) stop (λ refusal k. inr (inl (ask, is, k))) h) c.answer.ensures.stop
