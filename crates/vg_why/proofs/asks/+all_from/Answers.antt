-- For `all_from`: one condition more, and the files.
use Rattle.std.proofs.Common.{◌≡◌, ◌-◌, ◌∙◌, ap, sym, length, take, drop, arith, length-drop}
use Rattle.std.specs.Prelude.{option_map}
use Rattle.std.proofs.lemmas.List.{take_all}
use Rattle.std.proofs.lemmas.Result.{IfOk-weaker}
use Rattle.vg_words.specs.Command.{texts}
use Rattle.vg_why.specs.Asked.{Filter, filter_shown, ask_shown, all_from}
use Rattle.vg_why.proofs.AskLemmas.{condition_more, condition_none, files_left}
use Rattle.vg_why.proofs.asks.+all_from.Goals as goal

pub returns-then-words-le3 : goal.returns-then-words-le3
returns-then-words-le3 n c =
    let f : Filter = filter_shown c.args.filter in
    c.files.ensures ∙ files_left c.args.words.now f (omega arith)

pub returns-in-Some : goal.returns-in-Some
returns-in-Some n c =
    let f : Filter = filter_shown c.args.filter in
    let words = c.args.words.now in
    let all : take (length words - 2) (drop 2 words) ≡ drop 2 words = take_all (length words - 2) (drop 2 words) (let cut = length-drop 2 words in omega (arith, cut)) in
    let is = sym c.in_ok-filter.ensures ∙ ap (option_map filter_shown) c.in-Some.is in
    IfOk-weaker c.all_from.result
    (λ ask. option_map ask_shown ask ≡ all_from (filter_shown c.in-Some.filter) (texts (take (length words - 2) (drop 2 words))))
    (λ ask. option_map ask_shown ask ≡ all_from f (texts words))
    (λ ask h. h ∙ ap (λ ws. all_from (filter_shown c.in-Some.filter) (texts ws)) all ∙ condition_more words f (omega arith) is)
    c.all_from.ensures

pub returns-in-None : goal.returns-in-None
returns-in-None n c =
    let f : Filter = filter_shown c.args.filter in
    condition_none c.args.words.now f (omega arith) (sym c.in_ok-filter.ensures ∙ ap (option_map filter_shown) c.in-None.is)
