-- For `numbers`: its loop, its clause.
use Rattle.std.proofs.Common.{◌+◌, ◌++◌, drop, sym, ap, ◌∙◌}
use Rattle.std.specs.Prelude.{option_map}
use Rattle.vg_words.specs.Command.{texts}
use Rattle.vg_why.specs.Asked.{numbers_of}
use Rattle.vg_why.proofs.AskLemmas.{number_more, number_none, numbers_all}
use Rattle.vg_why.proofs.asks.numbers.Goals as goal

pub loop-word-preserved : goal.loop-word-preserved
loop-word-preserved c =
    let words = c.args.words.now in
    let i = c.loop-word.word-index in
    ap (λ ns. option_map (λ behind. ns ++ behind) (numbers_of (texts (drop (i + 1) words)))) c.in_ok-push-in-Some.ensures.items
    ∙ number_more words i c.loop-word.numbers.items c.loop-word-test.true (sym c.in-Some.ensures) c.loop-word.invariant

pub returns-in-None : goal.returns-in-None
returns-in-None c =
    number_none c.args.words.now c.loop-word.word-index c.loop-word.numbers.items c.loop-word-test.true (sym c.in-None.ensures) c.loop-word.invariant

pub returns : goal.returns
returns c = numbers_all c.args.words.now c.loop-word.word-index c.loop-word.numbers.items c.loop-word-test.false c.loop-word.invariant
