use Rattle.std.proofs.Common.{◌∙◌, sym, ap₂, List}
use Rattle.vg_words.specs.Command.{Text, texts}
use Rattle.vg_words.specs.Checks.{are_well_formed}
use Rattle.vg_words.proofs.CheckLemmas.{next_word, word_at, words_behind, checked-waits}
use Rattle.vg_words.proofs.checks.are_well_formed.Goals as goal

pub returns-then-waits : goal.returns-then-waits
returns-then-waits c =
    let words = c.args.words.now in
    let i = c.loop-word.word-index in
    let used = texts c.loop-word.used.items in
    sym (checked-waits used (word_at words i) (words_behind words i) (sym c.if-is_plain.ensures))
    ∙ sym (ap₂ (λ waits (l : List Text). are_well_formed used waits l) c.if-waits.true (next_word words i c.loop-word-test.true))
    ∙ c.loop-word.invariant
