-- For `numbers`: its loop.
use Rattle.std.proofs.Common.{◌≡◌, ◌++◌, drop}
use Rattle.std.specs.Prelude.{option_map}
use Rattle.vg_words.specs.Command.{texts}
use Rattle.vg_why.specs.Asked.{numbers_of}
use Rattle.vg_why.proofs.asks.numbers.Given as goal

-- the numbers so far, and those of the words behind, are those of all
abbrev pub invariant-loop-word : goal.invariant-loop-word
invariant-loop-word l = option_map (λ behind. l.numbers.items ++ behind) (numbers_of (texts (drop l.word-index l.words))) ≡ numbers_of (texts l.words)
