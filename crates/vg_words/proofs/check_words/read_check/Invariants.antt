use Rattle.std.proofs.Common.{◌≡◌, drop}
use Rattle.std.specs.Prelude.{option_map}
use Rattle.vg_words.specs.Command.{check_from, no_check_said, texts}
use Rattle.vg_words.proofs.CheckWordLemmas.{said_so}
use Rattle.vg_words.proofs.check_words.read_check.Given as goal

abbrev pub invariant-loop-word : goal.invariant-loop-word
invariant-loop-word l =
    check_from (said_so (texts l.names.items) (option_map (λ value. value.now) l.queue) l.waits) (texts (drop l.word-index l.words)) ≡ check_from no_check_said (texts l.words)
