use Rattle.std.proofs.Common.{◌≡◌, [], false, drop}
use Rattle.vg_words.specs.Command.{texts}
use Rattle.vg_words.specs.Checks.{are_well_formed}
use Rattle.vg_words.proofs.checks.are_well_formed.Given as goal

abbrev pub invariant-loop-word : goal.invariant-loop-word
invariant-loop-word l = are_well_formed (texts l.used.items) l.waits (texts (drop l.word-index l.words)) ≡ are_well_formed [] false (texts l.words)
