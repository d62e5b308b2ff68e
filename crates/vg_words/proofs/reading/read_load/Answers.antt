use Rattle.std.proofs.Common.{sym, arith, ltb-true}
use Rattle.std.proofs.lemmas.Bool.Decides.{nat_tests}
use Rattle.vg_words.proofs.RangeLemmas.{load-not_three}
use Rattle.vg_words.proofs.reading.read_load.Goals as goal
use Rattle.vg_words.proofs.reading.read_load.Goals.{in_default-via-then-words-lt3, in_default-via-else-words-lt3+else-words-lt4}

pub returns-in_default : goal.returns-in_default
returns-in_default c =
    elim c.in_default.branch [
      | in_default-via-then-words-lt3 w ↦ sym (load-not_three c.args.words.now (λ three. first_of (omega (arith, ltb-true), grind (arith, ltb-true), grind (arith, nat_tests))))
      | in_default-via-else-words-lt3+else-words-lt4 w ↦ sym (load-not_three c.args.words.now (λ three. first_of (omega arith, omega (arith, ltb-true), grind (arith, ltb-true), grind (arith, nat_tests))))
    ]
