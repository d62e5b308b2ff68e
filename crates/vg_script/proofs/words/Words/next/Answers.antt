use Rattle.std.proofs.Common.{◌≡◌, ◌<◌, length, sym, ◌∙◌, arith}
use Rattle.std.proofs.lemmas.Bool.Decides.{nat_tests}
use Rattle.vg_script.specs.Lines.{words}
use Rattle.vg_script.proofs.SplitLemmas.{words-word}
use Rattle.vg_script.proofs.words.Words.next.Goals as goal

pub returns-then-not-is_empty : goal.returns-then-not-is_empty
returns-then-not-is_empty c =
    let start : c.args.self.now ≡ words c.self.inside.0.now = cc (c.self.view_is) in
    let some : 0 < length c.split_at_blank.result.0.now = grind (arith, nat_tests, c.if-not-is_empty.ensures) in
    start ∙ sym c.loop-self.invariant
    ∙ words-word c.loop-self.self-inside.0.now c.split_at_blank.result.0.now c.split_at_blank.result.1.now c.split_at_blank.ensures.before c.split_at_blank.ensures.after some
