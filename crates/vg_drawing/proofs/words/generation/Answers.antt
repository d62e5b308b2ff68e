use Rattle.std.proofs.Common.{◌≡◌, true, sym, arith}
use Rattle.vg_words.specs.Command.{is_decimal}
use Rattle.vg_words.proofs.NumberLemmas.{no_number}
use Rattle.vg_drawing.proofs.words.generation.Goals as goal

pub returns-in_default-2-clause-value : goal.returns-in_default-2-clause-value
returns-in_default-2-clause-value c =
    let decimal : is_decimal c.args.word.now ≡ true = rw (← c.as_bytes.ensures.value) (sym c.if-not-is_decimal.ensures) in
    no_number _ 0 999 c.args.word.now c.in_default.field-0 (omega arith) decimal c.in_default.ensures.value.0
