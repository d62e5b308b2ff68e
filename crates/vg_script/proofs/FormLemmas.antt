-- For `Words::name`: a form that reads a word of a class.
use Rattle.std.proofs.Common.{◌≡◌, ℕ, List, refl, ap, ◌∙◌}
use Rattle.std.specs.Prelude.{Option, Some, None, ok_or, Ok}
use Rattle.vg_script.specs.declared.errors.ScriptCause.{ScriptCause}
use Rattle.vg_script.specs.Keywords.{found}
use Rattle.vg_script.specs.Statements.{Words, read_on, a_word, a_word_of, or_else}

-- a word of a class
class_value : {X : Type 0} (o : Option X) (cause : ScriptCause) (behind : Words) → or_else o cause behind ≡ found (ok_or o cause) behind
class_value (Some x) cause behind = refl
class_value None cause behind = refl

pub class_read : {X : Type 0} (class : List ℕ → Option X) (cause : ScriptCause) (words behind : Words) (word : List ℕ) (o : Option X)
    → a_word words ≡ Ok (word, behind) → class word ≡ o → a_word_of class cause words ≡ found (ok_or o cause) behind
class_read class cause words behind word o read value =
    ap (λ r. read_on r (λ word. or_else (class word) cause)) read ∙ ap (λ o. or_else o cause behind) value ∙ class_value o cause behind
