use Rattle.std.proofs.Common.{◌≡◌, ◌∙◌, ℕ, List, ◌∷◌, ap, sym, arith}
use Rattle.std.specs.Prelude.{Some, None}
use Rattle.std.proofs.lemmas.Str.Pattern.{split_once_first}
use Rattle.vg_words.proofs.TextLemmas.{option_in-behind, parted-none}
use Rattle.vg_words.proofs.checks.option_in.Goals as goal

pub returns-in-None : goal.returns-in-None
returns-in-None c =
    let text = c.in_ok-text.text.now in
    let at = split_once_first 61 text None c.in-None.ensures.cases (omega arith) in
    let cases = c.in_ok-text.ensures.cases in
    let behind : c.args.word.now ≡ 45 ∷ 45 ∷ text = cases.1.1 ∙ ap (λ (l : List ℕ). 45 ∷ 45 ∷ l) (sym cases.2) in
    sym (option_in-behind c.args.word.now text behind ∙ ap Some (parted-none text at))
