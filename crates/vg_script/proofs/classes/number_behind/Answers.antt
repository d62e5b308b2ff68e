use Rattle.std.proofs.Common.{◌≡◌, true, false, length, take, drop, sym, ap, subst, ◌∙◌}
use Rattle.std.specs.Prelude.{bytes_eq}
use Rattle.vg_script.proofs.PartLemmas.{behind_text, behind_no_text, same_number}
use Rattle.vg_script.proofs.classes.number_behind.Goals as goal

pub returns-in_err-digits : goal.returns-in_err-digits
returns-in_err-digits c =
    c.from_residual.ensures
    ∙ sym (behind_no_text c.args.text.now c.args.word.now c.args.least c.args.most
    (subst (λ t. bytes_eq (take (length t) c.args.word.now) t ≡ false) c.as_bytes.ensures.value c.in_err-digits.ensures.cases))

pub returns-in_err-number : goal.returns-in_err-number
returns-in_err-number c =
    let begins : bytes_eq (take (length c.args.text.now) c.args.word.now) c.args.text.now ≡ true =
    subst (λ t. bytes_eq (take (length t) c.args.word.now) t ≡ true) c.as_bytes.ensures.value c.in_ok-digits.ensures.cases.0 in
    c.from_residual-in_err-number.ensures
    ∙ sym (behind_text c.args.text.now c.args.word.now c.args.least c.args.most begins
    ∙ same_number c.from.ensures c.from-2.ensures (c.in_ok-digits.ensures.cases.1 ∙ ap (λ t. drop (length t) c.args.word.now) c.as_bytes.ensures.value) c.in_err-number.ensures.value)

pub returns : goal.returns
returns c =
    let begins : bytes_eq (take (length c.args.text.now) c.args.word.now) c.args.text.now ≡ true =
    subst (λ t. bytes_eq (take (length t) c.args.word.now) t ≡ true) c.as_bytes.ensures.value c.in_ok-digits.ensures.cases.0 in
    sym (behind_text c.args.text.now c.args.word.now c.args.least c.args.most begins
    ∙ same_number c.from.ensures c.from-2.ensures (c.in_ok-digits.ensures.cases.1 ∙ ap (λ t. drop (length t) c.args.word.now) c.as_bytes.ensures.value) c.in_ok-number.ensures.value)
