-- For the clause of `take_first`: one option more.
use Rattle.std.proofs.Common.{◌≡◌, ℕ, List, [], get_or, drop, sym, ap, ◌∙◌, arith, Bor}
use Rattle.std.specs.Prelude.{Some}
use Rattle.vg_diff.specs.Asked.{Text, Said, texts, said_shown, said_if, places_of, with_option, asked_behind}
use Rattle.vg_diff.proofs.AskLemmas.{option_more, places_range}
use Rattle.vg_diff.proofs.words.Options.take_first.Goals as goal

pub returns-then-branch : goal.returns-then-branch
returns-then-branch c =
    let words = c.args.words.now in
    let none : Bor (List ℕ) = record { ref_ptr = (0, 0); now = [] } in
    let word : Text = (get_or words 0 none).now in
    let before : Said = said_shown c.args.self.now in
    let after : Said = said_shown c.take.new.self in
    let is : c.places_of.result ≡ places_of word = c.places_of.ensures in
    let range = places_range word c.places_of.result is in
    let taken : Some after ≡ with_option before word (get_or words 1 none).now = sym (ap (λ b. said_if b after) c.if-branch.true) ∙ c.in_ok-take.ensures in (
      range.0,
      omega (arith, range.1, c.in-len2-up.len_at_least),
      ap (λ n. asked_behind after (texts (drop n words))) is ∙ option_more before after words none c.requires taken,
    )
