-- `are_plain`, whether all words may be names: by the texts of the words.
use Rattle.std.proofs.Common.{List, ℕ, ◌∙◌, rules, tests, Bor}
use Rattle.std.proofs.lemmas.Iterator.{YieldsList-from_slice}
use Rattle.std.proofs.lemmas.Iterator.Search.{all_from_yields_List}
use Rattle.vg_diff.specs.Asked.{is_plain}
use Rattle.vg_diff.proofs.AskLemmas.{all_texts}
use Rattle.vg_diff.proofs.words.are_plain.Goals as goal

pub returns : goal.returns
returns c =
    all_from_yields_List (λ (word : Bor (List ℕ)). is_plain word.now) _ _ c.all.result c.all.ensures.ran (YieldsList-from_slice c.args.words.now cc) (λ x b q k. search (rules, tests))
    ∙ all_texts c.args.words.now
