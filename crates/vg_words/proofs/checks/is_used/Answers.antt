use Rattle.std.proofs.Common.{◌∙◌, List, ℕ, rules, tests}
use Rattle.std.specs.Borrow.{Bor}
use Rattle.std.specs.Str.{bytes_eq}
use Rattle.std.proofs.lemmas.Iterator.{YieldsList-from_slice}
use Rattle.std.proofs.lemmas.Iterator.Search.{any_from_yields_List}
use Rattle.clap.proofs.WalkLemmas.{list_any-map}
use Rattle.vg_words.proofs.checks.is_used.Goals as goal

pub returns : goal.returns
returns c =
    any_from_yields_List (λ (one : Bor (List ℕ)). bytes_eq one.now c.args.name.now) _ _ _ c.any.ensures.ran (YieldsList-from_slice c.args.used.now c.iter.ensures.rest) (λ x b q k. search (rules, tests))
    ∙ list_any-map (λ one. bytes_eq one c.args.name.now) (λ (one : Bor (List ℕ)). one.now) c.args.used.now
