use Rattle.std.proofs.Common.{List, ℕ, rules, tests}
use Rattle.std.specs.Borrow.{Bor}
use Rattle.std.specs.Str.{bytes_eq}
use Rattle.std.proofs.lemmas.Iterator.{YieldsList-from_slice}
use Rattle.std.proofs.lemmas.Iterator.Search.{any_from_yields_List}
use Rattle.vg_words.proofs.checks.is_option_name.Goals as goal

pub returns : goal.returns
returns c =
    any_from_yields_List (λ (known : Bor (List ℕ)). bytes_eq known.now c.args.name.now) _ _ _ c.any.ensures.ran (YieldsList-from_slice _ c.iter.ensures.rest) (λ x b q k. search (rules, tests))
