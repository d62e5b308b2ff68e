use Rattle.std.proofs.Common.{rules, tests, sym, ap, ◌∙◌}
use Rattle.std.specs.Prelude.{codes, bytes_eq}
use Rattle.std.proofs.lemmas.Iterator.{YieldsList-from_slice}
use Rattle.std.proofs.lemmas.Iterator.Search.{find_from_yields_List}
use Rattle.vg_report.specs.Kinds.{kind_word, all_kinds, kind_of}
use Rattle.vg_report.proofs.ListLemmas.{bytes_eq_true}
use Rattle.vg_report.proofs.kinds.LineKind.of.Goals as goal

pub returns : goal.returns
returns c =
    c.copied.ensures
    ∙ find_from_yields_List (λ k. bytes_eq c.args.word.now (kind_word k)) _ _ c.find.result c.find.ensures.ran (YieldsList-from_slice all_kinds cc) (λ x b q k. search (rules, tests))

pub returns-then-is : goal.returns-then-is
returns-then-is c = ap kind_of (sym (bytes_eq_true c.args.word.now (codes "packet") (sym c.if-is.ensures)))
