-- For `before_comment`: no comment, one behind plain bytes, and a byte that is not allowed.
use Rattle.std.proofs.Common.{sym, rules, tests, ◌∙◌}
use Rattle.std.proofs.lemmas.Iterator.{YieldsList-from_slice}
use Rattle.std.proofs.lemmas.Iterator.Search.{position_from_yields_List}
use Rattle.vg_script.proofs.CommentLemmas.{is_other, known_plain, plain_line, commented_line, bad_line}
use Rattle.vg_script.proofs.reader.before_comment.Goals as goal

pub returns-then-is_known_plain : goal.returns-then-is_known_plain
returns-then-is_known_plain c = known_plain c.args.line.now (c.requires c.if-is_known_plain.true)

pub returns-in_default : goal.returns-in_default
returns-in_default c =
    let line = c.args.line.now in
    let found = position_from_yields_List is_other _ _ _ c.position.ensures.ran (YieldsList-from_slice line cc) (λ x b q k. search (rules, tests)) in
    plain_line line (sym c.in_default.is ∙ found)

pub returns-then-line-place-eq35 : goal.returns-then-line-place-eq35
returns-then-line-place-eq35 c =
    let line = c.args.line.now in
    let found = position_from_yields_List is_other _ _ _ c.position.ensures.ran (YieldsList-from_slice line cc) (λ x b q k. search (rules, tests)) in
    commented_line line c.in-Some.place (sym c.in-Some.is ∙ found) c.if-line-place-eq35.true

pub returns-else-line-place-eq35 : goal.returns-else-line-place-eq35
returns-else-line-place-eq35 c =
    let line = c.args.line.now in
    let found = position_from_yields_List is_other _ _ _ c.position.ensures.ran (YieldsList-from_slice line cc) (λ x b q k. search (rules, tests)) in
    bad_line line c.in-Some.place (sym c.in-Some.is ∙ found) c.if-line-place-eq35.false
