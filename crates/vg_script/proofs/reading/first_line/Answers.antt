-- For `first_line`: plain bytes before a line feed, and else the place that `memchr` finds, which is that of the first line feed.
use Rattle.std.proofs.Common.{◌≡◌, ◌==◌, ◌+◌, ◌-◌, length, take, drop, length-drop, sym, ap, arith, rules, tests, ◌∙◌}
use Rattle.std.proofs.lemmas.Iterator.{YieldsList-from_slice}
use Rattle.std.proofs.lemmas.List.{take_all}
use Rattle.std.proofs.lemmas.Iterator.Search.{position_from_yields_List}
use Rattle.vg_script.proofs.CommentLemmas.{is_other, feed_place, plain_up_to}
use Rattle.vg_script.proofs.SplitLemmas.{before_found, after_found, found_byte, byte_within}
use Rattle.vg_script.proofs.reading.first_line.Goals as goal

pub split_at-requires : goal.split_at-requires
split_at-requires c = byte_within 10 c.args.text.now c.memchr.result c.memchr.ensures

pub returns-in-Some-clause-before : goal.returns-in-Some-clause-before
returns-in-Some-clause-before c =
    let text = c.args.text.now in
    let found = position_from_yields_List is_other _ _ _ c.position.ensures.ran (YieldsList-from_slice text cc) (λ x b q k. search (rules, tests)) in
    ap (λ n. take n text) (sym (feed_place text c.in-Some.place (sym c.in-Some.is ∙ found) c.if-text-place-eq10.true))

pub returns-in-Some-clause-after : goal.returns-in-Some-clause-after
returns-in-Some-clause-after c =
    let text = c.args.text.now in
    let found = position_from_yields_List is_other _ _ _ c.position.ensures.ran (YieldsList-from_slice text cc) (λ x b q k. search (rules, tests)) in
    let all : length (drop (c.in-Some.place + 1) text) ≡ length text - (c.in-Some.place + 1) = length-drop (c.in-Some.place + 1) text in
    take_all (length text - (c.in-Some.place + 1)) (drop (c.in-Some.place + 1) text) (omega (arith, all))
    ∙ ap (λ n. drop (n + 1) text) (sym (feed_place text c.in-Some.place (sym c.in-Some.is ∙ found) c.if-text-place-eq10.true))

pub returns-in-Some-clause-plain : goal.returns-in-Some-clause-plain
returns-in-Some-clause-plain c =
    let text = c.args.text.now in
    let found = position_from_yields_List is_other _ _ _ c.position.ensures.ran (YieldsList-from_slice text cc) (λ x b q k. search (rules, tests)) in
    λ _. plain_up_to text c.in-Some.place (sym c.in-Some.is ∙ found)

pub returns-in_default-clause-before : goal.returns-in_default-clause-before
returns-in_default-clause-before c =
    c.split_at.ensures.before ∙ before_found (λ byte. byte == 10) c.args.text.now c.memchr.result (found_byte 10 c.args.text.now c.memchr.result c.memchr.ensures)

pub returns-in_default-clause-after : goal.returns-in_default-clause-after
returns-in_default-clause-after c =
    c.split_at.ensures.after ∙ after_found (λ byte. byte == 10) c.args.text.now c.memchr.result (found_byte 10 c.args.text.now c.memchr.result c.memchr.ensures)
