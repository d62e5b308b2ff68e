-- `numbers_of`, the numbers of packets that were sent or dropped: one packet more.
use Rattle.std.proofs.Common.{◌+◌, ◌++◌, drop, ap, ◌∙◌, append_assoc, arith}
use Rattle.vg_report.specs.Seen.{line_seen, end_seen}
use Rattle.vg_diff.specs.Numbers.{number_if, counts_among, numbers_from}
use Rattle.vg_diff.proofs.NumberLemmas.{number_more}
use Rattle.vg_diff.proofs.numbers.numbers_of.Goals as goal

pub loop-number-preserved : goal.loop-number-preserved
loop-number-preserved c =
    let lines = c.args.report.now.packets in
    let i = c.loop-number.number in
    let numbers = c.loop-number.numbers.items in
    let line = line_seen c.get.result in
    let rest = numbers_from c.args.sent (i + 1) (drop (i + 1) lines) in
    ap (λ front. front ++ rest) (c.in_ok-put_number.ensures ∙ ap (λ b. numbers ++ number_if b i) c.does_count-counts.ensures)
    ∙ append_assoc numbers (number_if (counts_among c.args.sent (end_seen c.get.result.end)) i) rest
    ∙ ap (λ xs. numbers ++ xs) (number_more c.args.sent lines i line (omega arith) c.get.ensures)
    ∙ c.loop-number.invariant
