-- For the loop of `lines_of`: one packet more.
use Rattle.std.proofs.Common.{◌+◌, ◌++◌, [], ◌∷◌, map, drop, sym, ap, ◌∙◌, append_assoc}
use Rattle.vg_report.specs.Seen.{line_seen}
use Rattle.vg_check.specs.Reports.{lines_by, with_count}
use Rattle.vg_differs.proofs.SentLemmas.{line_next}
use Rattle.vg_differs.proofs.wanted.lines_of.Goals as goal

pub loop-number-preserved : goal.loop-number-preserved
loop-number-preserved c =
    let g = c.args.graph.now in
    let lines = c.args.lines.now in
    let trips = c.args.trips.now in
    let k = c.loop-number.number in
    let made = c.loop-number.made.items in
    let one = c.line_of.result in
    let later = map with_count (lines_by g (drop (k + 1) lines) (drop (k + 1) trips)) in
    c.loop-number.invariant
    ∙ ap (λ l. made ++ l) (line_next g lines trips k (line_seen c.get-congested.result) c.get.result c.get-congested.ensures c.get.ensures ∙ ap (λ l. l ∷ later) (sym c.line_of.ensures))
    ∙ sym (append_assoc made (one ∷ []) later)
    ∙ ap (λ l. l ++ later) (sym c.in_ok-push.ensures.items)
