use Rattle.std.proofs.Common.{refl, arith}
use Rattle.std.proofs.lemmas.Bool.{false≢true, iff_false}
use Rattle.vg_report.specs.Seen.{line_seen}
use Rattle.vg_check.proofs.AgreementLemmas.{lines_next, lines_differ, lines_all}
use Rattle.vg_check.proofs.agreement.are_lines.Goals as goal

pub loop-k-preserved : goal.loop-k-preserved
loop-k-preserved c =
    lines_next c.args.graph.now c.loop-k.k c.args.lines.now c.args.trips.now (line_seen c.get-line.result) c.get-trip.result c.get-line.ensures c.get-trip.ensures
    (c.is_line.ensures.0 c.if-not-is_line.false) c.loop-k.invariant

pub returns-then-not-is_line : goal.returns-then-not-is_line
returns-then-not-is_line c = (
  (λ h. absurd (false≢true h)),
  (λ e. absurd (lines_differ c.args.graph.now c.loop-k.k c.args.lines.now c.args.trips.now (line_seen c.get-line.result) c.get-trip.result c.get-line.ensures c.get-trip.ensures
      (iff_false c.is_line.ensures c.if-not-is_line.true) e)),
)

pub returns : goal.returns
returns c = (
  (λ h. lines_all c.args.graph.now c.loop-k.k c.args.lines.now c.args.trips.now (omega arith) (omega arith) c.loop-k.invariant),
  (λ e. refl),
)
