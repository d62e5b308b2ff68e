use Rattle.std.proofs.Common.{arith}
use Rattle.vg_report.proofs.BodyLemmas.{read_start, lines_few}
use Rattle.vg_report.proofs.reading.body.Goals as goal

pub loop-report-init : goal.loop-report-init
loop-report-init c = read_start c.args.head.now c.args.lines.now c.in_ok-report.report c.in_ok-report.ensures c.requires.head c.requires.number

pub further-requires-clause-room : goal.further-requires-clause-room
further-requires-clause-room c =
    let few = lines_few c.args.head.now.packets c.loop-report.report c.loop-report.invariant.so_far in
    let number = c.loop-report.invariant.number in
    omega (arith, few, number)
