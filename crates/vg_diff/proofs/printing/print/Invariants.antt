-- For `print`: its loop.
use Rattle.std.proofs.Common.{◌≡◌, length}
use Rattle.vg_diff.proofs.PrintLemmas.{IsPrinting}
use Rattle.vg_diff.proofs.printing.print.Given as goal

abbrev pub invariant-loop-rest : goal.invariant-loop-rest
invariant-loop-rest g l =
    IsPrinting (g.O.Sink.written l.fn.out) (g.O.Sink.written l.out) l.text l.rest × (g.O.Sink.faults l.out ≡ g.O.Sink.faults l.fn.out)

abbrev pub decreases-loop-rest : goal.decreases-loop-rest
decreases-loop-rest g l = length l.rest
