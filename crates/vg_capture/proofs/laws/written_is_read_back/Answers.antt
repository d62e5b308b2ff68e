use Rattle.std.proofs.Common.{arith}
use Rattle.vg_capture.proofs.RoundTripLemmas.{reads_back, sent_few}
use Rattle.vg_capture.proofs.laws.written_is_read_back.Goals as goal

pub returns : goal.returns
returns c = λ capture sent fit of short small. let few = sent_few capture sent of in reads_back capture sent fit (omega (arith, fit.few, few)) short small
