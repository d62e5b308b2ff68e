use Rattle.vg_capture.proofs.LimitLemmas.{capture_fits}
use Rattle.vg_capture.proofs.laws.read_is_a_capture.Goals as goal

pub returns : goal.returns
returns c = capture_fits
