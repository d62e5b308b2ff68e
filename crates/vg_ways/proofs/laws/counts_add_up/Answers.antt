-- For `counts_add_up`: its clause.
use Rattle.vg_ways.proofs.CountLemmas.{adds_up}
use Rattle.vg_ways.proofs.laws.counts_add_up.Goals as goal

pub returns : goal.returns
returns c = adds_up
