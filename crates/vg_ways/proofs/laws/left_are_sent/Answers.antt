-- For `left_are_sent`: its clause.
use Rattle.vg_ways.proofs.LeftLemmas as lemmas
use Rattle.vg_ways.proofs.laws.left_are_sent.Goals as goal

pub returns : goal.returns
returns c = lemmas.left_are_sent
