-- For `all_from`: it ends, since the words get fewer.
use Rattle.std.proofs.Common.{length}
use Rattle.vg_why.proofs.asks.+all_from.Given as goal

abbrev pub decreases-all_from : goal.decreases-all_from
decreases-all_from l = length l.words.now
