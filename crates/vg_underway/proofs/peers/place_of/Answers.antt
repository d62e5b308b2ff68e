use Rattle.std.proofs.Common.{sym, arith}
use Rattle.vg_underway.proofs.PeerLemmas.{place_below, place_above}
use Rattle.vg_underway.proofs.peers.place_of.Goals as goal

pub returns-then-other-worker : goal.returns-then-other-worker
returns-then-other-worker c = sym (place_below c.args.worker c.args.other c.if-other-worker.true)

pub returns-else-other-worker : goal.returns-else-other-worker
returns-else-other-worker c = sym (place_above c.args.worker c.args.other (let least = c.if-other-worker.false in let differ = c.requires in omega (arith, least, differ)))
