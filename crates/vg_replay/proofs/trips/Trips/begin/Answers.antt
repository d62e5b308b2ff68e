use Rattle.std.proofs.Common.{refl}
use Rattle.vg_replay.proofs.PartLemmas.{one_kept, none_within}
use Rattle.vg_replay.proofs.trips.Trips.begin.Goals as goal

pub invariant_of-self-2 : goal.invariant_of-self-2
invariant_of-self-2 c = one_kept c.self.inside.lists c.self.inside.kept.items c.push.new.self.items _ c.self.invariant c.in_ok-push.ensures.items (none_within c.self.inside.lists _ refl refl refl refl refl)
