use Rattle.vg_workers.proofs.CrewLemmas.{crew_numbered, crew_few, stopped_same}
use Rattle.vg_workers.proofs.crews.finish.Goals as goal

pub are_done-requires-clause-numbered : goal.are_done-requires-clause-numbered
are_done-requires-clause-numbered g c = crew_numbered _ _ _ _ _ _ c.loop.workers.items c.loop.invariant.2

pub are_done-requires-clause-few : goal.are_done-requires-clause-few
are_done-requires-clause-few g c = crew_few _ _ _ _ _ _ c.loop.workers.items c.loop.invariant.2

pub finish_all-requires-clause-stopped : goal.finish_all-requires-clause-stopped
finish_all-requires-clause-stopped g c = stopped_same c.loop.workers.items c.args.workers.now.items c.loop.invariant.3 c.requires.stopped
