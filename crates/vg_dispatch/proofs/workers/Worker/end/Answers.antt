use Rattle.std.proofs.Common.{◌≡◌, None, sym, subst}
use Rattle.std.specs.Prelude.{Option}
use Rattle.vg_journeys.specs.Accounts.{HandoffFrame}
use Rattle.vg_underway.specs.Queues.{Queue}
use Rattle.vg_dispatch.specs.Workers.{IsIdle}
use Rattle.vg_underway.proofs.PeerLemmas.{all_map}
use Rattle.vg_dispatch.proofs.workers.Worker.end.Goals as goal

pub into_inputs-requires-clause-idle : goal.into_inputs-requires-clause-idle
into_inputs-requires-clause-idle g c =
    let idle = subst IsIdle (sym c.self.view_is) c.requires in
    all_map (λ (frame : Option HandoffFrame). frame ≡ None) (λ (q : Queue). q.waits) c.self.inside.inputs.items idle.waits

pub into_outputs-requires-clause-held : goal.into_outputs-requires-clause-held
into_outputs-requires-clause-held g c =
    let idle = subst IsIdle (sym c.self.view_is) c.requires in
    all_map (λ n. n ≡ 0) (λ o. g.H.Handoff.waiting o.handoff) c.self.inside.outputs.items idle.held
