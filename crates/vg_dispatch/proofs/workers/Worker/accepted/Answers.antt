use Rattle.std.proofs.Common.{◌≡◌, ◌≢◌, ◌<◌, ◌∙◌, List, [], ap, sym, arith, length, map, get_or}
use Rattle.std.proofs.lemmas.List.{length-map}
use Rattle.vg_journeys.specs.Accounts.{HandoffFrame, frames_with}
use Rattle.vg_underway.specs.Peers.{place_among, by_worker}
use Rattle.vg_dispatch.specs.Workers.{WorkerBook}
use Rattle.vg_underway.proofs.PeerLemmas.{place_within, peers_at, map_at}
use Rattle.vg_dispatch.proofs.workers.Worker.accepted.Goals as goal

pub index-requires : goal.index-requires
index-requires g c =
    let number = ap (λ (w : WorkerBook). w.number) c.self.view_is in
    let workers = ap (λ (w : WorkerBook). w.options.workers) c.self.view_is in
    let own = c.self.invariant.0.number_within in
    let size = c.self.invariant.0.outputs_each in
    let mapped = length-map c.self.inside.outputs.items (λ o. g.H.Handoff.accepted o.handoff) in
    let len = c.self.inside.outputs.ok.0 in
    let most = c.requires.1 in
    let at = c.place_of.ensures in
    let p : place_among c.self.inside.number c.args.to < length c.self.inside.outputs.items =
    place_within c.self.inside.number c.args.to (length c.self.inside.outputs.items) (λ e. c.requires.0 (e ∙ number)) (omega (arith, most, workers, size, mapped)) (omega (arith, own, size, mapped)) in
    omega (arith, p, at, len)

pub returns : goal.returns
returns g c =
    let number = ap (λ (w : WorkerBook). w.number) c.self.view_is in
    let workers = ap (λ (w : WorkerBook). w.options.workers) c.self.view_is in
    let own = c.self.invariant.0.number_within in
    let size = c.self.invariant.0.outputs_each in
    let mapped = length-map c.self.inside.outputs.items (λ o. g.H.Handoff.accepted o.handoff) in
    let most = c.requires.1 in
    let other : c.args.to ≢ c.self.inside.number = λ e. c.requires.0 (e ∙ number) in
    let queues : List (List HandoffFrame) = map (λ o. g.H.Handoff.accepted o.handoff) c.self.inside.outputs.items in
    let len = length-map c.self.inside.outputs.items (λ o. g.H.Handoff.accepted o.handoff) in
    let inside : place_among c.self.inside.number c.args.to < length c.self.inside.outputs.items =
    place_within c.self.inside.number c.args.to (length c.self.inside.outputs.items) other (omega (arith, most, workers, size, mapped)) (omega (arith, own, size, mapped)) in
    let at = c.index.ensures ∙ ap (λ k. get_or c.self.inside.outputs.items k c.index.result.now) c.place_of.ensures in
    let there : frames_with c.args.to (by_worker c.self.inside.number [] queues) ≡ g.H.Handoff.accepted c.index.result.now.handoff =
    peers_at c.self.inside.number c.args.to [] queues [] other (omega (arith, own, size, len)) ∙ map_at (λ o. g.H.Handoff.accepted o.handoff) c.self.inside.outputs.items (place_among c.self.inside.number c.args.to) c.index.result.now [] inside at in
    c.index.result.now.counted ∙ ap length (sym there) ∙ ap (λ (w : WorkerBook). length (frames_with c.args.to w.put)) c.self.view_is
