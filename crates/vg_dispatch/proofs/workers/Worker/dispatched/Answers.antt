use Rattle.std.proofs.Common.{◌≡◌, ◌≢◌, ◌<◌, ◌∙◌, List, [], ap, sym, arith, length, map, get_or}
use Rattle.std.proofs.lemmas.List.{length-map}
use Rattle.vg_journeys.specs.Accounts.{HandoffFrame, frames_with}
use Rattle.vg_underway.specs.Queues.{Queue}
use Rattle.vg_underway.specs.Peers.{place_among, by_worker}
use Rattle.vg_dispatch.specs.Workers.{WorkerBook}
use Rattle.vg_underway.proofs.PeerLemmas.{place_within, peers_at, map_at}
use Rattle.vg_dispatch.proofs.workers.Worker.dispatched.Goals as goal

pub index-requires : goal.index-requires
index-requires g c =
    let number = ap (λ (w : WorkerBook). w.number) c.self.view_is in
    let workers = ap (λ (w : WorkerBook). w.options.workers) c.self.view_is in
    let own = c.self.invariant.0.number_within in
    let size = c.self.invariant.0.inputs_each in
    let len = c.self.inside.inputs.ok.0 in
    let most = c.requires.1 in
    let at = c.place_of.ensures in
    let p : place_among c.self.inside.number c.args.from < length c.self.inside.inputs.items =
    place_within c.self.inside.number c.args.from (length c.self.inside.inputs.items) (λ e. c.requires.0 (e ∙ number)) (omega (arith, most, workers, size)) (omega (arith, own, size)) in
    omega (arith, p, at, len)

pub returns : goal.returns
returns g c =
    let number = ap (λ (w : WorkerBook). w.number) c.self.view_is in
    let workers = ap (λ (w : WorkerBook). w.options.workers) c.self.view_is in
    let own = c.self.invariant.0.number_within in
    let size = c.self.invariant.0.inputs_each in
    let most = c.requires.1 in
    let other : c.args.from ≢ c.self.inside.number = λ e. c.requires.0 (e ∙ number) in
    let queues : List (List HandoffFrame) = map (λ (q : Queue). q.taken) c.self.inside.inputs.items in
    let len = length-map c.self.inside.inputs.items (λ (q : Queue). q.taken) in
    let inside : place_among c.self.inside.number c.args.from < length c.self.inside.inputs.items =
    place_within c.self.inside.number c.args.from (length c.self.inside.inputs.items) other (omega (arith, most, workers, size)) (omega (arith, own, size)) in
    let at = c.index.ensures ∙ ap (λ k. get_or c.self.inside.inputs.items k c.index.result.now) c.place_of.ensures in
    let there : frames_with c.args.from (by_worker c.self.inside.number [] queues) ≡ c.index.result.now.taken =
    peers_at c.self.inside.number c.args.from [] queues [] other (omega (arith, own, size, len)) ∙ map_at (λ (q : Queue). q.taken) c.self.inside.inputs.items (place_among c.self.inside.number c.args.from) c.index.result.now [] inside at in
    c.count.ensures ∙ ap length (sym there) ∙ ap (λ (w : WorkerBook). length (frames_with c.args.from w.taken)) c.self.view_is
