use Rattle.std.proofs.Common.{◌≡◌, ◌++◌, [], map, rules, sym, ap, arith, ◌∙◌, append-nil}
use Rattle.std.specs.Vec.Iter.{into_iter_items}
use Rattle.std.proofs.lemmas.List.{nil_from_length}
use Rattle.vg_ring.specs.Ends.{rx_ring, taken}
use Rattle.vg_underway.specs.Queues.{Queue}
use Rattle.vg_dispatch.proofs.workers.into_inputs.Goals as goal

pub push_reserved-requires : goal.push_reserved-requires
push_reserved-requires c =
    let steps = c.in-Some.ensures.steps in
    let size = c.loop-incoming.invariant.size in
    let room = c.loop-incoming.invariant.room_is in
    omega (arith, steps, size, room)

pub returns-clause-rings : goal.returns-clause-rings
returns-clause-rings c =
    let empty = c.in-None.ensures.steps.0 in
    let none : into_iter_items c.loop-incoming.incoming-iterator ≡ [] = nil_from_length _ (search rules) in
    sym (append-nil _) ∙ ap (λ r. map rx_ring c.loop-incoming.room.items ++ map (λ (q : Queue). q.ring) r) (sym none) ∙ c.loop-incoming.invariant.rings

pub returns-clause-taken : goal.returns-clause-taken
returns-clause-taken c =
    let empty = c.in-None.ensures.steps.0 in
    let none : into_iter_items c.loop-incoming.incoming-iterator ≡ [] = nil_from_length _ (search rules) in
    sym (append-nil _) ∙ ap (λ r. map taken c.loop-incoming.room.items ++ map (λ (q : Queue). q.taken) r) (sym none) ∙ c.loop-incoming.invariant.taken_is
