use Rattle.std.proofs.Common.{◌≡◌, ◌++◌, [], map, rules, sym, ap, arith, ◌∙◌, append-nil}
use Rattle.std.specs.Vec.Iter.{into_iter_items}
use Rattle.std.proofs.lemmas.List.{nil_from_length}
use Rattle.vg_ring.specs.Ends.{tx_ring, put}
use Rattle.vg_dispatch.proofs.workers.into_outputs.Goals as goal

pub push_reserved-requires : goal.push_reserved-requires
push_reserved-requires g c =
    let steps = c.in-Some.ensures.steps in
    let size = c.loop-output.invariant.size in
    let room = c.loop-output.invariant.room_is in
    omega (arith, steps, size, room)

pub returns-clause-rings : goal.returns-clause-rings
returns-clause-rings g c =
    let empty = c.in-None.ensures.steps.0 in
    let none : into_iter_items c.loop-output.output-iterator ≡ [] = nil_from_length _ (search rules) in
    sym (append-nil _) ∙ ap (λ r. map tx_ring c.loop-output.room.items ++ map (λ o. g.H.Handoff.ring o.handoff) r) (sym none) ∙ c.loop-output.invariant.rings

pub returns-clause-put : goal.returns-clause-put
returns-clause-put g c =
    let empty = c.in-None.ensures.steps.0 in
    let none : into_iter_items c.loop-output.output-iterator ≡ [] = nil_from_length _ (search rules) in
    sym (append-nil _) ∙ ap (λ r. map put c.loop-output.room.items ++ map (λ o. g.H.Handoff.accepted o.handoff) r) (sym none) ∙ c.loop-output.invariant.put_is
