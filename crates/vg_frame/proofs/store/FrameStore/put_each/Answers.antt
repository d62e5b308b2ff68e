use Rattle.std.proofs.Common.{◌≡◌, ℕ, ◌+◌, ◌<◌, ◌++◌, length, sym, ap, ◌∙◌, subst, arith}
use Rattle.std.proofs.lemmas.Bool.{eqb-true}
use Rattle.std.proofs.lemmas.Grind.{common_steps}
use Rattle.vg_frame.specs.NodeSet.{SetsBit}
use Rattle.vg_frame.specs.Waiting.{Waiting, IsCut, busy_bit}
use Rattle.vg_frame.proofs.PendingLemmas.{put_nothing}
use Rattle.vg_frame.proofs.StoreLemmas.{has_room_for, has_spares_for, length-pending, pending-set, busy_bit-more, IsStore-set}
use Rattle.vg_frame.proofs.store.FrameStore.put_each.Goals as goal

pub returns-then-is_empty : goal.returns-then-is_empty
returns-then-is_empty c =
    let none = eqb-true _ 0 (sym c.is_empty.ensures ∙ c.if-is_empty.true) in
    sym (put_nothing c.args.self.now c.args.node c.args.indexes.now none)

pub push_each-requires-clause-room : goal.push_each-requires-clause-room
push_each-requires-clause-room c =
    let q = c.self.inside in
    let node_in = rw (← c.self.view_is) at c.requires.node in
    let within : c.args.node < length q.queues.items = omega (arith, length-pending q.queues.items) in
    let fits = has_room_for q.queues.items c.args.node c.index_mut.result.now (length c.args.indexes.now) within (rw (← c.self.view_is) at c.requires.room) in
    omega (arith, fits, ap (λ (w : Waiting). length w.indexes) c.index_mut.ensures.value)

pub push_each-requires-clause-spare : goal.push_each-requires-clause-spare
push_each-requires-clause-spare c =
    let q = c.self.inside in
    let node_in = rw (← c.self.view_is) at c.requires.node in
    let within : c.args.node < length q.queues.items = omega (arith, length-pending q.queues.items) in
    let fits = has_spares_for q.queues.items q.spares q.busy.bits c.self.invariant c.args.node c.index_mut.result.now (length c.args.indexes.now) within (rw (← c.self.view_is) at c.requires.room) in
    omega (arith, fits, ap (λ (w : Waiting). length w.indexes) c.index_mut.ensures.value, ap (λ (w : Waiting). w.full) c.index_mut.ensures.value)

pub push_each-requires-clause-cut : goal.push_each-requires-clause-cut
push_each-requires-clause-cut c =
    let q = c.self.inside in
    let node_in = rw (← c.self.view_is) at c.requires.node in
    let within : c.args.node < length q.queues.items = omega (arith, length-pending q.queues.items) in
    subst IsCut (sym c.index_mut.ensures.value) (c.self.invariant.cut c.args.node c.index_mut.result.now within)

pub invariant_of-self : goal.invariant_of-self
invariant_of-self c =
    let q = c.self.inside in
    let node_in = rw (← c.self.view_is) at c.requires.node in
    let within : c.args.node < length q.queues.items = omega (arith, length-pending q.queues.items) in
    let frames = c.push_each.ensures.frames ∙ ap (λ (w : Waiting). q.spares + w.full) c.index_mut.ensures.value in
    let some : 0 < length c.args.indexes.now = grind (arith, common_steps, c.is_empty.ensures, c.if-is_empty.false) in
    let busy : 1 ≡ busy_bit c.push_each.new.self.indexes = sym (ap busy_bit c.push_each.ensures.indexes ∙ busy_bit-more c.index_mut.result.now.indexes _ (omega (arith, some))) in
    let P : ℕ → Type 0 = λ bit. SetsBit q.busy.bits c.insert.new.self.bits c.args.node bit in
    IsStore-set q.queues.items q.spares q.busy.bits c.push_each.new.spares c.insert.new.self.bits c.args.node c.push_each.new.self c.index_mut.result.now
    c.self.invariant within c.push_each.ensures.cut frames (subst P busy c.insert.ensures)

pub returns : goal.returns
returns c =
    let q = c.self.inside in
    let node_in = rw (← c.self.view_is) at c.requires.node in
    let within : c.args.node < length q.queues.items = omega (arith, length-pending q.queues.items) in
    rw (← c.self.view_is)
    (pending-set q.queues.items c.args.node c.push_each.new.self c.index_mut.result.now (λ xs. xs ++ c.args.indexes.now) within
    (c.push_each.ensures.indexes ∙ ap (λ (w : Waiting). w.indexes ++ c.args.indexes.now) c.index_mut.ensures.value))
