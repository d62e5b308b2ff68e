use Rattle.std.proofs.Common.{◌≡◌, ℕ, ◌+◌, ◌<◌, [], ◌∷◌, ◌++◌, length, sym, ap, ◌∙◌, subst, arith}
use Rattle.vg_frame.specs.NodeSet.{SetsBit}
use Rattle.vg_frame.specs.Waiting.{Waiting, busy_bit}
use Rattle.vg_frame.proofs.StoreLemmas.{has_room, has_spare, length-pending, pending-set, busy_bit-push, IsStore-set}
use Rattle.vg_frame.proofs.store.FrameStore.put.Goals as goal

pub push-requires-clause-room : goal.push-requires-clause-room
push-requires-clause-room c =
    let q = c.self.inside in
    let node_in = rw (← c.self.view_is) at c.requires.node in
    let within : c.args.node < length q.queues.items = omega (arith, length-pending q.queues.items) in
    let few = rw (← c.self.view_is) at c.requires.room in
    let room = has_room q.queues.items q.spares q.busy.bits c.self.invariant few c.args.node c.index_mut.result.now within in
    omega (arith, room, ap (λ (w : Waiting). w.full) c.index_mut.ensures.value)

pub push-requires-clause-spare : goal.push-requires-clause-spare
push-requires-clause-spare c =
    let q = c.self.inside in
    has_spare q.queues.items q.spares q.busy.bits c.self.invariant (rw (← c.self.view_is) at c.requires.room)

pub invariant_of-self : goal.invariant_of-self
invariant_of-self c =
    let q = c.self.inside in
    let node_in = rw (← c.self.view_is) at c.requires.node in
    let within : c.args.node < length q.queues.items = omega (arith, length-pending q.queues.items) in
    let frames = c.push.ensures.frames ∙ ap (λ (w : Waiting). q.spares + w.full) c.index_mut.ensures.value in
    let busy : 1 ≡ busy_bit c.push.new.self.indexes = sym (ap busy_bit c.push.ensures.indexes ∙ busy_bit-push c.index_mut.result.now.indexes c.args.index) in
    let P : ℕ → Type 0 = λ bit. SetsBit q.busy.bits c.insert.new.self.bits c.args.node bit in
    IsStore-set q.queues.items q.spares q.busy.bits c.push.new.spares c.insert.new.self.bits c.args.node c.push.new.self c.index_mut.result.now
    c.self.invariant within c.push.ensures.cut frames (subst P busy c.insert.ensures)

pub returns : goal.returns
returns c =
    let q = c.self.inside in
    let node_in = rw (← c.self.view_is) at c.requires.node in
    let within : c.args.node < length q.queues.items = omega (arith, length-pending q.queues.items) in
    rw (← c.self.view_is)
    (pending-set q.queues.items c.args.node c.push.new.self c.index_mut.result.now (λ xs. xs ++ c.args.index ∷ []) within
    (c.push.ensures.indexes ∙ ap (λ (w : Waiting). w.indexes ++ c.args.index ∷ []) c.index_mut.ensures.value))
