use Rattle.std.proofs.Common.{◌≡◌, ◌≢◌, ℕ, ◌+◌, [], take, drop, sym, ap, ◌∙◌, subst}
use Rattle.std.proofs.lemmas.Bool.{false≢true}
use Rattle.vg_frame.specs.Pending.{frame_size}
use Rattle.vg_frame.specs.NodeSet.{SetsBit}
use Rattle.vg_frame.specs.Waiting.{Waiting, busy_bit}
use Rattle.vg_frame.proofs.StoreLemmas.{busy_within, busy_bit-some, IsStore-set, SetsBit-same, takes_frame}
use Rattle.vg_frame.proofs.store.FrameStore.next_frame.Goals as goal
use Rattle.vg_frame.proofs.store.FrameStore.next_frame.Goals.{then-is_empty, else-is_empty}

pub invariant_of-self : goal.invariant_of-self
invariant_of-self c =
    let q = c.self.inside in
    let within = busy_within q.queues.items q.spares q.busy.bits c.in_ok-node.node c.self.invariant c.in_ok-node.ensures in
    let frames = c.pop-frame.ensures.frames ∙ ap (λ (w : Waiting). q.spares + w.full) c.index_mut-queue.ensures.value in
    let none : 0 ≡ busy_bit c.pop-frame.new.self.indexes = sym (ap busy_bit (c.is_empty.ensures.0 c.if-is_empty.true)) in
    let P : ℕ → Type 0 = λ bit. SetsBit q.busy.bits c.remove.new.self.bits c.in_ok-node.node bit in
    IsStore-set q.queues.items q.spares q.busy.bits c.pop-frame.new.spares c.remove.new.self.bits c.in_ok-node.node c.pop-frame.new.self c.index_mut-queue.result.now
    c.self.invariant within c.pop-frame.ensures.cut frames (subst P none c.remove.ensures)

pub invariant_of-self-else-is_empty : goal.invariant_of-self-else-is_empty
invariant_of-self-else-is_empty c =
    let q = c.self.inside in
    let within = busy_within q.queues.items q.spares q.busy.bits c.in_ok-node.node c.self.invariant c.in_ok-node.ensures in
    let frames = c.pop-frame.ensures.frames ∙ ap (λ (w : Waiting). q.spares + w.full) c.index_mut-queue.ensures.value in
    let some : c.pop-frame.new.self.indexes ≢ [] = λ e. false≢true (sym c.if-is_empty.false ∙ c.is_empty.ensures.1 e) in
    let P : ℕ → Type 0 = λ bit. SetsBit q.busy.bits q.busy.bits c.in_ok-node.node bit in
    IsStore-set q.queues.items q.spares q.busy.bits c.pop-frame.new.spares q.busy.bits c.in_ok-node.node c.pop-frame.new.self c.index_mut-queue.result.now
    c.self.invariant within c.pop-frame.ensures.cut frames
    (subst P (sym (busy_bit-some c.pop-frame.new.self.indexes some)) (SetsBit-same q.busy.bits c.in_ok-node.node c.in_ok-node.ensures.has))

pub returns : goal.returns
returns c =
    let q = c.self.inside in
    let oldest = c.pop-frame.ensures.frame ∙ ap (λ (w : Waiting). take frame_size w.indexes) c.index_mut-queue.ensures.value in
    let rest = c.pop-frame.ensures.rest ∙ ap (λ (w : Waiting). drop frame_size w.indexes) c.index_mut-queue.ensures.value in
    let taken = takes_frame q.queues.items q.spares q.busy.bits c.in_ok-node.node c.pop-frame.new.self c.index_mut-queue.result.now c.pop-frame.result c.self.invariant c.in_ok-node.ensures oldest rest in
    elim c.if-is_empty.branch [ then-is_empty w ↦ rw (← c.self.view_is, w.self-is) taken | else-is_empty w ↦ rw (← c.self.view_is, w.self-is) taken ]
