use Rattle.std.proofs.Common.{◌≡◌, [], replicate, ap, ◌∙◌, arith}
use Rattle.vg_frame.proofs.StoreLemmas.{pending-new, IsStore-new}
use Rattle.vg_frame.proofs.store.FrameStore.new.Goals as goal

pub invariant_of-result : goal.invariant_of-result
invariant_of-result c =
    rw (c.loop.invariant.0, c.new-2.ensures) (IsStore-new c.loop.counter c.loop.spares (omega arith) c.loop.invariant.1)

pub returns : goal.returns
returns c =
    let all : c.loop.counter ≡ c.args.nodes = omega arith in
    rw c.loop.invariant.0 (pending-new c.loop.counter ∙ ap (λ n. replicate n []) all)
