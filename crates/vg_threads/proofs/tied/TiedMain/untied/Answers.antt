use Rattle.std.proofs.Common.{subst}
use Rattle.vg_dispatch.specs.Standing.{barrier_id}
use Rattle.vg_threads.specs.Ties.{MainTie, IsTiedMain}
use Rattle.vg_threads.proofs.ThreadLemmas.{main_at}
use Rattle.vg_threads.proofs.tied.TiedMain.untied.Goals as goal

pub returns : goal.returns
returns c =
    let t = c.self.inside in
    let here : IsTiedMain (record { plan = t.input.now.plan.now; capture = t.input.now.capture.now; barrier = barrier_id t.barrier.now }) t.main =
    record { at = λ b same. main_at t.input.now.plan.now t.input.now.capture.now t.barrier.now b t.main same c.self.invariant } in
    subst (λ (tie : MainTie). IsTiedMain tie t.main) c.self.view_is here
