-- For the clauses of `run_workers`: main and the workers come back, and there was room for all.
use Rattle.std.proofs.Common.{List, refl, subst, sym, ◌∙◌}
use Rattle.vg_dispatch.specs.Workers.{WorkerBook}
use Rattle.vg_dispatch.specs.Standing.{barrier_id}
use Rattle.vg_threads.specs.Ties.{Tie, MainTie, IsTiedMain, AreTied, tie_of}
use Rattle.vg_threads.proofs.ThreadLemmas.{as_long, has_room}
use Rattle.vg_threads.proofs.workers.run_workers.Goals as goal

pub returns-clause-workers : goal.returns-clause-workers
returns-clause-workers g c =
    let same = c.run_team-workers.ensures.workers ∙ c.tie_all-workers.ensures in
    subst (λ (ts : List Tie). AreTied g.K.KindSet.meaning g.H.Handoff.LOSSLESS ts c.untie_all.result.items) same c.untie_all.ensures

pub invariant_of-run_team : goal.invariant_of-run_team
invariant_of-run_team g c =
    let input = c.args.input.now in
    let tie : WorkerBook → Tie = tie_of input.plan.now input.capture.now input.options.now (barrier_id c.args.barrier.now) in
    let tied = c.tie_all-workers.result in
    let given = c.args.workers in
    let count = sym (as_long tie given.items tied.items _ _ given.ok.0 tied.ok.0 (sym c.tie_all-workers.ensures)) ∙ sym c.len.ensures in
    record {
      rooms = (
        c.in-Ok.ensures.started.0,
        has_room _ _ _ count c.in-Ok.ensures.started.1,
        c.in-Ok.ensures.joined.0,
        has_room _ _ _ count c.in-Ok.ensures.joined.1,
      );
      posted = c.requires.posts ∙ as_long tie given.items tied.items _ _ given.ok.0 tied.ok.0 (sym c.tie_all-workers.ensures);
    }

pub untie_all-requires : goal.untie_all-requires
untie_all-requires g c =
    let input = c.args.input.now in
    let tie : WorkerBook → Tie = tie_of input.plan.now input.capture.now input.options.now (barrier_id c.args.barrier.now) in
    let back = c.run_team-workers.result.workers in
    let given = c.args.workers in
    let same = sym c.tie_all-workers.ensures ∙ sym c.run_team-workers.ensures.workers in
    let count = sym (as_long tie given.items back.items _ _ given.ok.0 back.ok.0 same) ∙ sym c.len.ensures in
    record { room = (c.in-Ok.ensures.untied.0, has_room _ _ _ count c.in-Ok.ensures.untied.1) }

pub returns-clause-main : goal.returns-clause-main
returns-clause-main g c =
    let same = c.run_team-workers.ensures.main ∙ c.new.ensures in
    (subst (λ (t : MainTie). IsTiedMain t c.untied.result) same c.untied.ensures).at c.args.barrier.now refl
