use Rattle.std.proofs.Common.{ℕ, ◌≤◌, ap, sym, subst, ◌∙◌, arith}
use Rattle.std.specs.Prelude.{IfSome, slice_get}
use Rattle.vg_model.specs.Graph.{Graph}
use Rattle.vg_trials.proofs.barrier_tests.set_up.Goals as goal

pub crew_of-requires-clause-first : goal.crew_of-requires-clause-first
crew_of-requires-clause-first g c = c.in_ok-parcels.ensures.first c.in_ok-book.book (c.limit_of-early.ensures c.args.master.now c.requires)

pub returns-clause-drawn : goal.returns-clause-drawn
returns-clause-drawn g c =
    let window = c.limit_of-early.ensures c.args.master.now c.requires in
    let few : c.limit_of-early.result ≤ 2 = omega (arith, c.assert_limits.ensures.0) in
    subst (λ o. IfSome o (λ (window : Graph × ℕ). window.1 ≤ 2)) (sym (ap (λ b. slice_get b 0) c.in_ok-crew.ensures.book ∙ window)) few

pub returns-clause-next : goal.returns-clause-next
returns-clause-next g c = λ graph is. ap (λ b. slice_get b 1) c.in_ok-crew.ensures.book ∙ c.limit_of-late.ensures graph is
