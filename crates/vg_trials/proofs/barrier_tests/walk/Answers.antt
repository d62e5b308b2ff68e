use Rattle.std.proofs.Common.{ℕ, ◌≤◌, ap, sym, subst, ◌∙◌}
use Rattle.std.specs.Prelude.{IfSome, slice_get}
use Rattle.vg_model.specs.Graph.{Graph}
use Rattle.vg_trials.proofs.barrier_tests.walk.Goals as goal

pub give_next-requires-clause-drawn : goal.give_next-requires-clause-drawn
give_next-requires-clause-drawn g c = subst (λ b. IfSome (slice_get b 0) (λ (window : Graph × ℕ). window.1 ≤ 2)) (sym c.park-parked.ensures.book) c.requires.drawn

pub give_next-requires-clause-next : goal.give_next-requires-clause-next
give_next-requires-clause-next g c = λ graph is. ap (λ b. slice_get b 1) c.park-parked.ensures.book ∙ c.requires.next graph is
