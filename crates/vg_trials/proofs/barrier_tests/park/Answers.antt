use Rattle.std.proofs.Common.{ℕ, List, ap, sym, ◌∙◌}
use Rattle.vg_model.specs.Graph.{Graph}
use Rattle.vg_barrier.specs.declared.views.MainView.{MainView}
use Rattle.vg_trials.proofs.barrier_tests.park.Goals as goal

pub returns-clause-whole : goal.returns-clause-whole
returns-clause-whole g c = λ k p at.
    let whole = c.in-All.ensures.whole k p at in
    record {
      fits = whole.fits;
      mark = whole.mark;
      generation = whole.generation ∙ sym (ap (λ (z : MainView (List (Graph × ℕ))). z.released) c.in-All.ensures.view);
    }
