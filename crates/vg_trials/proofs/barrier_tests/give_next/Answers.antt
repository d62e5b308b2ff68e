use Rattle.std.proofs.Common.{ap, sym, ◌∙◌}
use Rattle.std.specs.Prelude.{Some}
use Rattle.vg_model.specs.Graph.{Graph}
use Rattle.vg_trials.proofs.barrier_tests.give_next.Goals as goal

pub renew_both-requires-clause-window : goal.renew_both-requires-clause-window
renew_both-requires-clause-window g c =
    let window = c.requires.next c.make_event.new.master c.in_ok-make_event.ensures in
    (window ∙ ap (λ (graph : Graph). Some (graph, c.args.limit)) (sym c.in_ok-one.ensures.graph), window ∙ ap (λ (graph : Graph). Some (graph, c.args.limit)) (sym c.in_ok-other.ensures.graph))
