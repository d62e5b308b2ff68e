use Rattle.std.proofs.Common.{◌≡◌, rules, sym, subst}
use Rattle.std.specs.List.{AllByRecursion}
use Rattle.vg_fork.specs.Forked.{Forked}
use Rattle.vg_graph.proofs.ListLemmas.{all_append}
use Rattle.vg_threads.proofs.forks.forks_of.Goals as goal

pub loop-other-preserved : goal.loop-other-preserved
loop-other-preserved c =
    let is : Forked → Type 0 = λ f. f ≡ record { graph = c.args.master.now; generation = c.args.generation } in
    record {
      count = search rules;
      room = search rules;
      each = subst (AllByRecursion is) (sym c.push_reserved.ensures.items) (all_append is c.loop-other.forks.items _ c.loop-other.invariant.each (search rules));
    }
