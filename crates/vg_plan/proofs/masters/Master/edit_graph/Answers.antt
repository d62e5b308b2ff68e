use Rattle.vg_plan.proofs.EditLemmas.{edited_generation, edited_done, edited_refused}
use Rattle.vg_plan.proofs.masters.Master.edit_graph.Goals as goal
use Rattle.vg_plan.proofs.masters.Master.edit_graph.Goals.{in-Ok, in-Err}

pub invariant_of-self : goal.invariant_of-self
invariant_of-self c =
    edited_generation c.self.inside.graph _ c.self.inside.fib c.self.inside.fib6 c.args.edit.now c.apply-answer.result c.requires c.self.invariant c.nodes-nodes.ensures.kept c.apply-answer.ensures.answer c.apply-answer.ensures.same

pub returns-clause-done : goal.returns-clause-done
returns-clause-done c = elim c.match-answer.branch [
  | in-Ok w ↦ rw w.result-is (edited_done c.self.inside.graph c.apply-answer.new.self _ c.self.inside.fib c.self.inside.fib6 c.args.edit.now c.self.view_is c.requires w.in-Ok.ensures.answer)
  | in-Err w ↦ rw w.result-is tt
]

pub returns-clause-refused : goal.returns-clause-refused
returns-clause-refused c = elim c.match-answer.branch [
  | in-Ok w ↦ rw w.result-is tt
  | in-Err w ↦ rw w.result-is
      (edited_refused c.self.inside.graph _ c.self.inside.fib c.self.inside.fib6 c.args.edit.now w.in-Err.error w.graph_cause.result c.self.view_is c.requires w.in-Err.ensures.answer w.graph_cause.ensures)
]
