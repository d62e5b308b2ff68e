use Rattle.std.proofs.Common.{◌≡◌, ◌∙◌, sym}
use Rattle.std.specs.Prelude.{Some}
use Rattle.vg_model.specs.Edit.{interface_named}
use Rattle.vg_graph.proofs.graphs.Graph.apply.Goals as goal

pub returns-in-Interface-clause-answer : goal.returns-in-Interface-clause-answer
returns-in-Interface-clause-answer c = rw (c.in-Interface.is, ← c.copied.ensures.same) c.set_interface.ensures.answer

pub returns-in-Some-clause-answer : goal.returns-in-Some-clause-answer
returns-in-Some-clause-answer c =
    let there : interface_named c.args.self.now c.in-Adjacency.interface ≡ Some c.in-Some.interface = sym c.interface.ensures.number ∙ c.in-Some.is in
    rw (c.in-Adjacency.is, there, ← c.copied-in-Some.ensures.same) c.set_adjacency.ensures.answer
