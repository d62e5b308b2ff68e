use Rattle.std.proofs.Common.{◌≤◌, length, drop, ap, ◌∙◌, arith}
use Rattle.vg_plan.specs.Left.{graphs_left}
use Rattle.vg_plan.proofs.LeftLemmas.{run_within, left_next, graphs_next}
use Rattle.vg_plan.proofs.generations.Generations.advance.Goals as goal

pub index-requires : goal.index-requires
index-requires c =
    let within = run_within c.self.inside.master c.self.inside.made c.self.inside.runs.items c.self.invariant (omega (arith, ap length c.self.view_is, c.requires)) in
    omega (arith, within)

pub invariant_of-result : goal.invariant_of-result
invariant_of-result c =
    let two : 2 ≤ length (graphs_left c.self.inside.master c.self.inside.made c.self.inside.runs.items) = omega (arith, ap length c.self.view_is, c.requires) in
    let within = run_within c.self.inside.master c.self.inside.made c.self.inside.runs.items c.self.invariant two in
    left_next c.self.inside.master c.make.new.self c.self.inside.made c.self.inside.runs.items c.index.result.now c.self.invariant within c.index.ensures c.in-Ok.ensures.made

pub returns-in-Ok : goal.returns-in-Ok
returns-in-Ok c =
    let two : 2 ≤ length (graphs_left c.self.inside.master c.self.inside.made c.self.inside.runs.items) = omega (arith, ap length c.self.view_is, c.requires) in
    let within = run_within c.self.inside.master c.self.inside.made c.self.inside.runs.items c.self.invariant two in
    graphs_next c.self.inside.master c.make.new.self c.self.inside.made c.self.inside.runs.items c.index.result.now c.self.invariant within c.index.ensures c.in-Ok.ensures.made
    ∙ ap (drop 1) c.self.view_is
