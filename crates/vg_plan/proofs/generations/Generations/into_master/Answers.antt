use Rattle.std.proofs.Common.{sym, ap, ◌∙◌}
use Rattle.std.specs.Prelude.{slice_get}
use Rattle.vg_plan.proofs.LeftLemmas.{first_left}
use Rattle.vg_plan.proofs.generations.Generations.into_master.Goals as goal

pub returns : goal.returns
returns c = ap (λ graphs. slice_get graphs 0) (sym c.self.view_is) ∙ first_left c.self.inside.master c.self.inside.made c.self.inside.runs.items c.self.invariant
