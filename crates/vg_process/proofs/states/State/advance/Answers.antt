use Rattle.std.proofs.Common.{drop, sym, ap, ◌∙◌, arith, rules}
use Rattle.std.proofs.lemmas.List.{drop-drop}
use Rattle.vg_process.proofs.RestLemmas.{is_within}
use Rattle.vg_process.proofs.states.State.advance.Goals as goal

pub overflow_add-self : goal.overflow_add-self
overflow_add-self c =
    let within = is_within c.self.inside (rw c.self.view_is c.requires) in
    let range = c.self.ranges in
    search (rules, within)

pub invariant_of-self : goal.invariant_of-self
invariant_of-self c =
    let within = is_within c.self.inside (rw c.self.view_is c.requires) in
    record { within = omega (arith, within); fits = c.self.invariant.fits; some = c.self.invariant.some }

pub returns : goal.returns
returns c = sym (drop-drop 1 c.self.inside.done _) ∙ ap (drop 1) c.self.view_is
