use Rattle.std.proofs.Common.{◌≡◌, ◌+◌, ◌-◌, arith, subst}
use Rattle.vg_threads.specs.Turns.{IsAt}
use Rattle.vg_threads.proofs.TurnLemmas.{can_make_next, next_at, if_ok}
use Rattle.vg_threads.proofs.decisions.Lead.next_forks.Goals as goal

pub make_next-requires : goal.make_next-requires
make_next-requires c =
    let some = c.requires.some in
    let within = c.requires.within in
    let before : (c.args.generation - 1) + 1 ≡ c.args.generation = omega (arith, some) in
    can_make_next c.args.input.now.plan.now (c.args.generation - 1) c.args.self.now.processes c.args.self.now.master c.script-script.ensures.plan (c.requires.at (c.args.generation - 1) before) (omega (arith, before, within))

pub returns-clause-at : goal.returns-clause-at
returns-clause-at c =
    let some = c.requires.some in
    let before : (c.args.generation - 1) + 1 ≡ c.args.generation = omega (arith, some) in
    let at = next_at c.args.input.now.plan.now (c.args.generation - 1) c.args.self.now.processes c.make_next.new.processes c.args.self.now.master c.make_next.new.master c.script-script.ensures.plan
    (c.requires.at (c.args.generation - 1) before) c.in_ok-make_next.ensures in
    if_ok c.forks_of.result _ _ c.forks_of.ensures.count (λ forks e. subst (λ n. IsAt c.args.input.now.plan.now n c.make_next.new.processes c.make_next.new.master) before at)
