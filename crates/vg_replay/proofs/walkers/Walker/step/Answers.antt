use Rattle.std.proofs.Common.{◌++◌, ◌∷◌, [], length, ap, arith, refl, ◌∙◌}
use Rattle.vg_replay.specs.Courses.{in_hand}
use Rattle.vg_replay.specs.Legs.{outcome_of}
use Rattle.vg_replay.proofs.WalkerLemmas.{walker_goes_on}
use Rattle.vg_replay.proofs.walkers.Walker.step.Goals as goal

pub returns : goal.returns
returns g c =
    let count = ap length c.as_slice.ensures.legs in
    let few = c.as_slice.ensures.few in
    walker_goes_on g.K.KindSet.meaning c.args.fork.now.graph c.args.workers c.args.fork.now.generation c.in-Handed.node c.in-Handed.worker _ (in_hand c.args.self.now)
    (in_hand (record { buffer = c.leg_from.new.buffer; legs = c.push.new.self; outcome = c.in-Some.outcome; visits = c.leg_from.new.visits })) _ c.in-Some.outcome c.in_ok-next.ensures
    c.in-Some.is (omega (arith, count, few)) (ap outcome_of c.in-Handed.is) refl
    (c.push.ensures ∙ ap (λ n. c.args.self.now.legs ++ record { worker = c.in-Handed.worker; generation = n } ∷ []) c.generation.ensures)
