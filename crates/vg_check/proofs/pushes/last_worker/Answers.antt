use Rattle.std.proofs.Common.{◌-◌, ◌∙◌, ap, refl, arith, length}
use Rattle.vg_model.specs.Lawful.{last_worker}
use Rattle.vg_check.proofs.PushLemmas.{last_is}
use Rattle.vg_check.proofs.pushes.last_worker.Goals as goal

pub returns : goal.returns
returns c =
    last_is c.legs-legs.result.now (length c.legs-legs.result.now - 1) (record { worker = 0; generation = 0 })
    (let long = ap length c.legs-legs.ensures.legs in let some = c.requires.some in omega (arith, long, some)) refl
    ∙ ap last_worker c.legs-legs.ensures.legs
