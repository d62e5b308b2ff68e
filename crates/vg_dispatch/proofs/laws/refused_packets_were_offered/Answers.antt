use Rattle.std.proofs.Common.{ap, ◌∙◌, ◌++◌}
use Rattle.vg_dispatch.specs.Refusals.{came_back}
use Rattle.vg_dispatch.proofs.RefusalLemmas.{AreSame, Made, listed, offered, stands_there, refused}
use Rattle.vg_dispatch.proofs.laws.refused_packets_were_offered.Goals as goal

pub returns : goal.returns
returns c = λ run lossless g generation limit old new round to.
    let same : AreSame to round.trips (round.pushes to) = record { same = round.refused to } in
    let made : Made _ _ _ _ (round.pushes to) _ _ = record { made = round.made to } in
    record {
      offered = λ trip node count inside outcome is_refused. offered node count _ (round.pushes to) made (stands_there same trip inside outcome is_refused);
      refused = refused same;
      listed = listed (round.pushes to) made ∙ ap (λ frames. frames ++ came_back (round.pushes to)) (round.ticks to).refused;
    }
