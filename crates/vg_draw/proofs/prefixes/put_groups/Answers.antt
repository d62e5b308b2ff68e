-- For the clause of `put_groups`: the first group, and each other behind a `:`.
use Rattle.std.proofs.Common.{append_assoc, arith}
use Rattle.std.proofs.lemmas.Grind.{common_steps}
use Rattle.vg_draw.proofs.LineLemmas.{groups-cons}
use Rattle.vg_draw.proofs.prefixes.put_groups.Goals as goal

pub returns : goal.returns
returns c = grind (arith, common_steps, groups-cons, append_assoc)
