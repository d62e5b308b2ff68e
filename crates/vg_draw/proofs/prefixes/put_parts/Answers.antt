-- For the clause of `put_parts`: the first number, and each other behind a `.`.
use Rattle.std.proofs.Common.{append_assoc, arith}
use Rattle.std.proofs.lemmas.Grind.{common_steps}
use Rattle.vg_draw.proofs.LineLemmas.{parts-cons}
use Rattle.vg_draw.proofs.prefixes.put_parts.Goals as goal

pub returns : goal.returns
returns c = grind (arith, common_steps, parts-cons, append_assoc)
