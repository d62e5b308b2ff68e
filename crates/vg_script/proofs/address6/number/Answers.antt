use Rattle.std.proofs.Common.{◌≡◌, length, arith}
use Rattle.vg_script.proofs.PartLemmas.{halves, eight_number}
use Rattle.vg_script.proofs.address6.number.Goals as goal

pub returns : goal.returns
returns c =
    let eight : length c.args.groups.now ≡ 8 = omega arith in
    eight_number c.args.groups.now _ eight (omega (arith, halves c.args.groups.now eight, c.half-high.ensures, c.half-low.ensures, c.from.ensures, c.from-2.ensures))
