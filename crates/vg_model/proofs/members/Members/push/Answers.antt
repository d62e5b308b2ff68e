use Rattle.std.proofs.Common.{◌≡◌, ◌∙◌, length, sym, ap, arith}
use Rattle.vg_model.specs.Members.{taken_count}
use Rattle.vg_model.proofs.MembersLemmas.{one_more}
use Rattle.vg_model.proofs.members.Members.push.Goals as goal

pub invariant_of-self : goal.invariant_of-self
invariant_of-self c =
    let count : length c.args.self.now ≡ c.self.inside.count = ap length (sym c.self.view_is) ∙ taken_count c.self.inside.count c.self.inside.places c.self.invariant in
    one_more c.self.inside.count c.args.number c.self.inside.places c.self.invariant (omega (arith, count, c.requires))
