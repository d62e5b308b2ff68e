-- For what `Found::with` answers: as many as before, or one more.
use Rattle.std.proofs.Common.{◌+◌, ◌++◌, refl, sym, subst}
use Rattle.std.specs.Prelude.{option_to_list}
use Rattle.vg_remarks.specs.Found.{IsFound}
use Rattle.vg_remarks.proofs.FoundLemmas.{found_same, found_more}
use Rattle.vg_remarks.proofs.found.Found.with.Goals as goal

pub returns-in-None-clause-found : goal.returns-in-None-clause-found
returns-in-None-clause-found g c = λ all is. subst (λ one. IsFound (all ++ option_to_list one) c.args.self) (sym c.in-None.is) (found_same all c.args.self is)

pub returns-in-Some-clause-found : goal.returns-in-Some-clause-found
returns-in-Some-clause-found g c = λ all is.
    subst (λ one. IsFound (all ++ option_to_list one) (record { count = c.args.self.count + 1; first = c.or.result })) (sym c.in-Some.is)
    (found_more all c.in-Some.one c.args.self (record { count = c.args.self.count + 1; first = c.or.result }) is refl c.or.ensures)
