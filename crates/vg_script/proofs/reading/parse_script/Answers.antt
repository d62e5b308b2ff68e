use Rattle.std.proofs.Common.{◌<◌, ◌≤◌, length, arith, refl}
use Rattle.std.proofs.lemmas.Bool.Decides.{nat_tests}
use Rattle.vg_script.proofs.LawfulLemmas.{answered_lawful, answered_script}
use Rattle.vg_script.proofs.ReadLemmas.{read_next, read_refused, read_end}
use Rattle.vg_script.proofs.reading.parse_script.Goals as goal

pub returns-in-Err-clause-exact : goal.returns-in-Err-clause-exact
returns-in-Err-clause-exact c =
    let some : 0 < length c.loop-rest.rest.now = grind (arith, nat_tests, c.loop-rest-test.ensures) in
    read_refused c.args.text.now c.loop-rest.line c.loop-rest.rest.now c.first_line-is_known_plain.result.0.now c.first_line-is_known_plain.result.1.now c.loop-rest.reader c.in-Err.cause c.refusal.result
    (omega arith) c.loop-rest.invariant some c.first_line-is_known_plain.ensures.before c.first_line-is_known_plain.ensures.after c.in-Err.ensures
    c.refusal.ensures.cause c.refusal.ensures.line c.refusal.ensures.memory

pub loop-rest-preserved : goal.loop-rest-preserved
loop-rest-preserved c =
    let some : 0 < length c.loop-rest.rest.now = grind (arith, nat_tests, c.loop-rest-test.ensures) in
    read_next c.args.text.now c.loop-rest.line _ c.loop-rest.rest.now c.first_line-is_known_plain.result.0.now c.first_line-is_known_plain.result.1.now c.loop-rest.reader _
    refl c.loop-rest.invariant some c.first_line-is_known_plain.ensures.before c.first_line-is_known_plain.ensures.after c.in_default.ensures

pub returns-clause-exact : goal.returns-clause-exact
returns-clause-exact c =
    let none : length c.loop-rest.rest.now ≤ 0 = grind (arith, nat_tests, c.loop-rest-test.ensures) in
    read_end c.args.text.now c.loop-rest.line _ c.loop-rest.rest.now c.loop-rest.reader c.finish.result (omega arith) c.loop-rest.invariant none refl c.finish.ensures

pub returns-clause-lawful : goal.returns-clause-lawful
returns-clause-lawful c = answered_lawful c.args.text.now c.finish.result (returns-clause-exact c)

pub returns-clause-types : goal.returns-clause-types
returns-clause-types c = answered_script c.args.text.now c.finish.result (returns-clause-exact c)
