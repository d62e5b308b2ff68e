-- For `entries_of_all`: its loop, its clause.
use Rattle.std.proofs.Common.{◌≡◌, length, subst, ◌∙◌, arith}
use Rattle.vg_plan.specs.Plan.{Planned}
use Rattle.vg_ways.specs.Stories.{IsStory}
use Rattle.vg_why.specs.Journeys.{Gone, IsGone, IsTold, AreEntries}
use Rattle.vg_why.specs.Trips.{gone_of}
use Rattle.vg_why.proofs.CountLemmas.{entries_more}
use Rattle.vg_why.proofs.counting.entries_of_all.Goals as goal

pub loop-number-init : goal.loop-number-init
loop-number-init g c = record { plan = c.in_ok-stages.ensures.plan; entries = λ js are. c.new-entries.ensures.items }

pub loop-number-preserved : goal.loop-number-preserved
loop-number-preserved g c =
    let visit = g.K.KindSet.meaning in
    let number = c.loop-number.number in
    let went = c.went_of-went.result in
    let made = c.in_ok-put_packet.ensures.entries in
    record {
      plan = c.in_ok-put_packet.ensures.plan ∙ c.loop-number.invariant.plan;
      entries = λ js are.
          let gone : Gone = gone_of visit c.args.input.now js in
          let is : IsGone gone number went = c.went_of-went.ensures.gone visit js are in
          let told : IsTold gone number went made.0 = record {
            is_gone = is;
            story = subst (λ (plan : Planned). IsStory visit plan c.args.input.now.workers went made.0) c.loop-number.invariant.plan made.1;
          } in
          entries_more c.loop-number.entries.items (c.loop-number.invariant.entries js are) told made.2;
    }

pub returns : goal.returns
returns g c = λ js are.
    let all : c.loop-number.number ≡ length c.args.trips.now =
    (let most = c.loop-number.auto.number-end in let least = c.loop-number-test.false in let count = c.len-number-end.ensures in omega (arith, most, least, count)) in
    subst (λ n. AreEntries (gone_of g.K.KindSet.meaning c.args.input.now js) n c.loop-number.entries.items) all (c.loop-number.invariant.entries js are)
