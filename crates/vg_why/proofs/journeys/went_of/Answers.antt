-- For `went_of`: its clauses `gone` and `under`.
use Rattle.std.proofs.Common.{length, refl, ap, ◌∙◌}
use Rattle.vg_model.specs.Journey.{end_of}
use Rattle.vg_report.specs.Seen.{line_seen}
use Rattle.vg_why.specs.Trips.{gone_of}
use Rattle.vg_why.proofs.TripLemmas.{gone_is, legs_under}
use Rattle.vg_why.proofs.journeys.went_of.Goals as goal

pub returns-clause-gone : goal.returns-clause-gone
returns-clause-gone c = λ visit js are.
    gone_is (gone_of visit c.args.input.now js) c.args.number _ are
    (record {
      trip = c.get-trip.result;
      line = line_seen c.get.result;
      is_trip = c.get-trip.ensures;
      is_line = c.get.ensures;
      number_is = refl;
      legs = c.legs.ensures.legs;
      visits = c.visits.ensures;
      end = c.end_of.ensures ∙ ap end_of c.outcome.ensures;
      accepted = refl;
    })
    c.bytes.ensures

pub returns-clause-under : goal.returns-clause-under
returns-clause-under c =
    legs_under (length c.args.input.now.plan.now.graphs) c.args.trips.now c.args.number c.requires.under c.get-trip.ensures c.legs.ensures.legs
