use Rattle.vg_replay.proofs.CountLemmas.{can_visit, can_end, adds_both}
use Rattle.vg_replay.specs.Legs.{outcome_of}
use Rattle.vg_model.specs.Journey.{end_of}
use Rattle.vg_model.specs.Count.{drop_visit}
use Rattle.vg_replay.proofs.counting.count.Goals as goal

pub count_visits-requires : goal.count_visits-requires
count_visits-requires c = can_visit c.args.visits.now (end_of (outcome_of c.args.outcome)) c.args.counts.now c.requires

pub count_end-requires : goal.count_end-requires
count_end-requires c = can_end c.args.visits.now (end_of (outcome_of c.args.outcome)) c.args.counts.now c.count_visits.new.counts c.requires c.count_visits.ensures

pub returns : goal.returns
returns c =
    adds_both c.args.visits.now (drop_visit (end_of (outcome_of c.args.outcome))) (end_of (outcome_of c.args.outcome)) c.args.counts.now c.count_visits.new.counts c.count_end.new.counts
    c.count_visits.ensures c.count_end.ensures
