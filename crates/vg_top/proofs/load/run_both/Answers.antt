-- For the clauses of `run_both`: each run ended the packets of the load, and settled its 4,096 buffers.
use Rattle.std.proofs.Common.{◌∙◌, ap, length}
use Rattle.vg_top.proofs.CountedLoadLemmas.{made_packets}
use Rattle.vg_top.proofs.load.run_both.Goals as goal

pub returns-clause-ended : goal.returns-clause-ended
returns-clause-ended g c =
    c.in_ok-handoff.ensures.ended ∙ ap length c.in_ok-capture.ensures.made ∙ made_packets c.args.load.now.packets 0 c.args.load.now.seed

pub returns-clause-plain : goal.returns-clause-plain
returns-clause-plain g c =
    let made = ap length c.in_ok-capture.ensures.made ∙ made_packets c.args.load.now.packets 0 c.args.load.now.seed in
    (c.in_ok-plain.ensures.ended ∙ made, c.in_ok-plain.ensures.buffers)

pub returns-clause-runs : goal.returns-clause-runs
returns-clause-runs g c = record {
  capture = c.in_ok-capture.capture;
  is_load = c.in_ok-capture.ensures;
  is_plain = c.in_ok-plain.ensures.run;
  is_handoff = c.in_ok-handoff.ensures.run;
}
