use Rattle.std.proofs.Common.{◌∙◌, ⊎_elim, inl, inr, length, refl, ap, arith}
use Rattle.std.proofs.lemmas.List.{length-map}
use Rattle.std.proofs.Math.Seq.{map-set_same}
use Rattle.vg_ring.specs.Ends.{head_seen, tx_trail}
use Rattle.vg_underway.specs.Outlets.{outlet_of}
use Rattle.vg_dispatch.proofs.OutletLemmas.{ticked_set, ticked_all, ticked_ends}
use Rattle.vg_dispatch.proofs.gating.tick_all.Goals as goal

pub outputs-init : goal.outputs-init
outputs-init g c = record { accepted = refl; rings = refl; slots = refl; ticked = λ most. refl }

pub outputs-preserved : goal.outputs-preserved
outputs-preserved g c = record {
  accepted = map-set_same g.H.Handoff.accepted c.outputs.outputs c.outputs.output-index c.tick.new.self c.output-item.result c.tick.ensures.accepted ∙ c.outputs.invariant.accepted;
  rings = map-set_same g.H.Handoff.ring c.outputs.outputs c.outputs.output-index c.tick.new.self c.output-item.result c.tick.ensures.ring ∙ c.outputs.invariant.rings;
  slots = map-set_same g.H.Handoff.slots c.outputs.outputs c.outputs.output-index c.tick.new.self c.output-item.result c.tick.ensures.slots ∙ c.outputs.invariant.slots;
  ticked = λ most. ticked_set g.H.Handoff.slots g.H.Handoff.LOSSLESS g.H.Handoff.accepted (outlet_of g.H.Handoff.end g.H.Handoff.refusals g.H.Handoff.waiting g.H.Handoff.free_room g.H.Handoff.closes most) c.args.outputs.now
      c.outputs.outputs c.outputs.output-index c.tick.new.self c.output-item.result (omega arith) (c.outputs.invariant.ticked most)
      (record {
        head_rises = c.tick.ensures.head_rises;
        still = λ e. (ap head_seen (c.tick.ensures.still e), ap tx_trail (c.tick.ensures.still e));
        steps = c.tick.ensures.steps;
        refused = c.tick.ensures.refusals;
        fewer = c.tick.ensures.waiting;
        ends = ⊎_elim (λ none. inl none) (λ full. inr (record { earlier = full.0; read = full.1; full = full.2 }))
            (ticked_ends (g.met.H.Handoff.fills c.tick.new.self) c.tick.ensures.slots c.tick.ensures.accepted c.tick.ensures.ticks);
        room = c.tick.ensures.room;
        gate = c.tick.ensures.gate most;
      });
}

pub returns-clause-ticked : goal.returns-clause-ticked
returns-clause-ticked g c = λ most.
    let acc = g.H.Handoff.accepted in
    let all = ap length c.outputs.invariant.accepted in
    let now = length-map c.outputs.outputs acc in
    let before = length-map c.args.outputs.now acc in
    let past = c.outputs-test.false in
    ticked_all g.H.Handoff.slots g.H.Handoff.LOSSLESS acc (outlet_of g.H.Handoff.end g.H.Handoff.refusals g.H.Handoff.waiting g.H.Handoff.free_room g.H.Handoff.closes most) c.args.outputs.now c.outputs.outputs c.outputs.output-index
    (omega (arith, all, now, before, past)) (c.outputs.invariant.ticked most)
