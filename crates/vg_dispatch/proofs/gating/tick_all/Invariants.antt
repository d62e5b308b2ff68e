use Rattle.std.proofs.Common.{◌≡◌, ℕ, map}
use Rattle.vg_underway.specs.Outlets.{outlet_of}
use Rattle.vg_dispatch.proofs.OutletLemmas.{AreTickedTo}
use Rattle.vg_dispatch.proofs.gating.tick_all.Given as goal

abbrev pub invariant-outputs : goal.invariant-outputs
invariant-outputs g l = record {
  accepted : map g.H.Handoff.accepted l.outputs ≡ map g.H.Handoff.accepted l.fn.outputs;
  rings : map g.H.Handoff.ring l.outputs ≡ map g.H.Handoff.ring l.fn.outputs;
  slots : map g.H.Handoff.slots l.outputs ≡ map g.H.Handoff.slots l.fn.outputs;
  ticked : (most : ℕ) → AreTickedTo g.H.Handoff.slots g.H.Handoff.LOSSLESS g.H.Handoff.accepted (outlet_of g.H.Handoff.end g.H.Handoff.refusals g.H.Handoff.waiting g.H.Handoff.free_room g.H.Handoff.closes most)
      l.output-index l.fn.outputs l.outputs;
}
