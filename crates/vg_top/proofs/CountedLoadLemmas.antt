-- For `run_load` and `run_both`: what a run of a load comes to.
use Rattle.std.proofs.Common.{◌≡◌, ◌∙◌, ℕ, zero, suc, ◌≤◌, false, length, refl, ap, arith}
use Rattle.std.proofs.lemmas.List.{length-map}
use Rattle.vg_files.specs.Kinds.{vgd_visit}
use Rattle.vg_model.specs.Journey.{fate_of}
use Rattle.vg_capture.specs.declared.captures.Capture.{Capture}
use Rattle.vg_plan.specs.Plan.{Planned, IsPlan, first_generation}
use Rattle.vg_dispatch.specs.Progress.{AreInRange}
use Rattle.vg_dispatch.specs.declared.options.Options.{Options}
use Rattle.vg_engine.specs.declared.runs.Outcome.{Outcome}
use Rattle.vg_engine.specs.Outcomes.{IsOutcome}
use Rattle.rand_xoshiro.specs.SplitMix64.{mix_u64}
use Rattle.vg_load.specs.Packets.{packets_from}
use Rattle.vg_top.proofs.OutputLemmas.{own}

-- the options of a load are in range
pub load_range : (workers : ℕ) → (1 ≤ workers) × (workers ≤ 8)
    → AreInRange (record { workers = workers; buffers = 4096; queue = 64; burst = 256; trace = 0 })
load_range workers within =
    let most = within.1 in
    record {
      workers = within;
      buffers = (omega (arith, most), omega arith);
      queue = (omega arith, omega arith);
      burst = (omega arith, omega arith);
      trace = omega arith;
    }

-- each packet comes to an end
pub all_ended : (plan : Planned) (options : Options) (capture : Capture) (outcome : Outcome)
    → IsOutcome vgd_visit false plan.graphs (first_generation plan.script capture) capture options outcome → AreInRange options → IsPlan plan
    → length outcome.fates ≡ length capture.packets
all_ended plan options capture outcome is range planned =
    ap length is.are_fates ∙ length-map is.js fate_of ∙ (own plan options capture outcome false is range planned).1
    ∙ length-map capture.packets (λ p. p.bytes)

-- so many packets are made
pub made_packets : (count number state : ℕ) → length (packets_from count number state) ≡ count
unfolding packets_from
made_packets zero number state = refl
made_packets (suc count) number state = (let rest = made_packets count (suc number) (mix_u64 state).1 in omega (arith, rest))
