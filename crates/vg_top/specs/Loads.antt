-- What the runs of a load come to.
use Rattle.std.specs.Prelude.{◌≡◌, ℕ, false, List, length}
use Rattle.vg_files.specs.Kinds.{vgd_visit}
use Rattle.vg_files.specs.Plan.{MakesPlan}
use Rattle.vg_capture.specs.declared.captures.Capture.{Capture}
use Rattle.vg_plan.specs.Plan.{Planned, first_generation}
use Rattle.vg_dispatch.specs.declared.options.Options.{Options}
use Rattle.vg_engine.specs.declared.runs.Outcome.{Outcome}
use Rattle.vg_engine.specs.Outcomes.{IsOutcome}
use Rattle.vg_load.specs.Packets.{IsLoad}
use Rattle.vg_load.specs.declared.TheConstants.{PLAIN, HANDOFF}
use Rattle.vg_top.specs.declared.load.Counts.{Counts}

-- the options of a load's runs, but for the number of workers
abbrev pub load_options : ℕ → Options
load_options workers = record { workers = workers; buffers = 4096; queue = 64; burst = 256; trace = 0 }

-- the counts are those of a run of this capture through the generations of this script, by so many workers
pub record IsLoadRun (script : List ℕ) (capture : Capture) (workers : ℕ) (counts : Counts) : Type 0 where
  pub plan : Planned
  pub is_plan : MakesPlan script plan
  pub outcome : Outcome
  pub is_outcome : IsOutcome vgd_visit false plan.graphs (first_generation plan.script capture) capture (load_options workers) outcome
  pub ended : counts.ended ≡ length outcome.fates
  pub sent : counts.sent ≡ length outcome.sent
  pub buffers : counts.buffers ≡ outcome.settled.len

-- a load was run through both graphs, first through the one without handoffs
pub record AreLoadRuns (seed packets workers : ℕ) (plain handoff : Counts) : Type 0 where
  pub capture : Capture
  pub is_load : IsLoad seed packets capture
  pub is_plain : IsLoadRun PLAIN.now capture workers plain
  pub is_handoff : IsLoadRun HANDOFF.now capture workers handoff
