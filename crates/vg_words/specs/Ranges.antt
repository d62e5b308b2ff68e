-- The ranges of a run's options.
use Rattle.std.specs.Prelude.{◌≡◌, ℕ, ◌+◌, ◌*◌, ◌≤◌, List, Some}
use Rattle.vg_words.specs.Command.{Text, Run, Loads, Runs, command}

pub record IsInRange (run : Run) : Type 0 where
  pub some_workers : 1 ≤ run.workers
  pub few_workers : run.workers ≤ 8
  pub enough_buffers : 256 * run.workers + 256 ≤ run.buffers
  pub few_buffers : run.buffers ≤ 16384
  pub some_slots : 1 ≤ run.queue
  pub few_slots : run.queue ≤ 256
  pub some_burst : 1 ≤ run.burst
  pub short_burst : run.burst ≤ 256
  pub few_traces : run.trace ≤ 256

-- what words ask to run is in its ranges
abbrev pub RunsInRange : Type 0
RunsInRange = (words : List Text) (run : Run) → command words ≡ Some (Runs run) → IsInRange run

-- a load is in its ranges
pub record IsLoadInRange (packets workers : ℕ) : Type 0 where
  pub some_packets : 1 ≤ packets
  pub few_packets : packets ≤ 65536
  pub some_workers : 1 ≤ workers
  pub few_workers : workers ≤ 8

-- what words ask to load is in its ranges
abbrev pub LoadsInRange : Type 0
LoadsInRange = (words : List Text) (seed packets workers : ℕ) → command words ≡ Some (Loads seed packets workers) → IsLoadInRange packets workers
