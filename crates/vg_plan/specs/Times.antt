-- The times of a script's events, as a plan keeps them.
use Rattle.std.specs.Prelude.{◌≡◌, ℕ, ◌≤◌, List, length, map}
use Rattle.std.specs.List.{AllByRecursion}
use Rattle.std.specs.List.Sorted.{IsNonDecreasing}
use Rattle.vg_script.specs.declared.scripts.Script.{Script}
use Rattle.vg_script.specs.Events.{events}

-- the latest time of an event: the last of 999 runs whose period is 1,000,000,000,000
abbrev pub latest_event : ℕ
latest_event = 999000000000000

-- the times of a script's events, in their order
pub record AreTimes (script : Script) (times : List ℕ) : Type 0 where
  pub are : times ≡ map (λ e. e.time) (events script)
  pub rising : IsNonDecreasing times
  pub small : AllByRecursion (λ time. time ≤ latest_event) times
  pub few : length times ≤ 999
