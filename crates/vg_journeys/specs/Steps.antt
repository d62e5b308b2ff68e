-- A turn of one worker, and what it moves in the queues.
use Rattle.std.specs.Prelude.{◌≡◌, ℕ, ◌<◌, ◌≤◌, ◌==◌, List, ◌++◌, length, if◌then◌else◌}
use Rattle.std.specs.List.{AllByRecursion}
use Rattle.vg_journeys.specs.Trips.{Run}
use Rattle.vg_journeys.specs.Accounts.{HandoffFrame, Account, frames_with}

-- the workers, with this one in the place of one
abbrev pub replaced : (ℕ → Account) → ℕ → Account → ℕ → Account
replaced at w new v = if v == w then new else at v

-- frames are taken from the front of what is on its way
pub record Takes (from : ℕ) (old new : Account) (rest after : List HandoffFrame) : Type 0 where
  pub took : List HandoffFrame
  pub taken : frames_with from new.taken ≡ frames_with from old.taken ++ took
  pub left : rest ≡ took ++ after

-- frames that were accepted stand behind it
pub record Puts (to : ℕ) (old new : Account) (rest after : List HandoffFrame) : Type 0 where
  pub pushed : List HandoffFrame
  pub put : frames_with to new.put ≡ frames_with to old.put ++ pushed
  pub left : after ≡ rest ++ pushed

-- a turn of worker w moves frames in its own queues alone
pub record IsStep (run : Run) (at : ℕ → Account) (rest : ℕ → ℕ → List HandoffFrame) (w : ℕ) (new : Account) (after : ℕ → ℕ → List HandoffFrame) : Type 0 where
  pub takes : (from : ℕ) → (from ≡ w → ⊥) → Takes from (at w) new (rest from w) (after from w)
  pub puts : (to : ℕ) → (to ≡ w → ⊥) → Puts to (at w) new (rest w to) (after w to)
  pub own : (frames_with w new.put ≡ frames_with w (at w).put) × (frames_with w new.taken ≡ frames_with w (at w).taken) × (after w w ≡ rest w w)
  pub others : (from to : ℕ) → (from ≡ w → ⊥) → (to ≡ w → ⊥) → after from to ≡ rest from to
  pub full : (to : ℕ) → to < run.workers → AllByRecursion (λ frame. 1 ≤ length frame.packets) (frames_with to new.put)
