-- The counts that refused packets have.
use Rattle.std.specs.Prelude.{Bool, false, ◌≡◌, ℕ, ◌≤◌, List, length, Option, None, Some}
use Rattle.vg_model.specs.Leg.{Outcome, Sent, Dropped, Handed}
use Rattle.vg_journeys.specs.Accounts.{HandoffFrame, frames_with}

-- how many frames a queue had accepted when it refused one: no fewer than its slots, and than before a turn, no more than behind it;
-- and queues that refuse nothing give no such count
pub record IsCountAt (slots : ℕ) (lossless : Bool) (count before after : ℕ) : Type 0 where
  pub slots_most : slots ≤ count
  pub before_most : before ≤ count
  pub most : count ≤ after
  pub lossy : lossless ≡ false

-- a refused packet has a count of the queue to the worker that its leg hands it to, where queues have accepted these frames before a
-- turn and behind it
abbrev pub IsCountIn : (slots : ℕ) (lossless : Bool) (old new : List (List HandoffFrame)) → Outcome → Option ℕ → Type 0
IsCountIn slots lossless old new (Handed node to) (Some count) = IsCountAt slots lossless count (length (frames_with to old)) (length (frames_with to new))
IsCountIn slots lossless old new (Handed node to) None = Unit {0}
IsCountIn slots lossless old new (Sent interface) refused = Unit {0}
IsCountIn slots lossless old new (Dropped node error) refused = Unit {0}
