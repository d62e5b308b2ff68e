-- What a turn draws and takes.
use Rattle.std.specs.Prelude.{◌≡◌, ℕ, zero, suc, ◌+◌, ◌<◌, ◌≤◌, ◌↔◌, List, [], ◌∷◌, ◌++◌, length, slice_index_or}
use Rattle.vg_journeys.specs.Trips.{Run, Arrival, Drawn}
use Rattle.vg_journeys.specs.Accounts.{HandoffFrame, Account, frames_with}

-- so many packets of the capture, each as many numbers behind the one before as there are workers
abbrev pub next_draws : (workers mark count : ℕ) → List (List ℕ) → List Arrival
next_draws workers mark zero packets = []
next_draws workers mark (suc count) packets = Drawn mark (slice_index_or packets mark []) ∷ next_draws workers (mark + workers) count packets

-- the number of the next packet behind them
abbrev pub mark_behind : (workers mark count : ℕ) → ℕ
mark_behind workers mark zero = mark
mark_behind workers mark (suc count) = mark_behind workers (mark + workers) count

-- all of them are in the capture
abbrev pub AreThere : (workers mark count : ℕ) → List (List ℕ) → Type 0
AreThere workers mark zero packets = Unit {0}
AreThere workers mark (suc count) packets = (mark < length packets) × AreThere workers (mark + workers) count packets

-- what came in a turn: the next packets of the capture, so many, and these frames from each worker
pub record Comes (run : Run) (old new : Account) (count : ℕ) (took : ℕ → List HandoffFrame) : Type 0 where
  pub same_worker : new.worker ≡ old.worker
  pub there : AreThere run.workers old.mark count run.packets
  pub mark : new.mark ≡ mark_behind run.workers old.mark count
  pub taken : (from : ℕ) → frames_with from new.taken ≡ frames_with from old.taken ++ took from

-- the packets that begin in a generation or an earlier one are those below its limit
abbrev pub AreLimits : (first limit : ℕ → ℕ) (packets : ℕ) → Type 0
AreLimits first limit packets = (generation i : ℕ) → i < packets → (first i ≤ generation) ↔ (i < limit generation)
