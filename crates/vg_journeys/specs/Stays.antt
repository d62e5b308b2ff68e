-- The chain of a packet stays what it was when the packet was drawn.
use Rattle.std.specs.Prelude.{◌≡◌, ℕ, ◌<◌, List, length, Some, slice_get}
use Rattle.std.specs.List.{AllByRecursion}
use Rattle.vg_model.specs.PoolBook.{IsChainOf}
use Rattle.vg_pool.specs.Contents.{Contents}
use Rattle.vg_journeys.specs.Trips.{Run, Trip, contents_after}
use Rattle.vg_journeys.specs.Accounts.{HandoffFrame}

-- the packet of this number in the capture, and a chain of as many buffers as that took when it was drawn
pub record HasItsChain (packets : List (List ℕ)) (c : Contents) : Type 0 where
  pub bytes : List ℕ
  pub drawn : slice_get packets c.packet.number ≡ Some bytes
  pub chain : IsChainOf (length bytes) c.pieces

-- at a moment: so it is behind every trip that was made, and in every frame on its way
pub record ChainsStay (run : Run) (rest : ℕ → ℕ → List HandoffFrame) (trips : List Trip) : Type 0 where
  pub behind : AllByRecursion (λ t. HasItsChain run.packets (contents_after t)) trips
  pub away : (from to : ℕ) → from < run.workers → to < run.workers
      → AllByRecursion (λ frame. AllByRecursion (HasItsChain run.packets) frame.packets) (rest from to)
