-- How places that wait stand on the wheel or in the list (this project's profile).
use Rattle.std.specs.Prelude.{◌≡◌, ℕ, ◌+◌, ◌<◌, ◌≤◌, List, Option, Some, None, ◌==◌, All, sum_by, if◌then◌else◌}
use Rattle.std.specs.BinaryHeap.{heap_items, heap_len, heap_capacity, IsHeap}
use Rattle.std.specs.Ordering.{nat_cmp, ordering_then}
use Rattle.std.specs.declared.cmp.Ordering.{Ordering}
use Rattle.std.specs.declared.cmp.Reverse.{Reverse}
use Rattle.futures.specs.LinkedLists.Wheel.{deadline_of, key_limit, EachDeadline}
use Rattle.vg_process.specs.declared.queue.Queue.{Queue}
use Rattle.vg_process.specs.declared.queue.Turn.{Turn}

-- the order of the list: the later time comes first, and at one time the higher place
abbrev pub later_first : Reverse Turn → Reverse Turn → Ordering
later_first x y = ordering_then (nat_cmp y.0.time x.0.time) (nat_cmp y.0.place x.0.place)

-- how often a place is in the list
abbrev pub listed : ℕ → List (Reverse Turn) → ℕ
listed place turns = sum_by (λ t. if t.0.place == place then 1 else 0) turns

abbrev pub number : Option ℕ → ℕ
number None = 0
number (Some x) = 1

-- so many places wait under these times, each of them once: on the wheel or in the list
pub record IsQueue (limit : ℕ) (time : ℕ → Option ℕ) (q : Queue) : Type 0 where
  pub within : (place : ℕ) → limit ≤ place → time place ≡ None
  pub armed : (place when : ℕ) → deadline_of q.wheel place ≡ Some when → time place ≡ Some when
  pub reached : All (λ t. (time t.0.place ≡ Some t.0.time) × (t.0.time ≤ q.wheel.elapsed)) (heap_items q.due)
  pub once : (place : ℕ) → listed place (heap_items q.due) + number (deadline_of q.wheel place) ≡ number (time place)
  pub ordered : IsHeap later_first (heap_items q.due)
  pub room : limit ≤ heap_capacity q.due
  pub keys : limit ≤ key_limit q.wheel

-- the wheel has reached the time of no place on it
abbrev pub IsAhead : Queue → Type 0
IsAhead q = EachDeadline q.wheel (λ when. q.wheel.elapsed < when)

-- where no place is in the list, none is on the wheel
abbrev pub IsReady : Queue → Type 0
IsReady q = heap_len q.due ≡ 0 → EachDeadline q.wheel (λ _. ⊥)
