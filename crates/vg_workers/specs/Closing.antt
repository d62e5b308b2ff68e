-- How the queues between workers are closed.
use Rattle.std.specs.Prelude.{◌≡◌, ℕ, suc, ◌-◌, nat_lt, List, ◌++◌, length, map, flat_map, if◌then◌else◌}
use Rattle.vg_steps.specs.Seated.{TableId}
use Rattle.vg_ring.specs.declared.ends.RingTx.{RingTx}
use Rattle.vg_ring.specs.declared.ends.RingRx.{RingRx}
use Rattle.vg_ring.specs.declared.rest.Rest.{Rest}
use Rattle.vg_ring.specs.Ends.{put, taken, tx_ring, rx_ring}
use Rattle.vg_ring.specs.Rests.{all_put, left}
use Rattle.vg_journeys.specs.Accounts.{HandoffFrame, below}
use Rattle.vg_workers.specs.Places.{AllAt, others_from, pairs_of}

-- what is known of the queues: their rings, and the frames put and taken, by the worker from which and the worker to which
pub record Queues : Type 0 where
  pub ring : ℕ → ℕ → TableId
  pub put_on : ℕ → ℕ → List HandoffFrame
  pub taken_off : ℕ → ℕ → List HandoffFrame

-- a worker's ends of the queues to so many others from this number on
pub record AreOutputs (q : Queues) (own n count : ℕ) (ends : List (RingTx HandoffFrame)) : Type 0 where
  pub rings : map tx_ring ends ≡ map (q.ring own) (others_from own n count)
  pub puts : map put ends ≡ map (q.put_on own) (others_from own n count)

-- and of those from them
pub record AreInputs (q : Queues) (own n count : ℕ) (ends : List (RingRx HandoffFrame)) : Type 0 where
  pub rings : map rx_ring ends ≡ map (λ from. q.ring from own) (others_from own n count)
  pub takens : map taken ends ≡ map (λ from. q.taken_off from own) (others_from own n count)

-- the first worker whose queue to this one isn't closed yet, where those from the ones before `from` are, and that from `from` where it
-- leads to one before `to`
abbrev pub next_from : (from to own : ℕ) → ℕ
next_from from to own = if nat_lt own to then suc from else from

-- a closed queue: what was put on it, and what nobody took
pub record IsClosed (q : Queues) (pair : ℕ × ℕ) (rest : Rest HandoffFrame) : Type 0 where
  pub put_is : all_put rest ≡ q.put_on pair.0 pair.1
  pub left_is : q.put_on pair.0 pair.1 ≡ q.taken_off pair.0 pair.1 ++ left rest

-- the inputs of all workers that aren't closed yet
pub record AreOpen (q : Queues) (workers from to : ℕ) (inputs : List (List (RingRx HandoffFrame))) : Type 0 where
  pub count : length inputs ≡ workers
  pub each : AllAt (λ own ends. AreInputs q own (next_from from to own) (workers - next_from from to own) ends) 0 inputs

-- those closed
abbrev pub closed_pairs : (workers from to : ℕ) → List (ℕ × ℕ)
closed_pairs workers from to = flat_map (pairs_of workers) (below from) ++ map {B = ℕ × ℕ} (λ other. (from, other)) (others_from from 0 to)

-- all ends, by worker
pub record AreEnds (q : Queues) (outputs : List (List (RingTx HandoffFrame))) (inputs : List (List (RingRx HandoffFrame))) : Type 0 where
  pub count : length inputs ≡ length outputs
  pub outputs_are : AllAt (λ own ends. AreOutputs q own 0 (length outputs) ends) 0 outputs
  pub inputs_are : AllAt (λ own ends. AreInputs q own 0 (length outputs) ends) 0 inputs
