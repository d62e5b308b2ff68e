-- What the workers of a run have kept at its end.
use Rattle.std.specs.Prelude.{◌≡◌, ℕ, List, [], map}
use Rattle.std.specs.List.{AllByRecursion}
use Rattle.vg_model.specs.PoolBook.{CacheBook}
use Rattle.vg_model.specs.declared.fates.Fate.{Fate}
use Rattle.vg_ring.specs.declared.ends.RingTx.{RingTx}
use Rattle.vg_ring.specs.declared.ends.RingRx.{RingRx}
use Rattle.vg_ring.specs.Ends.{put, taken, tx_ring, rx_ring}
use Rattle.vg_counters.specs.Tally.{Tally, IsWhole}
use Rattle.vg_counters.specs.Notes.{Notes}
use Rattle.vg_journeys.specs.Accounts.{HandoffFrame}
use Rattle.vg_dispatch.specs.Workers.{WorkerBook}
use Rattle.vg_underway.specs.Peers.{by_worker}
use Rattle.vg_workers.specs.declared.ends.Ends.{Ends}
use Rattle.vg_workers.specs.Places.{AllWith}

-- a worker's ends of its queues
pub record HasInputs (w : WorkerBook) (ends : List (RingRx HandoffFrame)) : Type 0 where
  pub rings : map rx_ring ends ≡ w.inputs
  pub takens : by_worker w.number [] (map taken ends) ≡ w.taken

pub record HasOutputs (w : WorkerBook) (ends : List (RingTx HandoffFrame)) : Type 0 where
  pub rings : map tx_ring ends ≡ w.outputs
  pub puts : by_worker w.number [] (map put ends) ≡ w.put

-- what these workers have kept, by number
pub record AreKeptBy (ws : List WorkerBook) (logs : List (List Fate)) (sent : List (List (ℕ × List ℕ))) (counters : List Tally) (traces : List Notes)
    (caches : List CacheBook) (inputs : List (List (RingRx HandoffFrame))) (outputs : List (List (RingTx HandoffFrame))) : Type 0 where
  pub logs_are : logs ≡ map (λ (w : WorkerBook). w.log) ws
  pub sent_are : sent ≡ map (λ (w : WorkerBook). w.sent) ws
  pub counters_are : counters ≡ map (λ (w : WorkerBook). w.counts) ws
  pub counters_whole : AllByRecursion IsWhole counters
  pub traces_are : traces ≡ map (λ (w : WorkerBook). w.trace) ws
  pub caches_are : caches ≡ map (λ (w : WorkerBook). w.cache) ws
  pub inputs_are : AllWith HasInputs ws inputs
  pub outputs_are : AllWith HasOutputs ws outputs

module _ {T L : Type 0} where
  -- so these lists
  abbrev pub HaveKept : List WorkerBook → Ends T L → Type 0
  HaveKept ws ends = AreKeptBy ws ends.logs.items ends.sent.items ends.counters.items ends.traces.items ends.caches.items
      (map (λ i. i.items) ends.inputs.items) (map (λ o. o.items) ends.outputs.items)
