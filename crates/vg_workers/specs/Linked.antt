-- The queues between the workers of a run, before anything is put on them.
use Rattle.std.specs.Prelude.{◌≡◌, ℕ, List, [], length, map}
use Rattle.std.specs.List.{AllByRecursion}
use Rattle.vg_steps.specs.Seated.{TableId}
use Rattle.vg_ring.specs.Ends.{taken, rx_ring}
use Rattle.vg_journeys.specs.Accounts.{HandoffFrame}
use Rattle.vg_dispatch.specs.declared.links.WorkerLinks.{WorkerLinks}
use Rattle.vg_workers.specs.Places.{AllAt, others_from}

module _ {H : Type 0} where
  -- a worker's ends of queues of so many slots: an input from each of the first other workers, an output to each of the first, by rising
  -- number, on which nothing was put; `ring a b` is the ring from worker a to worker b
  pub record IsLinked (accepted : H → List HandoffFrame) (ring_of : H → TableId) (slots_of : H → ℕ) (slots : ℕ) (ring : ℕ → ℕ → TableId)
      (own inputs outputs : ℕ) (links : WorkerLinks H) : Type 0 where
    pub inputs_are : map rx_ring links.inputs.items ≡ map (λ from. ring from own) (others_from own 0 inputs)
    pub outputs_are : map ring_of links.outputs.items ≡ map (ring own) (others_from own 0 outputs)
    pub untaken : AllByRecursion (λ rx. taken rx ≡ []) links.inputs.items
    pub fresh : AllByRecursion (λ tx. (accepted tx ≡ []) × (slots_of tx ≡ slots)) links.outputs.items

  -- a queue of so many slots from each worker to each other, on which nothing was put
  pub record AreLinked (accepted : H → List HandoffFrame) (ring_of : H → TableId) (slots_of : H → ℕ) (workers slots : ℕ)
      (links : List (WorkerLinks H)) : Type 0 where
    pub count : length links ≡ workers
    pub ring : ℕ → ℕ → TableId
    pub each : AllAt (λ own l. IsLinked accepted ring_of slots_of slots ring own workers workers l) 0 links
