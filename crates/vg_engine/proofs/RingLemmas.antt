-- For the clauses `rings` of a run's calls: the rings of workers' queues stay those of the links, and what is left of a queue is of its ring.
use Rattle.std.proofs.Common.{◌≡◌, List, [], ◌∷◌, ◌++◌, Vec, Global, map, refl, ap, ◌∙◌, append_assoc}
use Rattle.std.specs.Prelude.{Bool, Result, Ok, Err, IfOk, flat_map}
use Rattle.std.proofs.lemmas.List.{map-append}
use Rattle.vg_steps.specs.Seated.{TableId}
use Rattle.vg_model.specs.Visit.{Visit}
use Rattle.vg_model.specs.declared.Memory.{Memory}
use Rattle.vg_ring.specs.declared.ends.RingTx.{RingTx}
use Rattle.vg_ring.specs.Ends.{tx_ring}
use Rattle.vg_ring.specs.Rests.{rest_ring}
use Rattle.vg_journeys.specs.Accounts.{HandoffFrame}
use Rattle.vg_dispatch.specs.Workers.{WorkerBook}
use Rattle.vg_workers.specs.Places.{AllWith}
use Rattle.vg_workers.specs.Ended.{HasOutputs}
use Rattle.vg_threads.specs.Ties.{Tie, AreTied}
use Rattle.vg_engine.specs.declared.runs.Outcome.{Outcome}

abbrev rings_of : List WorkerBook → List (List TableId)
rings_of ws = map (λ (w : WorkerBook). w.outputs) ws

-- one worker more
pub next_rings : (ws : List WorkerBook) (w : WorkerBook) (rings : List TableId) (more : List (List TableId)) → w.outputs ≡ rings → rings_of (ws ++ w ∷ []) ++ more ≡ rings_of ws ++ rings ∷ more
next_rings ws w rings more is =
    ap (λ rs. rs ++ more) (map-append (λ (w : WorkerBook). w.outputs) ws (w ∷ [])) ∙ append_assoc (rings_of ws) (w.outputs ∷ []) more ∙ ap (λ r. rings_of ws ++ r ∷ more) is

-- workers that were tied come back with their rings
pub rings_back : (visit : Visit) (lossless : Bool) (tie : WorkerBook → Tie) (ws vs : List WorkerBook) → ((w : WorkerBook) → (tie w).outputs ≡ w.outputs) → AreTied visit lossless (map tie ws) vs → rings_of vs ≡ rings_of ws
rings_back visit lossless tie [] [] has back = refl
rings_back visit lossless tie [] (v ∷ vs) has back = absurd back
rings_back visit lossless tie (w ∷ ws) [] has back = absurd back
rings_back visit lossless tie (w ∷ ws) (v ∷ vs) has back =
    ap (λ r. r ∷ rings_of vs) (ap (λ (t : Tie). t.outputs) back.0.tie_is ∙ has w) ∙ ap (λ rs. w.outputs ∷ rs) (rings_back visit lossless tie ws vs has back.1)

-- the rings of the ends that workers had
pub ends_rings : (ws : List WorkerBook) (ends : List (Vec (RingTx HandoffFrame) Global)) → AllWith HasOutputs ws (map (λ (o : Vec (RingTx HandoffFrame) Global). o.items) ends)
    → flat_map (λ (o : Vec (RingTx HandoffFrame) Global). map tx_ring o.items) ends ≡ flat_map (λ (w : WorkerBook). w.outputs) ws
ends_rings [] [] all = refl
ends_rings [] (o ∷ os) all = absurd all
ends_rings (w ∷ ws) [] all = absurd all
ends_rings (w ∷ ws) (o ∷ os) all =
    ap (λ rs. rs ++ flat_map (λ (o : Vec (RingTx HandoffFrame) Global). map tx_ring o.items) os) all.0.rings ∙ ap (λ rs. w.outputs ++ rs) (ends_rings ws os all.1)

-- those of a list of lists
pub all_rings : {X : Type 0} (f : X → List TableId) (xs : List X) → flat_map f xs ≡ flat_map (λ (r : List TableId). r) (map f xs)
all_rings f [] = refl
all_rings f (x ∷ xs) = ap (λ rs. f x ++ rs) (all_rings f xs)

-- an outcome's queues are of these rings
pub outcome_rings : (result : Result Outcome Memory) (rings others : List TableId) → rings ≡ others → IfOk result (λ (o : Outcome). map rest_ring o.rests ≡ rings) → IfOk result (λ (o : Outcome). map rest_ring o.rests ≡ others)
outcome_rings (Ok outcome) rings others same is = is ∙ same
outcome_rings (Err memory) rings others same is = tt
