-- How the workers of a run are linked, one queue behind the other.
use Rattle.std.specs.Prelude.{ℕ, ◌==◌, ◌&&◌, nat_lt, List, length, if◌then◌else◌}
use Rattle.vg_steps.specs.Seated.{TableId}
use Rattle.vg_ring.specs.declared.ends.RingTx.{RingTx}
use Rattle.vg_ring.specs.Ends.{put, tx_ring, tx_slots}
use Rattle.vg_journeys.specs.Accounts.{HandoffFrame}
use Rattle.vg_dispatch.specs.declared.links.WorkerLinks.{WorkerLinks}
use Rattle.vg_workers.specs.Places.{AllAt}
use Rattle.vg_workers.specs.Linked.{IsLinked}
use Rattle.vg_workers.specs.Closing.{next_from}

-- to how many of the first workers this one is linked, where the ones before `from` are linked to all, and `from` to the first `to`
abbrev pub outputs_up_to : (workers from to own : ℕ) → ℕ
outputs_up_to workers from to own = if nat_lt own from then workers else (if own == from then to else 0)

-- the workers are linked so far
pub record AreLinkedUpTo (slots from inputs_to outputs_to : ℕ) (links : List (WorkerLinks (RingTx HandoffFrame))) : Type 0 where
  pub ring : ℕ → ℕ → TableId
  pub each : AllAt (λ own l. IsLinked put tx_ring tx_slots slots ring own (next_from from inputs_to own) (outputs_up_to (length links) from outputs_to own) l) 0 links

-- the rings, with one more
abbrev pub with_ring : (ring : ℕ → ℕ → TableId) (from to : ℕ) → TableId → ℕ → ℕ → TableId
with_ring ring from to new a b = if a == from && b == to then new else ring a b
