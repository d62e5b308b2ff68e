-- What contracts see of the two ends of a queue.
use Rattle.std.specs.Prelude.{◌≡◌, ℕ, List, []}
use Rattle.std.specs.Arc.{arc_value}
use Rattle.atomic_table.specs.Seated.{TableId}
use Rattle.crossbeam_queue.specs.Passes.{view, ruled_capacity}
use Rattle.vg_queue.specs.declared.ends.QueueTx.{QueueTx}
use Rattle.vg_queue.specs.declared.ends.QueueRx.{QueueRx}

module _ {T : Type 0} where
  -- the items that the producer's end has had accepted, oldest first
  abbrev pub put : QueueTx T → List T
  put tx = (view tx.pass).put

  -- the most items that the queue holds
  abbrev pub tx_slots : QueueTx T → ℕ
  tx_slots tx = ruled_capacity (arc_value tx.line)

  -- which queue this is an end of
  abbrev pub tx_queue : QueueTx T → TableId
  tx_queue tx = tx.pass.table_id

  -- the items that the consumer's end took, oldest first
  abbrev pub taken : QueueRx T → List T
  taken rx = (view rx.pass).taken

  abbrev pub rx_queue : QueueRx T → TableId
  rx_queue rx = rx.pass.table_id

  -- the same end of the same queue: its pass there has the same number
  abbrev pub IsSameTx : QueueTx T → QueueTx T → Type 0
  IsSameTx before after = (tx_queue after ≡ tx_queue before) × (tx_slots after ≡ tx_slots before) × (after.pass.id ≡ before.pass.id)

  abbrev pub IsSameRx : QueueRx T → QueueRx T → Type 0
  IsSameRx before after = (rx_queue after ≡ rx_queue before) × (after.pass.id ≡ before.pass.id)

  -- the two ends of a new queue that holds so many items at most
  abbrev pub AreNew : ℕ → QueueTx T → QueueRx T → Type 0
  AreNew slots tx rx = (tx_queue tx ≡ rx_queue rx) × (tx_slots tx ≡ slots) × (put tx ≡ []) × (taken rx ≡ [])
