-- How a visit of a node ends in most cases.
use Rattle.vg_model.specs.declared.kinds.DropError.{DropError}
use Rattle.vg_model.specs.declared.kinds.Step.{Step}
use Rattle.vg_model.specs.declared.kinds.Step.TheVariants.{Next, Dropped}
use Rattle.vg_model.specs.Packet.{Packet}

-- the packet goes on over slot 0
abbrev pub next : Packet → Step × Packet
next p = (Next 0, p)

-- the packet is dropped
abbrev pub dropped : DropError → Packet → Step × Packet
dropped error p = (Dropped error, p)
