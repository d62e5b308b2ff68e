-- The visit of `xconnect-I`: whatever comes out is transmitted on one interface (VPP: an L2 cross-connect).
use Rattle.std.specs.Prelude.{ℕ, nat_lt, not, length, Some, if◌then◌else◌}
use Rattle.vg_model.specs.declared.kinds.DropError.TheVariants as errors
use Rattle.vg_model.specs.declared.kinds.Step.{Step}
use Rattle.vg_model.specs.Packet.{Packet}
use Rattle.vg_model.specs.Graph.{Graph}
use Rattle.vg_model.specs.Visit.{next, dropped}

-- where the graph has the interface
abbrev pub cross_connect : ℕ → Graph → Packet → Step × Packet
cross_connect interface g p =
    if not (nat_lt interface (length g.interfaces)) then dropped errors.InterfaceDown p
    else next (record p { interface = Some interface })
