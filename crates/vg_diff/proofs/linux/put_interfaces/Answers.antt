-- `put_interfaces`, the commands for the interfaces: one interface more.
use Rattle.std.proofs.Common.{[], ap, sym}
use Rattle.std.specs.Option.{option_map_or}
use Rattle.vg_diff.specs.Linux.{interface_text, interface_at}
use Rattle.vg_diff.proofs.LinuxLemmas.{each_put}
use Rattle.vg_diff.proofs.linux.put_interfaces.Goals as goal

pub loop-number-preserved : goal.loop-number-preserved
loop-number-preserved c =
    each_put (interface_at c.args.graph.now) c.loop-number.number c.args.out.now.items c.loop-number.out.items _ (interface_text c.interface_at.result.now)
    c.in_ok-put_interface.ensures (sym (ap (λ o. option_map_or interface_text o []) c.interface_at.ensures)) c.loop-number.invariant
