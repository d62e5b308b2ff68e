use Rattle.std.specs.Prelude.{Some}
use Rattle.vg_ring.proofs.slots.put_next.Given as goal

abbrev pub ghosts-get_slot : goal.ghosts-get_slot
ghosts-get_slot g a = record { item = Some a._item.now }
