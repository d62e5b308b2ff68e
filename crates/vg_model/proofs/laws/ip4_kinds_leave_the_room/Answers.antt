use Rattle.vg_model.proofs.KindLaws.{room_stays}
use Rattle.vg_model.proofs.laws.ip4_kinds_leave_the_room.Goals as goal

pub returns : goal.returns
returns c = room_stays
