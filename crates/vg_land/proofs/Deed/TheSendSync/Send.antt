-- For `Send` of `Deed`.
use denote.RattleType.{RattleType}
use denote.Param.Send.{IsSend, Frees}
use Rattle.std.specs.declared.alloc.Allocator.{Ghosts}
use Rattle.vg_land.proofs.Crosses.{deed-send}
use Rattle.vg_land.specs.contracts.Deed as C

pub send : (A : RattleType) (g : Ghosts A.Denot) → IsSend A → Frees g g.dealloc_token → IsSend (C.the_row A g)
send = deed-send
