-- For `Send` of `Estate`.
use denote.RattleType.{RattleType}
use denote.Param.Send.{IsSend, Frees}
use Rattle.std.specs.declared.alloc.Allocator.{Ghosts}
use Rattle.vg_land.proofs.Crosses.{estate-send}
use Rattle.vg_land.specs.contracts.Estate as C

pub send : (A : RattleType) (g : Ghosts A.Denot) → IsSend A → Frees g g.dealloc_token → IsSend (C.the_row A g)
send = estate-send
