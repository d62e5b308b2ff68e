-- For `Sync` of `Deed`.
use denote.RattleType.{RattleType}
use denote.Param.Send.{IsSync}
use Rattle.std.specs.declared.alloc.Allocator.{Ghosts}
use Rattle.vg_land.proofs.Crosses.{deed-sync}
use Rattle.vg_land.specs.contracts.Deed as C

pub sync : (A : RattleType) (g : Ghosts A.Denot) → IsSync (C.the_row A g)
sync = deed-sync
