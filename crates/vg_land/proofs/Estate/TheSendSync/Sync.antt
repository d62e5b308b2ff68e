-- For `Sync` of `Estate`.
use denote.RattleType.{RattleType}
use denote.Param.Send.{IsSync}
use Rattle.std.specs.declared.alloc.Allocator.{Ghosts}
use Rattle.vg_land.proofs.Crosses.{estate-sync}
use Rattle.vg_land.specs.contracts.Estate as C

pub sync : (A : RattleType) (g : Ghosts A.Denot) → IsSync (C.the_row A g)
sync = estate-sync
