-- For `Send` of `Tether`.
use denote.RattleType.{RattleType}
use denote.Param.Send.{IsSend, IsSync, Frees, struct_send}
use Rattle.std.specs.declared.alloc.Allocator.{Ghosts}
use denote.Struct.Declared as declared
use Rattle.std_alloc.proofs.SendSync.{Arc-send}
use Rattle.vg_land.specs.contracts.Estate as Estate
use Rattle.vg_land.specs.contracts.Tether.TheInside as Inside
use Rattle.vg_land.proofs.Crosses.{estate-send, estate-sync, land_owns-keyless}
use Rattle.vg_land.specs.contracts.Tether as C

pub send : (A : RattleType) (g : Ghosts A.Denot) → IsSend A → IsSync A → Frees g g.dealloc_token → IsSend (C.the_row A g)
send A g s y f =
    let counted = Arc-send (Estate.the_row A g) A g (estate-send A g s f) (estate-sync A g) f s y in
    record {
      owned = λ t vs. (
        (λ _. tt),
        λ x is w. (
          (tt, (struct_send (declared.shape (Inside.the_type A g)) (counted, tt)).owned (x.estate, tt) vs),
          (tt, land_owns-keyless t.ptr t.len),
        ),
      );
      leaving = λ k x w. tt;
    }
