-- For `Send` and `Sync` of `Deed`, `Estate` and `Tether`: what these types own and show names no thread.
use Rattle.std.proofs.Common.{ℕ}
use base.Shift.{Keyless}
use denote.Builtin.{u8}
use denote.RawPtr.{Ptr, block_ptr, null_ptr}
use denote.Param.Send.{IsSend, IsSync, sendable, Frees, struct_send, struct_sync, owning_send}
use denote.RattleType.{RattleType}
use denote.Struct.Owning.{shape, to}
use denote.Struct.Declared as declared
use Rattle.std.specs.declared.alloc.Allocator.{Ghosts}
use Rattle.std_alloc.proofs.SendSync.{Vec-send}
use Rattle.vg_land.specs.contracts.Estate as Estate
use Rattle.vg_land.specs.contracts.Deed as Deed
use Rattle.vg_land.specs.contracts.Deed.TheInside as Inside
use Rattle.vg_land.specs.Ownership.{land_owns, estate_owns}

u8-send : IsSend u8
u8-send = search sendable

pub land_owns-keyless : (p : Ptr) (n : ℕ) → Keyless (land_owns p n)
land_owns-keyless (block_ptr b o) n = tt
land_owns-keyless null_ptr n = tt

pub estate_owns-keyless : (a : ℕ) (p : Ptr) (n : ℕ) → Keyless (estate_owns a p n)
estate_owns-keyless a p n = (tt, land_owns-keyless p n)

pub deed-send : (A : RattleType) (g : Ghosts A.Denot) → IsSend A → Frees g g.dealloc_token → IsSend (Deed.the_row A g)
deed-send A g s f = record {
  owned = λ e vs. (
    (λ _. tt),
    λ v. (
      tt,
      (land_owns-keyless e.ptr e.len, (struct_send (declared.shape (Inside.the_type A g)) (Vec-send u8 A g u8-send s f, tt)).owned (v.vec, tt) vs),
    ),
  );
  leaving = λ k x w. tt;
}

pub deed-sync : (A : RattleType) (g : Ghosts A.Denot) → IsSync (Deed.the_row A g)
deed-sync A g = record { shared = λ e b o κ. tt }

pub estate-send : (A : RattleType) (g : Ghosts A.Denot) → IsSend A → Frees g g.dealloc_token → IsSend (Estate.the_row A g)
estate-send A g s f = owning_send (Estate.the_type A g) (deed-send A g s f, tt) (λ d. estate_owns-keyless d.life d.deed.ptr d.deed.len) (λ k x w. (tt, tt))

pub estate-sync : (A : RattleType) (g : Ghosts A.Denot) → IsSync (Estate.the_row A g)
estate-sync A g = record { shared = λ d b o κ. ((struct_sync (shape (Estate.the_type A g)) (deed-sync A g, tt)).shared (to (Estate.the_type A g) d) b o κ, λ q. tt) }
