-- A worker's seat.
use Rattle.vg_barrier.specs.declared.parcel.Parcel.{Ghosts}
use Rattle.vg_barrier.specs.declared.worker_seat.Check.{Check}
use Rattle.vg_barrier.specs.declared.worker_seat.Check.TheVariants as check
use Rattle.vg_barrier.specs.Answers.{MayGive}
use Rattle.vg_dispatch.specs.declared.parcels.WorkerParcel.{WorkerParcel}
use Rattle.vg_dispatch.specs.Workers.{Windows}

module _ {G : Ghosts WorkerParcel Windows} where
  -- a worker that runs may give its parcel
  abbrev pub Gives : Check WorkerParcel Windows G → Type 0
  Gives (check.Run running) = MayGive running
  Gives (check.Parked parked) = Unit {0}
