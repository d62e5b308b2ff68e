-- What main makes of the workers' parcels.
use Rattle.std.specs.Prelude.{ℕ}
use Rattle.vg_fork.specs.Forked.{Forked}
use Rattle.vg_dispatch.specs.declared.parcels.Stop.{Stop}
use Rattle.vg_dispatch.specs.declared.parcels.Stop.TheVariants as stops
use Rattle.vg_dispatch.specs.declared.parcels.WorkerParcel.{WorkerParcel}

-- another fork, with its limit, to go on with
abbrev pub renewed : Forked → ℕ → WorkerParcel → WorkerParcel
renewed fork limit p = record p { fork = fork; limit = limit; stop = stops.No }

-- the same, with this stop mark
abbrev pub told : Stop → WorkerParcel → WorkerParcel
told stop p = record p { stop = stop }

abbrev pub parcel_mark : WorkerParcel → ℕ
parcel_mark p = p.next

abbrev pub parcel_generation : WorkerParcel → ℕ
parcel_generation p = p.fork.generation
