-- What a turn of a worker does.
use Rattle.std.specs.Prelude.{Bool, true, false, ◌≡◌, ◌≢◌, ℕ, ◌+◌, ◌*◌, ◌%◌, ◌^◌, ◌∷◌, min, Option, None, Some}
use Rattle.vg_steps.specs.Trails.{found}
use Rattle.vg_barrier.specs.WordPlaces.{request_word, arrival_word, generation_word}
use Rattle.vg_barrier.specs.Machine.{mark_word}
use Rattle.vg_barrier.specs.declared.views.WorkerPhase.TheVariants as phase
use Rattle.vg_journeys.specs.Trips.{Run}
use Rattle.vg_dispatch.specs.declared.parcels.WorkerParcel.{WorkerParcel}
use Rattle.vg_dispatch.specs.declared.parcels.Stop.{Stop}
use Rattle.vg_dispatch.specs.declared.parcels.Stop.TheVariants as stops
use Rattle.vg_dispatch.specs.declared.turns.Turn.{Turn}
use Rattle.vg_dispatch.specs.declared.turns.Turn.TheVariants as turns
use Rattle.vg_dispatch.specs.Parcels.{Fits}
use Rattle.vg_dispatch.specs.Workers.{WorkerSeat, WorkerBook}
use Rattle.vg_dispatch.specs.Rounds.{IsRoundOf}

-- One check of a worker that runs, or one poll of one that is parked: its first step found the request word. It runs where the word is
-- even, with the parcel that it had or that it took, and is parked where the word is odd, and then its parcel is given. The trail is longer
-- by just the steps named here, the latest first.

-- It runs on, with its parcel as it was: its one step found twice the parcel's stamp in the request word
pub record RunsOn (v n : WorkerSeat) (parcel same : WorkerParcel) : Type 0 where
  pub parcel_is : same ≡ parcel
  pub trail : n.trail ≡ found request_word (2 * v.view.stamp) ∷ v.trail
  pub view : n.view ≡ record (v.view) { read = 2 * v.view.stamp; steps = v.view.steps + 1 }

-- It has parked: its first step found an odd number in the request word, the second stored its mark, and the third gave its parcel
pub record HasParked (v n : WorkerSeat) (parcel : WorkerParcel) : Type 0 where
  pub request : ℕ
  pub odd : request % 2 ≡ 1
  pub arrivals : ℕ
  pub trail : n.trail ≡ found arrival_word arrivals ∷ found (mark_word v.view.number) parcel.next ∷ found request_word request ∷ v.trail
  pub view : n.view ≡ record (v.view) { phase = phase.Parked; has = false; read = request; mark = parcel.next; steps = v.view.steps + 3 }

-- It has left, and runs with its parcel: its first step found an even number in the request word, twice the stamp with which the parcel
-- comes; the second took the parcel, and the third took the worker off the arrival count
pub record HasLeft (v n : WorkerSeat) (parcel : WorkerParcel) : Type 0 where
  pub stamp : ℕ
  pub arrivals : ℕ
  pub trail : n.trail ≡ found arrival_word arrivals ∷ found generation_word parcel.fork.generation ∷ found request_word (2 * stamp) ∷ v.trail
  pub view : n.view ≡ record (v.view) { phase = phase.Running; has = true; read = 2 * stamp; stamp = stamp; generation = parcel.fork.generation; steps = v.view.steps + 3 }
  pub fits : Fits parcel v.view.book
  pub next : parcel.next ≡ v.view.mark

-- It stays parked: its one step found an odd number in the request word
pub record StaysParked (v n : WorkerSeat) : Type 0 where
  pub request : ℕ
  pub odd : request % 2 ≡ 1
  pub trail : n.trail ≡ found request_word request ∷ v.trail
  pub view : n.view ≡ record (v.view) { read = request; steps = v.view.steps + 1 }

abbrev pub LooksBy : (v : WorkerSeat) → Option WorkerParcel → (n : WorkerSeat) → Option WorkerParcel → Type 0
LooksBy v (Some parcel) n (Some same) = RunsOn v n parcel same
LooksBy v (Some parcel) n None = HasParked v n parcel
LooksBy v None n (Some parcel) = HasLeft v n parcel
LooksBy v None n None = StaysParked v n

pub record Looks (before after : WorkerSeat) : Type 0 where
  pub same : after.barrier ≡ before.barrier
  pub id : after.id ≡ before.id
  pub by : LooksBy before before.parcel after after.parcel

-- the seat with a parcel whose worker has drawn up to this mark
abbrev pub seat_with : WorkerSeat → WorkerParcel → (mark : ℕ) → WorkerSeat
seat_with seat parcel mark = record seat { parcel = Some (record parcel { next = mark }) }

-- What a turn does after its look at the seat: a parked worker does nothing; one whose parcel says so stops; any other makes a round
-- under this very parcel, and moves its mark on in it.
abbrev pub AfterLook : Turn → Run → (lossless : Bool) → WorkerSeat → Option WorkerParcel → (old new : WorkerBook) → Type 0
AfterLook turns.Parked run lossless looked None old new = new ≡ record old { seat = Some looked; turns = new.turns }
AfterLook turns.Parked run lossless looked (Some parcel) old new = ⊥
AfterLook turns.Stopped run lossless looked None old new = ⊥
AfterLook turns.Stopped run lossless looked (Some parcel) old new =
    (parcel.stop ≢ stops.No) × (new ≡ record old { seat = Some looked; turns = new.turns; stop = parcel.stop })
AfterLook turns.Ran run lossless looked None old new = ⊥
AfterLook turns.Ran run lossless looked (Some parcel) old new =
    (parcel.stop ≡ stops.No) × (new.stop ≡ stops.No) × (new.seat ≡ Some (seat_with looked parcel new.mark))
    × IsRoundOf run lossless parcel.fork.graph parcel.fork.generation parcel.limit old new

-- a turn of a worker that hasn't stopped looks at its seat first; the count of its turns rises up to 2^62
pub record IsTurnOf (run : Run) (lossless : Bool) (turn : Turn) (old new : WorkerBook) : Type 0 where
  pub turns : new.turns ≡ min (old.turns + 1) (2 ^ 62)
  pub before : WorkerSeat
  pub sat : old.seat ≡ Some before
  pub looked : WorkerSeat
  pub looks : Looks before looked
  pub after : AfterLook turn run lossless looked looked.parcel old new

-- what has stopped goes on no more
abbrev pub Rests : Turn → (old new : WorkerBook) → Type 0
Rests turn old new = (turn ≡ turns.Stopped) × (new ≡ old)

-- a turn of a worker, whether it has stopped or not
abbrev pub Turns : Stop → Run → (lossless : Bool) → Turn → (old new : WorkerBook) → Type 0
Turns stops.No run lossless turn old new = IsTurnOf run lossless turn old new
Turns stops.End run lossless turn old new = Rests turn old new
Turns stops.Lacking run lossless turn old new = Rests turn old new
