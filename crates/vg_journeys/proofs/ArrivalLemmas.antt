-- For `laws::arrivals_end`: every packet that may come to a worker has its leg there.
use Rattle.std.proofs.Common.{◌≡◌, ℕ, suc, ◌<◌, Bool, true, false, length, refl, ap, ◌∙◌, arith}
use Rattle.std.specs.Prelude.{Some, option_map, option_and_then, nat_lt, if◌then◌else◌}
use Rattle.vg_model.specs.declared.kinds.Kind.{Kind}
use Rattle.vg_model.specs.declared.kinds.Kind.TheVariants as kinds
use Rattle.vg_model.specs.declared.kinds.DropError.TheVariants.{TooLong}
use Rattle.vg_model.specs.Packet.{Packet, fresh}
use Rattle.vg_model.specs.Graph.{Graph, kind_at, slots, pg_input, handoff_dequeue}
use Rattle.vg_model.specs.Visit.{Visit}
use Rattle.vg_model.specs.Leg.{Way, Dropped, first_slot, leg, after_visit, ends_at}
use Rattle.vg_model.specs.Journey.{leg_from, longest_packet}
use Rattle.vg_model.specs.Valid.{IsValid, IsKindSet, IsPacket, HasArc}
use Rattle.vg_model.proofs.LegEnds.{arc_some, arc_target, leg_some}
use Rattle.vg_journeys.specs.Trips.{Run, Arrival, Drawn, Taken}
use Rattle.vg_journeys.specs.Turns.{Place, way_at, IsSoundArrival, ComesFrom}

from_some : (visit : Visit) (g : Graph) (workers worker leg_number first via : ℕ) (kind : Kind) (p : Packet) → IsKindSet visit → IsValid g → kind_at g via ≡ Some kind → 0 < length (slots kind) → IsPacket p
    → (way : Way) × (leg_from visit g workers worker leg_number first via p ≡ Some way)
from_some visit g workers worker leg_number first via kind p kinds valid is some sound =
    let to = arc_some g via first_slot kind valid is some in
    let has : HasArc g via to.0 = (first_slot, to.1) in
    let way = leg_some visit g workers worker leg_number to.0 p kinds valid sound (arc_target g via to.0 valid has) in
    (after_visit first way.0, ap (λ o. option_map (after_visit first) (option_and_then (λ n. leg visit g workers worker leg_number n p) o)) to.1 ∙ ap (option_map (after_visit first)) way.1)

pub arrival_ends : (run : Run) (place : Place) (e : Arrival) → IsKindSet run.visit → IsValid place.graph → IsSoundArrival e → ComesFrom place.graph e → (way : Way) × (way_at run place e ≡ Some way)
arrival_ends run place (Drawn number bytes) kind_set valid sound from = by (nat_lt longest_packet (length bytes))
  where
    packet : IsPacket (fresh number bytes)
    packet = record { bytes = sound; sound = λ (never : false ≡ true). cc }

    by : (long : Bool) → (way : Way) × ((if long then Some (ends_at pg_input (fresh number bytes) (Dropped pg_input TooLong)) else leg_from run.visit place.graph run.workers place.worker 1 pg_input pg_input (fresh number bytes)) ≡ Some way)
    by true = (ends_at pg_input (fresh number bytes) (Dropped pg_input TooLong), refl)
    by false = from_some run.visit place.graph run.workers place.worker 1 pg_input pg_input kinds.PgInput (fresh number bytes) kind_set valid valid.source (omega arith) packet
arrival_ends run place (Taken worker node c) kind_set valid sound from =
    from_some run.visit place.graph run.workers place.worker (suc (length c.legs)) handoff_dequeue node (kinds.WorkerHandoff from.0) c.packet kind_set valid from.1 (omega arith) sound.0
