-- For the clauses `drawn` of `Work::draw_own`, `taken` of `Work::take_frame` and `round` of `Worker::round` in vg_dispatch: what a leg keeps of a packet, how
-- long it is, and what it counts at most.
use Rattle.std.proofs.Common.{◌≡◌, ℕ, zero, suc, ◌+◌, ◌<◌, ◌≤◌, Bool, true, false, List, [], ◌∷◌, ◌++◌, length, length-append, refl, sym, ap, subst, ◌∙◌, arith}
use Rattle.std.specs.Prelude.{Option, Some, None, slice_get, option_map, option_and_then, unwrap_or, nat_lt, ◌==◌, if◌then◌else◌}
use Rattle.std.specs.List.{sum_by}
use Rattle.std.proofs.lemmas.Option.{none-some, same_Some, slice_get_within}
use Rattle.std.proofs.lemmas.List.{length_push}
use Rattle.std.proofs.lemmas.List.Sums.{sum_by-cons}
use Rattle.std.proofs.lemmas.Bool.{le-ltb, lt-ltb}
use Rattle.vg_model.specs.declared.kinds.DropError.TheVariants.{TooLong}
use Rattle.vg_model.specs.declared.kinds.Kind.{Kind}
use Rattle.vg_model.specs.declared.kinds.Kind.TheVariants as kinds
use Rattle.vg_model.specs.Packet.{Packet, fresh}
use Rattle.vg_model.specs.Graph.{Graph, Node, arc, kind_at, slots, pg_input, handoff_dequeue, error_drop}
use Rattle.vg_model.specs.Visit.{Visit}
use Rattle.vg_model.specs.Leg.{Outcome, Sent, Dropped, Handed, Way, Move, Onward, Over, first_slot, joined, move_of, after_visit, ends_at, leg_within, leg}
use Rattle.vg_model.specs.Valid.{IsValid, IsKindSet, IsVisitOf, IsPacket, IsTarget, AreBytes, extent}
use Rattle.vg_model.specs.Journey.{longest_packet, leg_from}
use Rattle.vg_model.specs.PoolBook.{pieces_of}
use Rattle.vg_pool.proofs.BlockLemmas.{pieces_some, pieces_bound, pieces_enough}
use Rattle.vg_model.proofs.Journeys.{map_some}
use Rattle.vg_model.proofs.LegLemmas.{move_arc}
use Rattle.vg_model.proofs.LegEnds.{leg_some, arc_target, arc_some}
use Rattle.vg_journeys.specs.Ended.{ended_by, drop_visits, counted_visits}
use Rattle.vg_journeys.specs.Trips.{Arrival, Drawn, Taken, number_of, pieces_before}
use Rattle.vg_journeys.specs.Turns.{IsSoundArrival, ComesFrom}
use Rattle.vg_pool.specs.Contents.{Contents, AreContents}
use Rattle.vg_counters.specs.Notes.{most_noted}
use Rattle.vg_underway.specs.Underway.{Setting, Weights, IsSetting, way_weight, owed, leg_of, arrival_way, leg_here, legs_at, arrival_owed}
use Rattle.vg_underway.specs.Works.{by_bytes, by_pieces, by_visits, sent_bytes_of}
use Rattle.vg_underway.specs.Traced.{arrival_nodes}
use Rattle.vg_underway.specs.Draws.{arrival_extent}
use Rattle.vg_underway.proofs.SumLemmas.{sum_by_none}
use Rattle.vg_underway.proofs.WorkLemmas.{visits_most}
use Rattle.vg_underway.proofs.OwedLemmas.{some_weight}

-- what a leg keeps of a packet
pub record IsKeptBy (p after : Packet) : Type 0 where
  pub number : after.number ≡ p.number
  pub no_larger : extent after ≤ extent p

kept_then : (a b c : Packet) → a.number ≡ b.number → extent a ≤ extent b → IsKeptBy a c → IsKeptBy b c
kept_then a b c e l k = record { number = k.number ∙ e; no_larger = (let one = k.no_larger in omega (arith, one, l)) }

joined_kept : (node : ℕ) (p : Packet) (t : Move) (f : ℕ → Option Way) (way : Way) → joined node p t f ≡ Some way
    → ((to : ℕ) (w : Way) → t ≡ Onward (Some to) → f to ≡ Some w → IsKeptBy p w.packet) → IsKeptBy p way.packet
joined_kept node p (Over outcome) f way e later = subst (IsKeptBy p) (ap (λ w. w.packet) (same_Some _ way e)) (record { number = refl; no_larger = omega arith })
joined_kept node p (Onward None) f way e later = absurd (none-some way e)
joined_kept node p (Onward (Some to)) f way e later =
    let rest = map_some (after_visit node) (f to) way e in
    subst (IsKeptBy p) (ap (λ w. w.packet) rest.2) (later to rest.0 refl rest.1)

kept_within : (visit : Visit) (g : Graph) (workers worker leg_number visits node : ℕ) (p : Packet) (way : Way) → IsKindSet visit → IsValid g → IsPacket p → IsTarget (kind_at g node)
    → leg_within visit g workers worker leg_number visits node p ≡ Some way → IsKeptBy p way.packet
kept_within visit g workers worker leg_number zero node p way kinds valid sound target e = absurd (none-some way e)
kept_within visit g workers worker leg_number (suc visits) node p way kinds valid sound target e =
    let after = visit g node p in
    let laws : IsVisitOf g node p after = kinds g node p valid target sound in
    kept_then after.1 p way.packet laws.number laws.no_larger
    (joined_kept node after.1 (move_of g workers worker leg_number node after.0) (λ to. leg_within visit g workers worker leg_number visits to after.1) way e
    (λ to w goes q. kept_within visit g workers worker leg_number visits to after.1 w kinds valid laws.packet (arc_target g node to valid (move_arc g workers worker leg_number node to after.0 goes)) q))

-- a leg is no longer than its visits allowed
joined_short : (node most : ℕ) (p : Packet) (t : Move) (f : ℕ → Option Way) (way : Way) → joined node p t f ≡ Some way → ((to : ℕ) (w : Way) → f to ≡ Some w → length w.visits ≤ most) → length way.visits ≤ suc most
joined_short node most p (Over outcome) f way e later = subst (λ (w : Way). length w.visits ≤ suc most) (same_Some _ way e) (omega arith)
joined_short node most p (Onward None) f way e later = absurd (none-some way e)
joined_short node most p (Onward (Some to)) f way e later =
    let rest = map_some (after_visit node) (f to) way e in
    let less = later to rest.0 rest.1 in
    subst (λ (w : Way). length w.visits ≤ suc most) rest.2 (omega (arith, less))

short_within : (visit : Visit) (g : Graph) (workers worker leg_number visits node : ℕ) (p : Packet) (way : Way) → leg_within visit g workers worker leg_number visits node p ≡ Some way → length way.visits ≤ visits
short_within visit g workers worker leg_number zero node p way e = absurd (none-some way e)
short_within visit g workers worker leg_number (suc visits) node p way e =
    let after = visit g node p in
    joined_short node visits after.1 (move_of g workers worker leg_number node after.0) (λ to. leg_within visit g workers worker leg_number visits to after.1) way e
    (λ to w q. short_within visit g workers worker leg_number visits to after.1 w q)

-- a node with a kind is one of the graph's
pub node_within : (g : Graph) (n : ℕ) (kind : Kind) → kind_at g n ≡ Some kind → n < length g.nodes
node_within g n kind is =
    let found = map_some (λ (node : Node). node.kind) (slice_get g.nodes n) kind is in
    slice_get_within g.nodes n found.0 found.1

pub fresh_sound : (number : ℕ) (bytes : List ℕ) → AreBytes bytes → IsPacket (fresh number bytes)
fresh_sound number bytes sound = record { bytes = sound; sound = λ e. cc }

-- the leg of a packet that is drawn and is too long
pub long_leg : (s : Setting) (number : ℕ) (bytes : List ℕ) → longest_packet < length bytes
    → arrival_way s (Drawn number bytes) ≡ Some (ends_at pg_input (fresh number bytes) (Dropped pg_input TooLong))
long_leg s number bytes long =
    ap (λ b. if b then Some (ends_at pg_input (fresh number bytes) (Dropped pg_input TooLong)) else leg_from s.visit s.graph s.workers s.worker 1 pg_input pg_input (fresh number bytes))
    (lt-ltb longest_packet (length bytes) long)

-- what it counts
pub long_owed : (s : Setting) (t : Weights) (number : ℕ) (bytes : List ℕ) → longest_packet < length bytes
    → arrival_owed s t (Drawn number bytes) ≡ t.visits pg_input + (sum_by t.visits (drop_visits (Dropped pg_input TooLong)) + t.ends (ended_by (leg_here s ∷ []) (pieces_of (length bytes)) (ends_at pg_input (fresh number bytes) (Dropped pg_input TooLong))))
long_owed s t number bytes long =
    ap (λ o. unwrap_or (option_map (way_weight t (leg_here s ∷ []) (pieces_of (length bytes))) o) 0) (long_leg s number bytes long)
    ∙ (let one = sum_by-cons t.visits pg_input [] in omega (arith, one))

-- how any other packet that comes stands in its buffer: with this leg; its leg begins with a visit of one node, and goes on at the next
-- of another
pub record Arrives (s : Setting) (e : Arrival) (first via : ℕ) (c : Contents) : Type 0 where
  pub arrival : IsSoundArrival e
  pub from : ComesFrom s.graph e
  pub contents : AreContents c
  pub legs : c.legs ≡ legs_at s e
  pub pieces : c.pieces ≡ pieces_before e
  pub number : c.packet.number ≡ number_of e
  pub within : first < length s.graph.nodes
  pub way : (to : ℕ) → arc s.graph via first_slot ≡ Some to → arrival_way s e ≡ option_map (after_visit first) (leg_of s to c)

pub arrives_drawn : (s : Setting) (number : ℕ) (bytes : List ℕ) → IsSetting s → AreBytes bytes → length bytes ≤ longest_packet
    → Arrives s (Drawn number bytes) pg_input pg_input (record { packet = fresh number bytes; legs = leg_here s ∷ []; pieces = pieces_of (length bytes) })
arrives_drawn s number bytes ok sound short = record {
  arrival = sound;
  from = tt;
  contents = record {
    packet = fresh_sound number bytes sound;
    some = pieces_some (length bytes);
    few = pieces_bound (length bytes);
    room = omega arith;
    len = omega (arith, short);
    fits = (let enough = pieces_enough (pieces_of (length bytes)) (length bytes) (omega arith) short in omega (arith, enough));
    few_legs = omega arith;
  };
  legs = refl;
  pieces = refl;
  number = refl;
  within = node_within s.graph pg_input kinds.PgInput ok.valid.source;
  way = λ to leads.
      ap (λ b. if b then Some (ends_at pg_input (fresh number bytes) (Dropped pg_input TooLong)) else leg_from s.visit s.graph s.workers s.worker 1 pg_input pg_input (fresh number bytes))
      (le-ltb longest_packet (length bytes) short)
      ∙ ap (λ o. option_map (after_visit pg_input) (option_and_then (λ n. leg s.visit s.graph s.workers s.worker 1 n (fresh number bytes)) o)) leads;
}

pub arrives_taken : (s : Setting) (worker node : ℕ) (c : Contents) → IsSetting s → AreContents c → length c.legs ≤ 3 → ComesFrom s.graph (Taken worker node c)
    → Arrives s (Taken worker node c) handoff_dequeue node (record c { legs = c.legs ++ leg_here s ∷ [] })
arrives_taken s worker node c ok sound few from =
    let more = length_push c.legs (leg_here s) in
    let size : suc (length c.legs) ≡ length (c.legs ++ leg_here s ∷ []) = omega (arith, more) in
    record {
      arrival = (sound.packet, few, sound.len);
      from = from;
      contents = record {
        packet = sound.packet;
        some = sound.some;
        few = sound.few;
        room = sound.room;
        len = sound.len;
        fits = sound.fits;
        few_legs = omega (arith, few, more);
      };
      legs = refl;
      pieces = refl;
      number = refl;
      within = node_within s.graph handoff_dequeue kinds.HandoffDequeue ok.valid.dequeue;
      way = λ to leads.
          ap (λ o. option_map (after_visit handoff_dequeue) (option_and_then (λ n. leg s.visit s.graph s.workers s.worker (suc (length c.legs)) n c.packet) o)) leads
          ∙ ap (λ k. option_map (after_visit handoff_dequeue) (leg s.visit s.graph s.workers s.worker k to c.packet)) size;
    }

pub arrives_owed : (s : Setting) (t : Weights) (e : Arrival) (first via to : ℕ) (c : Contents) → IsSetting s → Arrives s e first via c → arc s.graph via first_slot ≡ Some to
    → arrival_owed s t e ≡ t.visits first + owed s t to c
arrives_owed s t e first via to c ok arrives leads =
    let target : IsTarget (kind_at s.graph to) = arc_target s.graph via to ok.valid (first_slot, leads) in
    let way = leg_some s.visit s.graph s.workers s.worker (length c.legs) to c.packet ok.kinds ok.valid arrives.contents.packet target in
    ap (λ o. unwrap_or (option_map (way_weight t (legs_at s e) (pieces_before e)) o) 0) (arrives.way to leads)
    ∙ ap (λ ls. unwrap_or (option_map (way_weight t ls (pieces_before e)) (option_map (after_visit first) (leg_of s to c))) 0) (sym arrives.legs)
    ∙ ap (λ n. unwrap_or (option_map (way_weight t c.legs n) (option_map (after_visit first) (leg_of s to c))) 0) (sym arrives.pieces)
    ∙ some_weight t c.legs c.pieces first (leg_of s to c) way.0 way.1

-- the whole leg of a packet that comes
pub record IsWay (s : Setting) (most : ℕ) (way : Way) : Type 0 where
  pub visits : length way.visits ≤ 1 + length s.graph.nodes
  pub no_larger : extent way.packet ≤ most

pub from_way : (s : Setting) (leg_number first via : ℕ) (kind : Kind) (p : Packet) → IsSetting s → kind_at s.graph via ≡ Some kind → 0 < length (slots kind) → IsPacket p
    → (way : Way) × (leg_from s.visit s.graph s.workers s.worker leg_number first via p ≡ Some way) × IsWay s (extent p) way
from_way s leg_number first via kind p ok is some sound =
    let to = arc_some s.graph via first_slot kind ok.valid is some in
    let target : IsTarget (kind_at s.graph to.0) = arc_target s.graph via to.0 ok.valid (first_slot, to.1) in
    let rest = leg_some s.visit s.graph s.workers s.worker leg_number to.0 p ok.kinds ok.valid sound target in
    let kept = kept_within s.visit s.graph s.workers s.worker leg_number (length s.graph.nodes) to.0 p rest.0 ok.kinds ok.valid sound target rest.1 in
    let short = short_within s.visit s.graph s.workers s.worker leg_number (length s.graph.nodes) to.0 p rest.0 rest.1 in (
      after_visit first rest.0,
      ap (λ o. option_map (after_visit first) (option_and_then (λ n. leg s.visit s.graph s.workers s.worker leg_number n p) o)) to.1
          ∙ ap (option_map (after_visit first)) rest.1,
      record { visits = omega (arith, short); no_larger = kept.no_larger },
    )

pub came_way : (s : Setting) (e : Arrival) → IsSetting s → IsSoundArrival e → ComesFrom s.graph e → (way : Way) × (arrival_way s e ≡ Some way) × IsWay s (arrival_extent e) way
came_way s (Taken worker node c) ok sound from = from_way s (suc (length c.legs)) handoff_dequeue node (kinds.WorkerHandoff from.0) c.packet ok from.1 (omega arith) sound.0
came_way s (Drawn number bytes) ok sound from = by (nat_lt longest_packet (length bytes))
  where
    p : Packet
    p = fresh number bytes

    by : (b : Bool) → (way : Way) × ((if b then Some (ends_at pg_input p (Dropped pg_input TooLong)) else leg_from s.visit s.graph s.workers s.worker 1 pg_input pg_input p) ≡ Some way) × IsWay s (extent p) way
    by true = (ends_at pg_input p (Dropped pg_input TooLong), refl, record { visits = omega arith; no_larger = omega arith })
    by false = from_way s 1 pg_input pg_input kinds.PgInput p ok ok.valid.source (omega arith) (fresh_sound number bytes sound)

pub drop_visits_most : (outcome : Outcome) → length (drop_visits outcome) ≤ 1
drop_visits_most (Sent interface) = omega arith
drop_visits_most (Handed node worker) = omega arith
drop_visits_most (Dropped node error) = by (node == error_drop)
  where
    by : (b : Bool) → length (if b then [] else error_drop ∷ []) ≤ 1
    by true = omega arith
    by false = omega arith

-- what a packet counts at most
pub came_visits_most : (s : Setting) (m : ℕ) (e : Arrival) → IsSetting s → IsSoundArrival e → ComesFrom s.graph e → arrival_owed s (by_visits m) e ≤ 66
came_visits_most s m e ok sound from =
    let way = came_way s e ok sound from in
    let is : arrival_owed s (by_visits m) e ≡ way_weight (by_visits m) (legs_at s e) (pieces_before e) way.0 = ap (λ o. unwrap_or (option_map (way_weight (by_visits m) (legs_at s e) (pieces_before e)) o) 0) way.1 in
    let visits = way.2.visits in
    let few = ok.few_nodes in
    omega (arith, is, visits, few, visits_most m way.0.visits, visits_most m (drop_visits way.0.outcome), drop_visits_most way.0.outcome)

sent_most : (bytes : List ℕ) (outcome : Outcome) → sent_bytes_of bytes outcome ≤ length bytes
sent_most bytes (Sent interface) = omega arith
sent_most bytes (Dropped node error) = omega arith
sent_most bytes (Handed node worker) = omega arith

pub came_bytes_most : (s : Setting) (e : Arrival) → IsSetting s → IsSoundArrival e → ComesFrom s.graph e → arrival_owed s by_bytes e ≤ arrival_extent e
came_bytes_most s e ok sound from =
    let way = came_way s e ok sound from in
    let is : arrival_owed s by_bytes e ≡ way_weight by_bytes (legs_at s e) (pieces_before e) way.0 = ap (λ o. unwrap_or (option_map (way_weight by_bytes (legs_at s e) (pieces_before e)) o) 0) way.1 in
    let no_larger = way.2.no_larger in
    omega (arith, is, no_larger, sum_by_none way.0.visits, sum_by_none (drop_visits way.0.outcome), sent_most way.0.packet.bytes way.0.outcome)

-- and its chain
pub came_pieces_most : (s : Setting) (e : Arrival) → arrival_owed s by_pieces e ≤ pieces_before e
came_pieces_most s e = by (arrival_way s e)
  where
    by : (o : Option Way) → unwrap_or (option_map (way_weight by_pieces (legs_at s e) (pieces_before e)) o) 0 ≤ pieces_before e
    by None = omega arith
    by (Some way) = omega (arith, sum_by_none way.visits, sum_by_none (drop_visits way.outcome))

-- and how many nodes it visits
pub came_nodes_most : (s : Setting) (e : Arrival) → IsSetting s → IsSoundArrival e → ComesFrom s.graph e → length (arrival_nodes s e) < most_noted
came_nodes_most s e ok sound from =
    let way = came_way s e ok sound from in
    let nodes : length (arrival_nodes s e) ≡ length (counted_visits way.0) = ap (λ o. length (unwrap_or (option_map counted_visits o) [])) way.1 in
    let visits = way.2.visits in
    let few = ok.few_nodes in
    omega (arith, nodes, visits, few, length-append way.0.visits (drop_visits way.0.outcome), drop_visits_most way.0.outcome)
