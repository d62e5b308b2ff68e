-- For `visit_each`: a frame under way: its first packets are visited and sorted, and the rest is as it was.
use Rattle.std.proofs.Common.{◌≡◌, ◌≢◌, ℕ, zero, suc, ◌+◌, ◌-◌, ◌<◌, ◌≤◌, true, false, cond, List, [], ◌∷◌, ◌++◌, length, take, drop, get_or, refl, sym, ap, subst, ◌∙◌, arith, append_assoc, length-append}
use Rattle.std.specs.Prelude.{Option, Some, None, is_some, option_map, option_and_then, slice_set, nat_eq}
use Rattle.std.specs.List.{AllByRecursion, IsDistinct, cons_option}
use Rattle.std.specs.Option.{option_to_list}
use Rattle.std.proofs.lemmas.Bool.{eqb-false}
use Rattle.std.proofs.lemmas.List.{append-nil, get_or-set_same, get_or-set_other, length-take-le, take_more, drop-take, drop-append-le}
use Rattle.std.proofs.lemmas.List.Sums.{sum_by-set}
use Rattle.std.proofs.lemmas.Option.{none-some}
use Rattle.vg_model.specs.declared.kinds.Step.{Step}
use Rattle.vg_model.specs.declared.kinds.Step.TheVariants.{Next, Tx, Dropped, Hand}
use Rattle.vg_pool.specs.Contents.{Contents}
use Rattle.vg_frame.specs.Pending.{frame_size}
use Rattle.vg_frame.specs.Placed.{buffer_at, count, IsLive}
use Rattle.vg_nodes.specs.declared.sorted.Sorted.{Sorted}
use Rattle.vg_nodes.specs.Sorting.{nothing_sorted, HasRoom, put}
use Rattle.vg_nodes.specs.Runs.{over_slot}
use Rattle.vg_nodes.proofs.RunLemmas.{over_slot-append, length-over_slot}
use Rattle.vg_nodes.specs.Dispatch.{NodeVisit, IsVisitAs, after_visit, next_entry, tx_entry, drop_entry, hand_entry, entries, IsSortedBy, IsVisitedBy}

-- the memory after the visits of these indexes, one after the other
abbrev pub after_visits : NodeVisit → List (Option Contents) → List ℕ → List (Option Contents)
after_visits visit memory [] = memory
after_visits visit memory (index ∷ rest) =
    after_visits visit (slice_set memory index (option_map (after_visit visit) (buffer_at memory index))) rest

-- each list with all that is left has at most a frame's indexes
pub record HasRoomFor (left : ℕ) (out : Sorted) : Type 0 where
  pub next : length out.next + left ≤ frame_size
  pub tx : length out.tx + left ≤ frame_size
  pub drops : length out.drops + left ≤ frame_size
  pub hands : length out.hands + left ≤ frame_size

-- the lists have what they have in the end, but for the rest; so has the memory; the rest is live and as it was
pub record IsUnderway (visit : NodeVisit) (old : List (Option Contents)) (frame : List ℕ) (now : List (Option Contents)) (rest : List ℕ) (out : Sorted) : Type 0 where
  pub next : out.next ++ entries next_entry visit old rest ≡ entries next_entry visit old frame
  pub tx : out.tx ++ entries tx_entry visit old rest ≡ entries tx_entry visit old frame
  pub drops : out.drops ++ entries drop_entry visit old rest ≡ entries drop_entry visit old frame
  pub hands : out.hands ++ entries hand_entry visit old rest ≡ entries hand_entry visit old frame
  pub memory : after_visits visit now rest ≡ after_visits visit old frame
  pub same : AllByRecursion (λ index. buffer_at now index ≡ buffer_at old index) rest
  pub live : AllByRecursion (IsLive old) rest
  pub distinct : IsDistinct nat_eq rest
  pub room : HasRoomFor (length rest) out

-- what has a buffer is one of the memory's places
live_within : (memory : List (Option Contents)) (index : ℕ) (c : Contents) → buffer_at memory index ≡ Some c → index < length memory
live_within [] index c e = absurd (none-some c e)
live_within (slot ∷ memory) zero c e = omega arith
live_within (slot ∷ memory) (suc index) c e = let within : index < length memory = live_within memory index c e in omega arith

-- an index that differs has what it had
apart : (memory : List (Option Contents)) (index other : ℕ) (slot : Option Contents) → nat_eq index other ≡ false → buffer_at (slice_set memory index slot) other ≡ buffer_at memory other
apart memory index other slot e = get_or-set_other memory index other slot None (λ same. eqb-false index other e (sym same))

-- one buffer in place of another: as many are live
one_written : (memory : List (Option Contents)) (index : ℕ) (c new : Contents) → buffer_at memory index ≡ Some c → count (slice_set memory index (Some new)) ≡ count memory
one_written memory index c new e =
    let live : Option Contents → ℕ = λ slot. cond (is_some slot) 1 0 in
    let sums : count (slice_set memory index (Some new)) + live (buffer_at memory index) ≡ count memory + 1 =
    sum_by-set live memory index (Some new) None (live_within memory index c e) in
    let one : live (buffer_at memory index) ≡ 1 = ap live e in
    omega (arith, sums, one)

-- at the beginning nothing is visited
same_at_first : (memory : List (Option Contents)) (frame : List ℕ) → AllByRecursion (λ index. buffer_at memory index ≡ buffer_at memory index) frame
same_at_first memory [] = tt
same_at_first memory (index ∷ rest) = (refl, same_at_first memory rest)

begins : (visit : NodeVisit) (old : List (Option Contents)) (frame : List ℕ) (out : Sorted) → AllByRecursion (IsLive old) frame → IsDistinct nat_eq frame → length frame ≤ frame_size
    → out ≡ nothing_sorted → IsUnderway visit old frame old frame out
begins visit old frame out live distinct few empty =
    subst (IsUnderway visit old frame old frame) (sym empty) (record {
      next = refl;
      tx = refl;
      drops = refl;
      hands = refl;
      memory = refl;
      same = same_at_first old frame;
      live = live;
      distinct = distinct;
      room = record { next = omega (arith, few); tx = omega (arith, few); drops = omega (arith, few); hands = omega (arith, few) };
    })

-- the rest stays as it was as the index before it is written
same_behind : (old now : List (Option Contents)) (index : ℕ) (slot : Option Contents) (rest : List ℕ) → AllByRecursion (λ other. nat_eq index other ≡ false) rest
    → AllByRecursion (λ other. buffer_at now other ≡ buffer_at old other) rest → AllByRecursion (λ other. buffer_at (slice_set now index slot) other ≡ buffer_at old other) rest
same_behind old now index slot [] others same = tt
same_behind old now index slot (other ∷ rest) others same = (apart now index other slot others.0 ∙ same.0, same_behind old now index slot rest others.1 same.1)

-- one more entry, or none, behind a list and in front of what is left of it
moved : {V : Type 0} (xs tail : List (ℕ × V)) (entry : Option (ℕ × V)) → (xs ++ option_to_list entry) ++ tail ≡ xs ++ cons_option entry tail
moved xs tail None = ap (λ l. l ++ tail) (append-nil xs)
moved xs tail (Some x) = append_assoc xs (x ∷ []) tail

-- one list, where it gets what the step names for it
list_onward : {V : Type 0} (entry : ℕ → Step → Option (ℕ × V)) (visit : NodeVisit) (old : List (Option Contents)) (index : ℕ) (rest : List ℕ) (c : Contents) (now after goal : List (ℕ × V))
    → buffer_at old index ≡ Some c → after ≡ now ++ option_to_list (entry index (visit c.packet).0)
    → now ++ entries entry visit old (index ∷ rest) ≡ goal → after ++ entries entry visit old rest ≡ goal
list_onward entry visit old index rest c now after goal e grown before =
    ap (λ l. l ++ entries entry visit old rest) grown
    ∙ (moved now (entries entry visit old rest) (entry index (visit c.packet).0)
    ∙ (ap (λ o. now ++ cons_option (option_and_then (entry index) (option_map (λ b. (visit b.packet).0) o)) (entries entry visit old rest)) (sym e) ∙ before))

put_next : (index : ℕ) (step : Step) (out : Sorted) → (put index step out).next ≡ out.next ++ option_to_list (next_entry index step)
put_next index (Next slot) out = refl
put_next index (Tx interface) out = sym (append-nil out.next)
put_next index (Dropped error) out = sym (append-nil out.next)
put_next index (Hand hash) out = sym (append-nil out.next)

put_tx : (index : ℕ) (step : Step) (out : Sorted) → (put index step out).tx ≡ out.tx ++ option_to_list (tx_entry index step)
put_tx index (Next slot) out = sym (append-nil out.tx)
put_tx index (Tx interface) out = refl
put_tx index (Dropped error) out = sym (append-nil out.tx)
put_tx index (Hand hash) out = sym (append-nil out.tx)

put_drops : (index : ℕ) (step : Step) (out : Sorted) → (put index step out).drops ≡ out.drops ++ option_to_list (drop_entry index step)
put_drops index (Next slot) out = sym (append-nil out.drops)
put_drops index (Tx interface) out = sym (append-nil out.drops)
put_drops index (Dropped error) out = refl
put_drops index (Hand hash) out = sym (append-nil out.drops)

put_hands : (index : ℕ) (step : Step) (out : Sorted) → (put index step out).hands ≡ out.hands ++ option_to_list (hand_entry index step)
put_hands index (Next slot) out = sym (append-nil out.hands)
put_hands index (Tx interface) out = sym (append-nil out.hands)
put_hands index (Dropped error) out = sym (append-nil out.hands)
put_hands index (Hand hash) out = refl

-- the lists, with packets that go on over one slot behind the others
abbrev pub running : ℕ → List ℕ → Sorted → Sorted
running slot run out = record out { next = out.next ++ over_slot slot run }

pub running_none : (slot : ℕ) (run : List ℕ) (out : Sorted) → run ≡ [] → running slot run out ≡ out
running_none slot run out none = ap (λ xs. record out { next = out.next ++ over_slot slot xs }) none ∙ ap (λ xs. record out { next = xs }) (append-nil out.next)

-- one more of them
pub running_more : (slot : ℕ) (run : List ℕ) (index : ℕ) (out : Sorted) → put index (Next slot) (running slot run out) ≡ running slot (run ++ index ∷ []) out
running_more slot run index out =
    ap (λ xs. record out { next = xs }) (append_assoc out.next (over_slot slot run) ((index, slot) ∷ []) ∙ ap (λ xs. out.next ++ xs) (sym (over_slot-append slot run (index ∷ []))))

-- the indexes of a frame from one place on, in front of another
abbrev pub between : ℕ → ℕ → List ℕ → List ℕ
between start at frame = take (at - start) (drop start frame)

between_is : (start at : ℕ) (frame : List ℕ) → start ≤ at → between start at frame ≡ drop start (take at frame)
between_is start at frame within =
    sym (drop-take start (at - start) frame) ∙ ap (λ n. drop start (take n frame)) (let same : start + (at - start) ≡ at = omega (arith, within) in same)

pub between_more : (start at : ℕ) (frame : List ℕ) → start ≤ at → at < length frame → between start (at + 1) frame ≡ between start at frame ++ get_or frame at 0 ∷ []
between_more start at frame within inside =
    let size : length (take at frame) ≡ at = length-take-le at frame (omega (arith, inside)) in
    between_is start (at + 1) frame (omega (arith, within))
    ∙ (ap (drop start) (take_more frame at 0 inside)
    ∙ (drop-append-le start (take at frame) (get_or frame at 0 ∷ []) (omega (arith, within, size))
    ∙ ap (λ xs. xs ++ get_or frame at 0 ∷ []) (sym (between_is start at frame within))))

pub between_none : (at : ℕ) (frame : List ℕ) → between at at frame ≡ []
between_none at frame = ap (λ n. take n (drop at frame)) (let none : at - at ≡ 0 = omega arith in none)

-- a list with more behind it, and a rest that it has room for
pub length-running : (slot left : ℕ) (run : List ℕ) (out : Sorted) → HasRoomFor left (running slot run out) → length out.next + length run + left ≤ frame_size
length-running slot left run out room =
    let all = length-append out.next (over_slot slot run) in
    let size = length-over_slot slot run in
    omega (arith, room.next, all, size)

-- room for one more index
pub room_for_one : (left : ℕ) (out : Sorted) → HasRoomFor (suc left) out → HasRoom out
room_for_one left out room = record { next = omega (arith, room.next); tx = omega (arith, room.tx); drops = omega (arith, room.drops); hands = omega (arith, room.hands) }

room_left : (left index : ℕ) (step : Step) (out : Sorted) → HasRoomFor (suc left) out → HasRoomFor left (put index step out)
room_left left index (Next slot) out room =
    let longer : length (out.next ++ (index, slot) ∷ []) ≡ length out.next + 1 = length-append out.next ((index, slot) ∷ []) in
    record { next = omega (arith, longer, room.next); tx = omega (arith, room.tx); drops = omega (arith, room.drops); hands = omega (arith, room.hands) }
room_left left index (Tx interface) out room =
    let longer : length (out.tx ++ (index, interface) ∷ []) ≡ length out.tx + 1 = length-append out.tx ((index, interface) ∷ []) in
    record { next = omega (arith, room.next); tx = omega (arith, longer, room.tx); drops = omega (arith, room.drops); hands = omega (arith, room.hands) }
room_left left index (Dropped error) out room =
    let longer : length (out.drops ++ (index, error) ∷ []) ≡ length out.drops + 1 = length-append out.drops ((index, error) ∷ []) in
    record { next = omega (arith, room.next); tx = omega (arith, room.tx); drops = omega (arith, longer, room.drops); hands = omega (arith, room.hands) }
room_left left index (Hand hash) out room =
    let longer : length (out.hands ++ (index, hash) ∷ []) ≡ length out.hands + 1 = length-append out.hands ((index, hash) ∷ []) in
    record { next = omega (arith, room.next); tx = omega (arith, room.tx); drops = omega (arith, room.drops); hands = omega (arith, longer, room.hands) }

-- the next index of the rest is visited, and put by its step
onward : (visit : NodeVisit) (old : List (Option Contents)) (frame : List ℕ) (now : List (Option Contents)) (index : ℕ) (rest : List ℕ) (out : Sorted) (c new : Contents) (step : Step)
    → IsUnderway visit old frame now (index ∷ rest) out → buffer_at now index ≡ Some c
    → (step, new.packet) ≡ visit c.packet → new.legs ≡ c.legs → new.pieces ≡ c.pieces
    → IsUnderway visit old frame (slice_set now index (Some new)) rest (put index step out)
unfolding IsDistinct
onward visit old frame now index rest out c new step before e visited legs chain =
    let was : buffer_at old index ≡ Some c = sym before.same.0 ∙ e in
    let is_step : step ≡ (visit c.packet).0 = ap (λ w. w.0) visited in
    let is_new : new ≡ after_visit visit c = ap (λ packet. record new { packet = packet }) (ap (λ w. w.1) visited) ∙ ap (λ l. record new { packet = (visit c.packet).1; legs = l }) legs ∙ ap (λ n. record c { packet = (visit c.packet).1; pieces = n }) chain in
    let written : Some new ≡ option_map (after_visit visit) (buffer_at now index) = ap Some is_new ∙ ap (option_map (after_visit visit)) (sym e) in
    record {
      next = list_onward next_entry visit old index rest c out.next _ _ was (put_next index step out ∙ ap (λ s. out.next ++ option_to_list (next_entry index s)) is_step) before.next;
      tx = list_onward tx_entry visit old index rest c out.tx _ _ was (put_tx index step out ∙ ap (λ s. out.tx ++ option_to_list (tx_entry index s)) is_step) before.tx;
      drops = list_onward drop_entry visit old index rest c out.drops _ _ was (put_drops index step out ∙ ap (λ s. out.drops ++ option_to_list (drop_entry index s)) is_step) before.drops;
      hands = list_onward hand_entry visit old index rest c out.hands _ _ was (put_hands index step out ∙ ap (λ s. out.hands ++ option_to_list (hand_entry index s)) is_step) before.hands;
      memory = ap (λ slot. after_visits visit (slice_set now index slot) rest) written ∙ before.memory;
      same = same_behind old now index (Some new) rest before.distinct.0 before.same.1;
      live = before.live.1;
      distinct = before.distinct.1;
      room = room_left (length rest) index step out before.room;
    }

-- the rest is live after another index is visited
live_behind : (memory : List (Option Contents)) (index : ℕ) (slot : Option Contents) (rest : List ℕ) → AllByRecursion (λ other. nat_eq index other ≡ false) rest
    → AllByRecursion (IsLive memory) rest → AllByRecursion (IsLive (slice_set memory index slot)) rest
live_behind memory index slot [] others live = tt
live_behind memory index slot (other ∷ rest) others live =
    (ap is_some (apart memory index other slot others.0) ∙ live.0, live_behind memory index slot rest others.1 live.1)

-- what is visited behind another index is visited after it
visited_behind : (visit : NodeVisit) (memory new : List (Option Contents)) (index : ℕ) (slot : Option Contents) (rest : List ℕ) → AllByRecursion (λ other. nat_eq index other ≡ false) rest
    → AllByRecursion (λ other. buffer_at new other ≡ option_map (after_visit visit) (buffer_at (slice_set memory index slot) other)) rest
    → AllByRecursion (λ other. buffer_at new other ≡ option_map (after_visit visit) (buffer_at memory other)) rest
visited_behind visit memory new index slot [] others visited = tt
visited_behind visit memory new index slot (other ∷ rest) others visited =
    (visited.0 ∙ ap (option_map (after_visit visit)) (apart memory index other slot others.0), visited_behind visit memory new index slot rest others.1 visited.1)

-- the tests of others are facts
others_of : (index : ℕ) (rest : List ℕ) → AllByRecursion (λ other. nat_eq index other ≡ false) rest → AllByRecursion (λ other. other ≢ index) rest
others_of index [] others = tt
others_of index (other ∷ rest) others = ((λ same. eqb-false index other others.0 (sym same)), others_of index rest others.1)

-- the contents of a live index
contents_of : (memory : List (Option Contents)) (index : ℕ) (slot : Option Contents) → buffer_at memory index ≡ slot → is_some slot ≡ true → (c : Contents) × (buffer_at memory index ≡ Some c)
contents_of memory index None e live = cc
contents_of memory index (Some c) e live = (c, e)

-- visits one after the other are the visits of the whole frame
visits_are : (visit : NodeVisit) (memory : List (Option Contents)) (frame : List ℕ) → AllByRecursion (IsLive memory) frame → IsDistinct nat_eq frame
    → IsVisitedBy visit frame memory (after_visits visit memory frame)
unfolding IsDistinct
visits_are visit memory [] live distinct = record { visited = tt; others = λ index others. refl; count = refl }
visits_are visit memory (index ∷ rest) live distinct =
    let slot : Option Contents = option_map (after_visit visit) (buffer_at memory index) in
    let first : List (Option Contents) = slice_set memory index slot in
    let later : IsVisitedBy visit rest first (after_visits visit first rest) =
    visits_are visit first rest (live_behind memory index slot rest distinct.0 live.1) distinct.1 in
    let there = contents_of memory index (buffer_at memory index) refl live.0 in
    let written : slot ≡ Some (after_visit visit there.0) = ap (option_map (after_visit visit)) there.1 in
    record {
      visited = (
        later.others index (others_of index rest distinct.0) ∙ get_or-set_same memory index slot None (live_within memory index there.0 there.1),
        visited_behind visit memory (after_visits visit first rest) index slot rest distinct.0 later.visited,
      );
      others = λ other others. later.others other others.1 ∙ get_or-set_other memory index other slot None (λ same. others.0 (sym same));
      count = later.count ∙ (ap (λ s. count (slice_set memory index s)) written ∙ one_written memory index there.0 (after_visit visit there.0) there.1);
    }

-- a frame under way whatever its visit means, of all that is known to be a meaning of it
pub record IsVisiting (Means : NodeVisit → Type 0) (old : List (Option Contents)) (frame : List ℕ) (now : List (Option Contents)) (rest : List ℕ) (out : Sorted) : Type 0 where
  pub live : AllByRecursion (IsLive now) rest
  pub distinct : IsDistinct nat_eq rest
  pub room : HasRoomFor (length rest) out
  pub underway : (visit : NodeVisit) → Means visit → IsUnderway visit old frame now rest out

pub begins_visiting : (Means : NodeVisit → Type 0) (old : List (Option Contents)) (frame : List ℕ) (out : Sorted) → AllByRecursion (IsLive old) frame → IsDistinct nat_eq frame → length frame ≤ frame_size
    → out ≡ nothing_sorted → IsVisiting Means old frame old frame out
begins_visiting Means old frame out live distinct few empty =
    let begun : (visit : NodeVisit) → IsUnderway visit old frame old frame out = λ visit. begins visit old frame out live distinct few empty in
    record { live = live; distinct = distinct; room = (begun (λ p. (Next 0, p))).room; underway = λ visit means. begun visit }

-- the next index of the rest is visited, and put by its step
pub visits_next : (Means : NodeVisit → Type 0) (old : List (Option Contents)) (frame : List ℕ) (now : List (Option Contents)) (index : ℕ) (rest : List ℕ) (out : Sorted) (c new : Contents) (step : Step)
    → IsVisiting Means old frame now (index ∷ rest) out → buffer_at now index ≡ Some c
    → ((visit : NodeVisit) → Means visit → IsVisitAs visit c step new)
    → IsVisiting Means old frame (slice_set now index (Some new)) rest (put index step out)
unfolding IsDistinct
visits_next Means old frame now index rest out c new step before e visited =
    record {
      live = live_behind now index (Some new) rest before.distinct.0 before.live.1;
      distinct = before.distinct.1;
      room = room_left (length rest) index step out before.room;
      underway = λ visit means.
          (let is : IsVisitAs visit c step new = visited visit means in
          onward visit old frame now index rest out c new step (before.underway visit means) e is.visited is.legs is.chain);
    }

-- where nothing is left, the frame is sorted
pub sorted_at_last : (visit : NodeVisit) (old : List (Option Contents)) (frame : List ℕ) (now : List (Option Contents)) (out : Sorted) → IsUnderway visit old frame now [] out → IsSortedBy visit old frame out
sorted_at_last visit old frame now out is = record {
  next = sym (append-nil out.next) ∙ is.next;
  tx = sym (append-nil out.tx) ∙ is.tx;
  drops = sym (append-nil out.drops) ∙ is.drops;
  hands = sym (append-nil out.hands) ∙ is.hands;
}

-- and visited
pub visited_at_last : (visit : NodeVisit) (old : List (Option Contents)) (frame : List ℕ) (now : List (Option Contents)) (out : Sorted) → IsUnderway visit old frame now [] out
    → AllByRecursion (IsLive old) frame → IsDistinct nat_eq frame → IsVisitedBy visit frame old now
visited_at_last visit old frame now out is live distinct = subst (IsVisitedBy visit frame old) (sym is.memory) (visits_are visit old frame live distinct)
