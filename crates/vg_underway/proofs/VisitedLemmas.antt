-- For the clauses of `Work::note_frame` and `dispatched` of `Work::dispatch_next`: the visits of a frame are noted, and its packets stay traced.
use Rattle.std.proofs.Common.{◌≡◌, ◌≢◌, ℕ, zero, suc, ◌+◌, ◌-◌, ◌<◌, ◌≤◌, Bool, true, false, cond, ◌&&◌, List, [], ◌∷◌, ◌++◌, length, get_or, set, take, drop, refl, sym, ap, subst, ◌∙◌, inl, inr, arith, append_assoc, length-append}
use Rattle.std.specs.Prelude.{Option, Some, None, is_some, option_map, unwrap_or, nat_lt}
use Rattle.std.specs.List.{sum_by, AllByRecursion}
use Rattle.std.proofs.lemmas.List.{take-append-drop, take_more, set-get_or, get_or-set_other, get_or-set_same}
use Rattle.std.proofs.lemmas.List.Sums.{sum_by-cons, sum_by-append}
use Rattle.std.proofs.lemmas.Option.{none-some, same_Some}
use Rattle.std.proofs.lemmas.Bool.Decides.{eqb_tells}
use Rattle.vg_model.specs.declared.kinds.Step.{Step}
use Rattle.vg_model.specs.Graph.{kind_at}
use Rattle.vg_model.specs.Valid.{IsTarget, IsPacket, IsVisitOf}
use Rattle.vg_model.specs.Leg.{Way, Move, Onward, Over, joined}
use Rattle.vg_model.specs.Leg as legs
use Rattle.vg_model.proofs.LegLemmas.{leg_step}
use Rattle.vg_model.proofs.LegEnds.{leg_some}
use Rattle.vg_pool.specs.Contents.{Contents, AreContents}
use Rattle.vg_frame.specs.Pending.{frame_size, pending_at, TakesFrame}
use Rattle.vg_frame.specs.Placed.{buffer_at, IsLive}
use Rattle.vg_counters.specs.Notes.{Notes, nodes_of, noted, most_noted}
use Rattle.vg_counters.specs.Tally.{Tally}
use Rattle.vg_nodes.specs.declared.sorted.Sorted.{Sorted}
use Rattle.vg_nodes.specs.Dispatch.{after_visit, IsSortedBy, IsVisitedBy}
use Rattle.vg_underway.specs.declared.underway.Work.{Work}
use Rattle.vg_journeys.specs.Ended.{counted_visits}
use Rattle.vg_underway.specs.Underway.{Setting, IsSetting, leg_of, after_at, moved, move_at, contents_at, live_at, sum_from, nothing}
use Rattle.vg_underway.specs.Places.{same_one, times_waiting}
use Rattle.vg_underway.specs.Traced.{Sight, IsSeen, leg_place, nodes_noted, visits_to_come, visits_after, IsOnWay, IsNotes, IsTraced, noted_frame}
use Rattle.vg_underway.specs.Works.{hand_of, IsHeld}
use Rattle.vg_underway.proofs.SumLemmas.{same_one_self}
use Rattle.vg_underway.proofs.OwedLemmas.{laws_at}
use Rattle.vg_underway.proofs.SortedLemmas.{all_hand, HoldsOfStep, not_among, among_holds}
use Rattle.vg_underway.proofs.FrameLemmas.{frame_places, frame_live, frame_target}
use Rattle.vg_underway.proofs.NotedLemmas.{length-noted, IsNotes-noted, noted_same, noted_other, on_way_like}

-- what holds of each index that a list has holds of all of it
all_among : (P : ℕ → Type 0) (frame : List ℕ) → ((i : ℕ) → 0 < sum_by (same_one i) frame → P i) → AllByRecursion P frame
all_among P [] each = tt
all_among P (x ∷ xs) each = (
  each x (omega (arith, same_one_self x, sum_by-cons (same_one x) x xs)),
  all_among P xs (λ i some. each i (omega (arith, some, sum_by-cons (same_one i) x xs))),
)

-- an index has another number, or another leg under way
abbrev pub IsAnother : List (Option Contents) → (number leg : ℕ) → ℕ → Type 0
IsAnother memory number leg i = number ≡ (contents_at memory i).packet.number → leg ≢ leg_place (contents_at memory i)

-- as many packets are traced, and each has a list for each leg
pub noted_frame_length : (memory : List (Option Contents)) (node : ℕ) (frame : List ℕ) (notes : Notes) → length (noted_frame memory node frame notes) ≡ length notes
noted_frame_length memory node [] notes = refl
noted_frame_length memory node (i ∷ frame) notes =
    noted_frame_length memory node frame (noted (contents_at memory i).packet.number (leg_place (contents_at memory i)) node notes)
    ∙ length-noted (contents_at memory i).packet.number (leg_place (contents_at memory i)) node notes

pub noted_frame_notes : (memory : List (Option Contents)) (node : ℕ) (frame : List ℕ) (notes : Notes) → IsNotes notes → IsNotes (noted_frame memory node frame notes)
noted_frame_notes memory node [] notes is = is
noted_frame_notes memory node (i ∷ frame) notes is =
    noted_frame_notes memory node frame (noted (contents_at memory i).packet.number (leg_place (contents_at memory i)) node notes)
    (IsNotes-noted (contents_at memory i).packet.number (leg_place (contents_at memory i)) node notes is)

-- a number and leg that no index of the frame has keep their list
pub noted_frame_other : (memory : List (Option Contents)) (node number leg : ℕ) (frame : List ℕ) (notes : Notes) → AllByRecursion (IsAnother memory number leg) frame
    → nodes_of number leg (noted_frame memory node frame notes) ≡ nodes_of number leg notes
noted_frame_other memory node number leg [] notes others = refl
noted_frame_other memory node number leg (i ∷ frame) notes others =
    noted_frame_other memory node number leg frame (noted (contents_at memory i).packet.number (leg_place (contents_at memory i)) node notes) others.1
    ∙ noted_other (contents_at memory i).packet.number (leg_place (contents_at memory i)) node notes number leg others.0

-- those of an index that the frame has once get the node behind the others
pub noted_frame_once : (memory : List (Option Contents)) (node i : ℕ) (frame : List ℕ) (notes : Notes)
    → ((j : ℕ) → 0 < sum_by (same_one j) frame → j ≢ i → IsAnother memory (contents_at memory i).packet.number (leg_place (contents_at memory i)) j)
    → sum_by (same_one i) frame ≡ 1 → IsNotes notes → (contents_at memory i).packet.number < length notes → leg_place (contents_at memory i) < 4
    → length (nodes_noted notes (contents_at memory i)) < most_noted
    → nodes_noted (noted_frame memory node frame notes) (contents_at memory i) ≡ nodes_noted notes (contents_at memory i) ++ node ∷ []
noted_frame_once memory node i [] notes others once is inside few room = absurd (omega (arith, once))
noted_frame_once memory node i (x ∷ xs) notes others once is inside few room =
    let c : Contents = contents_at memory i in
    let d : Contents = contents_at memory x in
    let after : Notes = noted d.packet.number (leg_place d) node notes in
    let cons = sum_by-cons (same_one i) x xs in
    elim (eqb_tells x i) [
      | inl same ↦
          let one : same_one i x ≡ 1 = ap (same_one i) same.1 ∙ same_one_self i in
          let none : sum_by (same_one i) xs ≡ 0 = omega (arith, once, one, cons) in
          let apart : AllByRecursion (IsAnother memory c.packet.number (leg_place c)) xs =
          all_among (IsAnother memory c.packet.number (leg_place c)) xs
          (λ j some. others j (omega (arith, some, sum_by-cons (same_one j) x xs)) (λ e. (let gone : sum_by (same_one j) xs ≡ 0 = ap (λ k. sum_by (same_one k) xs) e ∙ none in absurd (omega (arith, some, gone))))) in
          noted_frame_other memory node c.packet.number (leg_place c) xs after apart
          ∙ ap (λ k. nodes_of c.packet.number (leg_place c) (noted (contents_at memory k).packet.number (leg_place (contents_at memory k)) node notes)) same.1
          ∙ noted_same c.packet.number (leg_place c) node notes inside few is room
      | inr other ↦
          let none : same_one i x ≡ 0 = ap (λ b. cond b 1 0) other.0 in
          let kept : nodes_noted after c ≡ nodes_noted notes c =
          noted_other d.packet.number (leg_place d) node notes c.packet.number (leg_place c) (others x (omega (arith, same_one_self x, sum_by-cons (same_one x) x xs)) other.1) in
          let size = length-noted d.packet.number (leg_place d) node notes in
          noted_frame_once memory node i xs after (λ j some. others j (omega (arith, some, sum_by-cons (same_one j) x xs))) (omega (arith, once, none, cons))
          (IsNotes-noted d.packet.number (leg_place d) node notes is) (omega (arith, inside, size)) few (subst (λ ns. length ns < most_noted) (sym kept) room)
          ∙ ap (λ ns. ns ++ node ∷ []) kept
    ]

-- the visits of a packet from a node on: that one, and those after it
way_visits : (node : ℕ) (o : Option Way) (way : Way) → option_map (legs.after_visit node) o ≡ Some way
    → unwrap_or (option_map counted_visits (option_map (legs.after_visit node) o)) [] ≡ node ∷ unwrap_or (option_map counted_visits o) []
way_visits node None way e = absurd (none-some way e)
way_visits node (Some rest) way e = refl

joined_visits : (s : Setting) (node : ℕ) (c : Contents) (move : Move) (way : Way) → joined node c.packet move (λ to. leg_of s to c) ≡ Some way
    → unwrap_or (option_map counted_visits (joined node c.packet move (λ to. leg_of s to c))) [] ≡ node ∷ visits_after s c move
joined_visits s node c (Over outcome) way e = refl
joined_visits s node c (Onward None) way e = absurd (none-some way e)
joined_visits s node c (Onward (Some to)) way e = way_visits node (leg_of s to c) way e

pub visits_here : (s : Setting) (node : ℕ) (c : Contents) → IsSetting s → IsPacket c.packet → IsTarget (kind_at s.graph node)
    → visits_to_come s node c ≡ node ∷ visits_after s (after_at s node c) (move_at s node c)
visits_here s node c ok sound target =
    let step : leg_of s node c ≡ joined node (after_at s node c).packet (move_at s node c) (λ to. leg_of s to (after_at s node c)) =
    leg_step s.visit s.graph s.workers s.worker (length c.legs) node c.packet ok.valid.acyclic in
    let whole = leg_some s.visit s.graph s.workers s.worker (length c.legs) node c.packet ok.kinds ok.valid sound target in
    ap (λ o. unwrap_or (option_map counted_visits o) []) step ∙ joined_visits s node (after_at s node c) (move_at s node c) whole.0 (sym step ∙ whole.1)

-- a visit leaves the number of a packet and its legs
record StaysItself (o new : Option Contents) : Type 0 where
  live : is_some new ≡ is_some o
  number : (unwrap_or new nothing).packet.number ≡ (unwrap_or o nothing).packet.number
  legs : (unwrap_or new nothing).legs ≡ (unwrap_or o nothing).legs

itself_same : (o new : Option Contents) → new ≡ o → StaysItself o new
itself_same o new e = record { live = ap is_some e; number = ap (λ x. (unwrap_or x nothing).packet.number) e; legs = ap (λ x. (unwrap_or x nothing).legs) e }

itself_after : (s : Setting) (node : ℕ) (o new : Option Contents) → IsSetting s → IsTarget (kind_at s.graph node) → new ≡ option_map (after_visit (s.visit s.graph node)) o
    → AreContents (unwrap_or o nothing) → StaysItself o new
itself_after s node None new ok target e sound = itself_same None new e
itself_after s node (Some c) new ok target e sound =
    let laws : IsVisitOf s.graph node c.packet (s.visit s.graph node c.packet) = laws_at s node c ok sound.packet target in
    record {
      live = ap is_some e;
      number = ap (λ x. (unwrap_or x nothing).packet.number) e ∙ laws.number;
      legs = ap (λ x. (unwrap_or x nothing).legs) e;
    }

visited_itself : (s : Setting) (node : ℕ) (frame : List ℕ) (old new : List (Option Contents)) → IsSetting s → IsTarget (kind_at s.graph node) → IsVisitedBy (s.visit s.graph node) frame old new
    → ((i : ℕ) → AreContents (contents_at old i)) → (i : ℕ) → StaysItself (buffer_at old i) (buffer_at new i)
visited_itself s node frame old new ok target v sound i = by (sum_by (same_one i) frame) refl
  where
    by : (n : ℕ) → sum_by (same_one i) frame ≡ n → StaysItself (buffer_at old i) (buffer_at new i)
    by zero none = itself_same (buffer_at old i) (buffer_at new i) (v.others i (not_among i frame none))
    by (suc n) some =
        let here = among_holds (λ k. buffer_at new k ≡ option_map (after_visit (s.visit s.graph node)) (buffer_at old k)) i frame v.visited (omega (arith, some)) in
        itself_after s node (buffer_at old i) (buffer_at new i) ok target here (sound i)

-- the step of an index in hand is that of its visit
hand_step_of : (s : Setting) (node : ℕ) (o new : Option Contents) (step : Step) → new ≡ option_map (after_visit (s.visit s.graph node)) o
    → option_map (λ c. (s.visit s.graph node c.packet).0) o ≡ Some step
    → (unwrap_or new nothing ≡ after_at s node (unwrap_or o nothing)) × (moved s node (unwrap_or new nothing) step ≡ move_at s node (unwrap_or o nothing))
hand_step_of s node None new step e is = absurd (none-some step is)
hand_step_of s node (Some c) new step e is =
    (ap (λ x. unwrap_or x nothing) e, ap (λ x. moved s node (unwrap_or x nothing) step) e ∙ ap (moved s node c) (sym (same_Some _ step is)))

-- a packet whose visit is noted
on_way_visited : (whole : Sight) (node : ℕ) (old new : Notes) (c after : Contents) (to_come rest : List ℕ) → after.packet.number ≡ c.packet.number → after.legs ≡ c.legs
    → length new ≡ length old → to_come ≡ node ∷ rest
    → (IsSeen whole c → c.packet.number < length old → length (nodes_noted old c) < most_noted → nodes_noted new c ≡ nodes_noted old c ++ node ∷ [])
    → IsOnWay whole old c to_come → IsOnWay whole new after rest
on_way_visited whole node old new c after to_come rest number legs size is more way = λ inside seen.
    let known : c.packet.number < length old = omega (arith, inside, number, size) in
    let leg : leg_place after ≡ leg_place c = ap (λ ls. length ls - 1) legs in
    let seen_c : IsSeen whole c = ap (λ n. whole.of n (leg_place c)) (sym number) ∙ ap (whole.of after.packet.number) (sym leg) ∙ seen in
    let both = way known seen_c in
    let all : nodes_noted old c ++ node ∷ rest ≡ whole.nodes c.packet.number (leg_place c) = ap (λ ns. nodes_noted old c ++ ns) (sym is) ∙ both.0 in
    let sizes = ap length all in
    let most = both.1 in
    let here : nodes_noted new c ≡ nodes_noted old c ++ node ∷ [] = more seen_c known (omega (arith, sizes, most, length-append (nodes_noted old c) (node ∷ rest))) in
    let same : whole.nodes after.packet.number (leg_place after) ≡ whole.nodes c.packet.number (leg_place c) = ap (λ n. whole.nodes n (leg_place after)) number ∙ ap (whole.nodes c.packet.number) leg in (
      ap (λ n. nodes_of n (leg_place after) new ++ rest) number ∙ ap (λ l. nodes_of c.packet.number l new ++ rest) leg ∙ ap (λ ns. ns ++ rest) here
          ∙ append_assoc (nodes_noted old c) (node ∷ []) rest ∙ all ∙ sym same,
      subst (λ ns. length ns < most_noted) (sym same) most,
    )

-- a packet of which nothing is noted
on_way_kept : (whole : Sight) (old new : Notes) (o other : Option Contents) (to_come : Contents → List ℕ) → other ≡ o → length new ≡ length old
    → (IsSeen whole (unwrap_or o nothing) → nodes_noted new (unwrap_or o nothing) ≡ nodes_noted old (unwrap_or o nothing))
    → IsOnWay whole old (unwrap_or o nothing) (to_come (unwrap_or o nothing)) → IsOnWay whole new (unwrap_or other nothing) (to_come (unwrap_or other nothing))
on_way_kept whole old new o other to_come e size same way =
    let c : Contents = unwrap_or o nothing in
    let here : IsOnWay whole new c (to_come c) = on_way_like whole whole old new c (to_come c) size same refl (λ seen. seen) way in
    subst (λ x. IsOnWay whole new (unwrap_or x nothing) (to_come (unwrap_or x nothing))) (sym e) here

-- an index waits wherever it stands in a list of those that wait
at_place : (i n first : ℕ) (pending : List (List ℕ)) → sum_by (same_one i) (get_or pending n []) ≤ sum_from (λ node. same_one i) first pending
at_place i n first [] = omega arith
at_place i zero first (q ∷ qs) = omega arith
at_place i (suc n) first (q ∷ qs) = let e = at_place i n (suc first) qs in omega (arith, e)

-- those that wait once a frame is taken, and those of the frame, waited before
frame_parts : (old new : List (List ℕ)) (node : ℕ) (frame : List ℕ) → TakesFrame old node frame new → (i : ℕ)
    → sum_by (same_one i) (pending_at old node) ≡ sum_by (same_one i) frame + sum_by (same_one i) (drop frame_size (pending_at old node))
frame_parts old new node frame takes i =
    let queue = pending_at old node in
    let parts : queue ≡ frame ++ drop frame_size queue = sym (take-append-drop frame_size queue) ∙ ap (λ xs. xs ++ drop frame_size queue) (sym takes.oldest) in
    ap (sum_by (same_one i)) parts ∙ sum_by-append (same_one i) frame (drop frame_size queue)

waited_before : (old new : List (List ℕ)) (node : ℕ) (frame : List ℕ) → TakesFrame old node frame new → (n i : ℕ)
    → sum_by (same_one i) (pending_at new n) ≤ sum_by (same_one i) (pending_at old n)
waited_before old new node frame takes n i = elim (eqb_tells n node) [
  | inl same ↦
      let rest : List ℕ = drop frame_size (pending_at old node) in
      let now : pending_at new n ≡ rest = ap (λ p. pending_at p n) takes.rest ∙ ap (pending_at (set old node rest)) same.1 ∙ get_or-set_same old node rest [] takes.within in
      let a : sum_by (same_one i) (pending_at new n) ≡ sum_by (same_one i) rest = ap (sum_by (same_one i)) now in
      let b : sum_by (same_one i) (pending_at old n) ≡ sum_by (same_one i) (pending_at old node) = ap (λ k. sum_by (same_one i) (pending_at old k)) same.1 in
      let parts = frame_parts old new node frame takes i in
      omega (arith, a, b, parts)
  | inr other ↦
      let rest : List ℕ = drop frame_size (pending_at old node) in
      let now : sum_by (same_one i) (pending_at new n) ≡ sum_by (same_one i) (pending_at old n) = ap (sum_by (same_one i)) (ap (λ p. pending_at p n) takes.rest ∙ get_or-set_other old node n rest [] other.1) in
      omega (arith, now)
]

live_most : (o : Option Contents) → cond (is_some o) 1 0 ≤ 1
live_most None = omega arith
live_most (Some c) = omega arith

-- another live index has another number or leg
apart_from : (s : Setting) (whole : Sight) (packets : ℕ) (w : Work) (i j : ℕ) → IsTraced s whole packets 0 w [] → IsLive w.memory i → IsLive w.memory j → IsSeen whole (contents_at w.memory i) → j ≢ i
    → IsAnother w.memory (contents_at w.memory i).packet.number (leg_place (contents_at w.memory i)) j
apart_from s whole packets w i j traced live_i live_j seen other = λ number leg. other (sym (traced.apart i j live_i live_j seen number leg))

-- a work in which the visits of a frame are noted
abbrev pub with_noted : ℕ → List ℕ → List (List ℕ) → List (Option Contents) → Tally → Work → Work
with_noted node frame pending memory counts w = record w {
  pending = pending;
  memory = memory;
  counts = counts;
  trace = noted_frame w.memory node frame w.trace;
}

-- the visit of each index of the frame is noted
frame_noted : (s : Setting) (whole : Sight) (packets : ℕ) (w : Work) (node : ℕ) (frame : List ℕ) (pending : List (List ℕ)) → IsHeld s 0 w [] → TakesFrame w.pending node frame pending
    → IsTraced s whole packets 0 w [] → (i : ℕ) → 0 < sum_by (same_one i) frame
    → IsSeen whole (contents_at w.memory i) → (contents_at w.memory i).packet.number < length w.trace → length (nodes_noted w.trace (contents_at w.memory i)) < most_noted
    → nodes_noted (noted_frame w.memory node frame w.trace) (contents_at w.memory i) ≡ nodes_noted w.trace (contents_at w.memory i) ++ node ∷ []
frame_noted s whole packets w node frame pending held takes traced i some seen inside room =
    let live = frame_live s w node frame pending held takes in
    let places = frame_places s w node frame pending held takes i in
    let most : live_at w.memory i ≤ 1 = live_most (buffer_at w.memory i) in
    let few = (held.sound i).few_legs in
    noted_frame_once w.memory node i frame w.trace
    (λ j there. apart_from s whole packets w i j traced (among_holds (IsLive w.memory) i frame live some) (among_holds (IsLive w.memory) j frame live there) seen)
    (omega (arith, some, places, most)) traced.is_notes inside (omega (arith, few)) room

-- nothing is noted of an index that isn't one of the frame
outside_kept : (s : Setting) (whole : Sight) (packets : ℕ) (w : Work) (node : ℕ) (frame : List ℕ) (pending : List (List ℕ)) → IsHeld s 0 w [] → TakesFrame w.pending node frame pending
    → IsTraced s whole packets 0 w [] → (i : ℕ) → IsLive w.memory i → sum_by (same_one i) frame ≡ 0 → IsSeen whole (contents_at w.memory i)
    → nodes_noted (noted_frame w.memory node frame w.trace) (contents_at w.memory i) ≡ nodes_noted w.trace (contents_at w.memory i)
outside_kept s whole packets w node frame pending held takes traced i live none seen =
    let all = frame_live s w node frame pending held takes in
    let c : Contents = contents_at w.memory i in
    noted_frame_other w.memory node c.packet.number (leg_place c) frame w.trace
    (all_among (IsAnother w.memory c.packet.number (leg_place c)) frame
    (λ j some. apart_from s whole packets w i j traced live (among_holds (IsLive w.memory) j frame all some) seen
    (λ e. (let gone : sum_by (same_one j) frame ≡ 0 = ap (λ k. sum_by (same_one k) frame) e ∙ none in absurd (omega (arith, some, gone))))))

live_some : (o : Option Contents) → 0 < cond (is_some o) 1 0 → is_some o ≡ true
live_some None h = absurd (omega (arith, h))
live_some (Some c) h = refl

-- those that still wait
visited_wait : (s : Setting) (whole : Sight) (packets : ℕ) (w : Work) (node : ℕ) (frame : List ℕ) (pending : List (List ℕ)) (memory : List (Option Contents)) → IsHeld s 0 w []
    → TakesFrame w.pending node frame pending → IsVisitedBy (s.visit s.graph node) frame w.memory memory → IsTraced s whole packets 0 w [] → (n i : ℕ) → 0 < sum_by (same_one i) (pending_at pending n)
    → IsOnWay whole (noted_frame w.memory node frame w.trace) (contents_at memory i) (visits_to_come s n (contents_at memory i))
visited_wait s whole packets w node frame pending memory held takes v traced n i some =
    let places : times_waiting i pending + sum_by (same_one i) frame ≡ live_at w.memory i = frame_places s w node frame pending held takes i in
    let waits : sum_by (same_one i) (pending_at pending n) ≤ times_waiting i pending = at_place i n 0 pending in
    let most : live_at w.memory i ≤ 1 = live_most (buffer_at w.memory i) in
    let none : sum_by (same_one i) frame ≡ 0 = omega (arith, places, waits, most, some) in
    let live : IsLive w.memory i = live_some (buffer_at w.memory i) (omega (arith, places, waits, some)) in
    let before = waited_before w.pending pending node frame takes n i in
    on_way_kept whole w.trace (noted_frame w.memory node frame w.trace) (buffer_at w.memory i) (buffer_at memory i) (visits_to_come s n) (v.others i (not_among i frame none))
    (noted_frame_length w.memory node frame w.trace) (outside_kept s whole packets w node frame pending held takes traced i live none) (traced.wait n i (omega (arith, before, some)))

-- those of the frame
visited_in_hand : (s : Setting) (whole : Sight) (packets : ℕ) (w : Work) (node : ℕ) (frame : List ℕ) (pending : List (List ℕ)) (memory : List (Option Contents)) → IsSetting s → IsHeld s 0 w []
    → TakesFrame w.pending node frame pending → IsVisitedBy (s.visit s.graph node) frame w.memory memory → IsTraced s whole packets 0 w [] → (i : ℕ) → 0 < sum_by (same_one i) frame
    → HoldsOfStep
    (λ p. IsOnWay whole (noted_frame w.memory node frame w.trace) (contents_at memory p.0) (visits_after s (contents_at memory p.0) (moved s node (contents_at memory p.0) p.1)))
    (s.visit s.graph node) w.memory i
visited_in_hand s whole packets w node frame pending memory ok held takes v traced i some = λ step is.
    let c : Contents = contents_at w.memory i in
    let notes : Notes = noted_frame w.memory node frame w.trace in
    let target = frame_target s w node frame pending held takes in
    let seen = among_holds (λ k. buffer_at memory k ≡ option_map (after_visit (s.visit s.graph node)) (buffer_at w.memory k)) i frame v.visited some in
    let step_of = hand_step_of s node (buffer_at w.memory i) (buffer_at memory i) step seen is in
    let laws : IsVisitOf s.graph node c.packet (s.visit s.graph node c.packet) = laws_at s node c ok (held.sound i).packet target in
    let parts = frame_parts w.pending pending node frame takes i in
    let before : IsOnWay whole w.trace c (visits_to_come s node c) = traced.wait node i (omega (arith, parts, some)) in
    let after : IsOnWay whole notes (after_at s node c) (visits_after s (after_at s node c) (move_at s node c)) =
    on_way_visited whole node w.trace notes c (after_at s node c) (visits_to_come s node c) (visits_after s (after_at s node c) (move_at s node c)) laws.number refl
    (noted_frame_length w.memory node frame w.trace) (visits_here s node c ok (held.sound i).packet target) (frame_noted s whole packets w node frame pending held takes traced i some) before in
    subst (λ move. IsOnWay whole notes (contents_at memory i) (visits_after s (contents_at memory i) move)) (sym step_of.1)
    (subst (λ x. IsOnWay whole notes x (visits_after s x (move_at s node c))) (sym step_of.0) after)

-- a frame that was taken, noted and visited is in hand
pub traced_visited : (s : Setting) (whole : Sight) (packets : ℕ) (w : Work) (node : ℕ) (frame : List ℕ) (pending : List (List ℕ)) (memory : List (Option Contents)) (counts : Tally) (sorted : Sorted)
    → IsSetting s → IsHeld s 0 w [] → TakesFrame w.pending node frame pending → IsSortedBy (s.visit s.graph node) w.memory frame sorted → IsVisitedBy (s.visit s.graph node) frame w.memory memory
    → IsTraced s whole packets 0 w [] → IsTraced s whole packets node (with_noted node frame pending memory counts w) (hand_of sorted)
traced_visited s whole packets w node frame pending memory counts sorted ok held takes is v traced =
    let target = frame_target s w node frame pending held takes in
    let itself = visited_itself s node frame w.memory memory ok target v held.sound in
    let leg : (i : ℕ) → leg_place (contents_at memory i) ≡ leg_place (contents_at w.memory i) = λ i. ap (λ ls. length ls - 1) (itself i).legs in
    record {
      size = noted_frame_length w.memory node frame w.trace ∙ traced.size;
      is_notes = noted_frame_notes w.memory node frame w.trace traced.is_notes;
      apart = λ i j live_i live_j seen number same.
          traced.apart i j (sym (itself i).live ∙ live_i) (sym (itself j).live ∙ live_j)
          (ap (λ n. whole.of n (leg_place (contents_at w.memory i))) (sym (itself i).number) ∙ ap (whole.of (contents_at memory i).packet.number) (sym (leg i)) ∙ seen) (sym (itself i).number ∙ number ∙ (itself j).number) (sym (leg i) ∙ same ∙ leg j);
      wait = visited_wait s whole packets w node frame pending memory held takes v traced;
      in_hand = all_hand
          (λ (p : ℕ × Step). IsOnWay whole (noted_frame w.memory node frame w.trace) (contents_at memory p.0) (visits_after s (contents_at memory p.0) (moved s node (contents_at memory p.0) p.1)))
          (s.visit s.graph node) w.memory frame sorted is
          (all_among _ frame (visited_in_hand s whole packets w node frame pending memory ok held takes v traced));
      over = λ number l inside seen none.
          let none_before : (i : ℕ) → IsLive w.memory i → (contents_at w.memory i).packet.number ≡ number → leg_place (contents_at w.memory i) ≢ l =
          λ i live same at. none i ((itself i).live ∙ live) ((itself i).number ∙ same) (leg i ∙ at) in
          noted_frame_other w.memory node number l frame w.trace
          (all_among (IsAnother w.memory number l) frame
          (λ i some. λ same at. none_before i (among_holds (IsLive w.memory) i frame (frame_live s w node frame pending held takes) some) (sym same) (sym at)))
          ∙ traced.over number l inside seen none_before;
    }

-- a frame with an index more
noted_frame_push : (memory : List (Option Contents)) (node i : ℕ) (frame : List ℕ) (notes : Notes)
    → noted_frame memory node (frame ++ i ∷ []) notes ≡ noted (contents_at memory i).packet.number (leg_place (contents_at memory i)) node (noted_frame memory node frame notes)
noted_frame_push memory node i [] notes = refl
noted_frame_push memory node i (x ∷ xs) notes = noted_frame_push memory node i xs (noted (contents_at memory x).packet.number (leg_place (contents_at memory x)) node notes)

pub note_more : (w now : Work) (node k : ℕ) (frame : List ℕ) (packet : Contents) (trace : Notes) → k < length frame
    → now ≡ record w { trace = noted_frame w.memory node (take k frame) w.trace } → buffer_at now.memory (get_or frame k 0) ≡ Some packet
    → trace ≡ noted packet.packet.number (leg_place packet) node now.trace
    → record now { memory = set now.memory (get_or frame k 0) (Some packet); trace = trace } ≡ record w { trace = noted_frame w.memory node (take (k + 1) frame) w.trace }
note_more w now node k frame packet trace inside is here noted_is =
    let i : ℕ = get_or frame k 0 in
    let same : set now.memory i (Some packet) ≡ w.memory = ap (set now.memory i) (sym here) ∙ set-get_or now.memory i None ∙ ap (λ (x : Work). x.memory) is in
    let this : packet ≡ contents_at w.memory i = ap (λ o. unwrap_or o nothing) (sym here) ∙ ap (λ (x : Work). contents_at x.memory i) is in
    let notes : trace ≡ noted_frame w.memory node (take (k + 1) frame) w.trace =
    noted_is ∙ ap (λ p. noted p.packet.number (leg_place p) node now.trace) this
    ∙ ap (λ (x : Work). noted (contents_at w.memory i).packet.number (leg_place (contents_at w.memory i)) node x.trace) is
    ∙ sym (noted_frame_push w.memory node i (take k frame) w.trace) ∙ ap (λ f. noted_frame w.memory node f w.trace) (sym (take_more frame k 0 inside)) in
    ap (λ m. record now { memory = m; trace = trace }) same ∙ ap (λ t. record now { memory = w.memory; trace = t }) notes
    ∙ ap (λ (x : Work). record x { memory = w.memory; trace = noted_frame w.memory node (take (k + 1) frame) w.trace }) is

-- where no packet is traced, nothing is noted
both_none : {X : Type 0} (b : Bool) → cond {A = List X} b [] [] ≡ []
both_none true = refl
both_none false = refl

pub noted_frame_none : (memory : List (Option Contents)) (node : ℕ) (frame : List ℕ) → noted_frame memory node frame [] ≡ []
noted_frame_none memory node [] = refl
noted_frame_none memory node (i ∷ frame) =
    let number : ℕ = (contents_at memory i).packet.number in
    ap (noted_frame memory node frame) (both_none (nat_lt number 0 && nat_lt (length (nodes_of number (leg_place (contents_at memory i)) [])) most_noted))
    ∙ noted_frame_none memory node frame

pub note_none : (w : Work) (node : ℕ) (frame : List ℕ) → length w.trace ≤ 0 → w ≡ record w { trace = noted_frame w.memory node frame w.trace }
note_none w node frame none =
    let empty : w.trace ≡ [] = is_empty w.trace none in
    ap (λ t. record w { trace = t }) (empty ∙ sym (noted_frame_none w.memory node frame) ∙ ap (noted_frame w.memory node frame) (sym empty))
  where
    is_empty : (notes : Notes) → length notes ≤ 0 → notes ≡ []
    is_empty [] h = refl
    is_empty (x ∷ xs) h = absurd (omega (arith, h))
