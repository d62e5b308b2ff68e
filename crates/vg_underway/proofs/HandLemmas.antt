-- For the clause `handed` of `Work::hand_over`: packets are handed over one by one.
use Rattle.std.proofs.Common.{◌≡◌, ◌≢◌, ℕ, suc, ◌+◌, ◌<◌, ◌≤◌, ◌&&◌, Bool, true, false, cond, List, [], ◌∷◌, ◌++◌, length, length-append, refl, sym, ap, subst, ◌∙◌, inl, inr, arith}
use Rattle.std.specs.Prelude.{Option, Some, None, is_some, unwrap_or, slice_index, flat_map, vec_len, vec_capacity, ◌==◌, if◌then◌else◌}
use Rattle.std.specs.List.{sum_by}
use Rattle.std.proofs.Math.Nat.{mod-eq_of_lt}
use Rattle.std.proofs.lemmas.List.{append-nil}
use Rattle.std.proofs.lemmas.List.Sums.{sum_by-cons}
use Rattle.std.proofs.lemmas.Bool.{cond_both, and_parts, eqb-true, ne_eqb, eq-eqb}
use Rattle.std.proofs.lemmas.Bool.Decides.{eqb_tells}
use Rattle.vg_model.specs.declared.kinds.DropError.TheVariants.{Congestion, HandoffLimit}
use Rattle.vg_model.specs.declared.kinds.Step.{Step}
use Rattle.vg_model.specs.declared.kinds.Step.TheVariants.{Hand}
use Rattle.vg_model.specs.declared.fates.End.{End}
use Rattle.vg_model.specs.declared.fates.End.TheVariants as ends
use Rattle.vg_model.specs.Errors.{error_number}
use Rattle.vg_model.specs.Graph.{arc}
use Rattle.vg_model.specs.Leg.{Onward, Over}
use Rattle.vg_model.specs.Leg as legs
use Rattle.vg_pool.specs.Contents.{Contents, AreContents}
use Rattle.vg_frame.specs.Pending.{pending_at, pending_count}
use Rattle.vg_frame.specs.Placed.{buffer_at, count, Changes}
use Rattle.vg_counters.specs.Notes.{most_noted}
use Rattle.vg_counters.specs.Tally.{IsWhole, drops_at}
use Rattle.vg_journeys.specs.Ended.{Ended, drop_visits}
use Rattle.vg_journeys.specs.Turns.{Settled, settled_noted}
use Rattle.vg_underway.specs.declared.underway.Work.{Work}
use Rattle.vg_underway.specs.SentEntries.{sent_by, AreWithin}
use Rattle.vg_underway.specs.Underway.{Setting, Weights, moved, move_owed, contents_at, live_at, waiting, in_hand, counts_from, nothing}
use Rattle.vg_underway.specs.Places.{same_one, times_waiting, times_in_hand}
use Rattle.vg_underway.specs.Traced.{Sight, IsSeen, StayTraced, leg_place, nodes_noted, noted_end, visits_after}
use Rattle.vg_underway.specs.Works.{IsHeld, IsSteady, Advances, CanCount, counted_end}
use Rattle.vg_underway.specs.Hands.{Refuses, refusal}
use Rattle.vg_underway.proofs.SumLemmas.{same_one_other}
use Rattle.vg_underway.proofs.CountLemmas.{counted_nodes, counted_interfaces, counted_whole, counted_visits_of, counted_drops_at, counted_drops, counted_sends}
use Rattle.vg_underway.proofs.WorkLemmas.{HasLegs, none_live, waits_nowhere, waiting_kept, in_hand_kept, total_of, room_kept}
use Rattle.vg_underway.proofs.KeptLemmas.{drop_visits_most}
use Rattle.vg_underway.proofs.PutLemmas.{nothing_sound}
use Rattle.vg_underway.proofs.TraceLemmas.{traced_out}

-- a packet that a node hands to a worker, and maybe how many frames its queue had accepted as it refused it
abbrev pub handed_settled : (node to : ℕ) → Contents → Option ℕ → Settled
handed_settled node to c refused = record { ended = record { outcome = legs.Handed node to; contents = c }; refused = refused }

-- a step that hands a packet to another worker does so before its fourth leg
pub hands_to : (s : Setting) (node to : ℕ) (c : Contents) → to < s.workers → to ≢ s.worker → length c.legs ≤ 3 → moved s node c (Hand to) ≡ Over (legs.Handed node to)
hands_to s node to c within other few =
    ap (λ target. if target == s.worker then Onward (arc s.graph node 0) else if length c.legs == 4 then Over (legs.Dropped node HandoffLimit) else Over (legs.Handed node target)) (mod-eq_of_lt within)
    ∙ ap (λ b. if b then Onward (arc s.graph node 0) else if length c.legs == 4 then Over (legs.Dropped node HandoffLimit) else Over (legs.Handed node to)) (ne_eqb to s.worker other)
    ∙ ap (λ b. if b then Over (legs.Dropped node HandoffLimit) else Over (legs.Handed node to)) (ne_eqb (length c.legs) 4 (λ e. absurd (omega (arith, few, e))))

-- a packet in hand is out of the memory, and nothing is under way but the others
pub record IsGone (index : ℕ) (old new : Work) : Type 0 where
  pub memory : Changes old.memory new.memory index None
  pub count_is : count new.memory + 1 ≡ count old.memory
  pub pending : new.pending ≡ old.pending

gone_held : (s : Setting) (node : ℕ) (w new : Work) (p : ℕ × Step) (rest : List (ℕ × Step)) → IsHeld s node w (p ∷ rest) → IsGone p.0 w new → length new.counts.visits ≡ length w.counts.visits
    → length new.counts.sends ≡ length w.counts.sends → IsWhole new.counts → AreWithin new.entries.items new.bytes.items → IsHeld s node new rest
gone_held s node w new p rest held f visits sends whole within =
    let nowhere = waits_nowhere s node w p rest held in
    let gone : buffer_at new.memory p.0 ≡ None = f.memory.changed in
    record {
      nodes = ap length f.pending ∙ held.nodes;
      places = λ i.
          let same : times_waiting i new.pending ≡ times_waiting i w.pending = ap (times_waiting i) f.pending in
          elim (eqb_tells i p.0) [
            | inl here ↦
                let none : live_at new.memory i ≡ 0 = ap (live_at new.memory) here.1 ∙ ap (λ o. cond (is_some o) 1 0) gone in
                let first : times_waiting i w.pending ≡ 0 = ap (λ k. times_waiting k w.pending) here.1 ∙ nowhere.0 in
                let second : times_in_hand i rest ≡ 0 = ap (λ k. times_in_hand k rest) here.1 ∙ nowhere.1 in
                omega (arith, same, none, first, second)
            | inr other ↦
                let all : times_waiting i w.pending + times_in_hand i (p ∷ rest) ≡ live_at w.memory i = held.places i in
                let kept : live_at new.memory i ≡ live_at w.memory i = ap (λ o. cond (is_some o) 1 0) (f.memory.others i other.1) in
                let apart : same_one i p.0 ≡ 0 = same_one_other i p.0 (λ x. other.1 (sym x)) in
                omega (arith, same, all, kept, apart, sum_by-cons (λ (q : ℕ × Step). same_one i q.0) p rest)
          ];
      count_is = (let all : pending_count w.pending + suc (length rest) ≡ count w.memory = held.count_is in let less = f.count_is in let same : pending_count new.pending ≡ pending_count w.pending = ap pending_count f.pending in omega (arith, all, less, same));
      few = (let few = held.few in let less = f.count_is in omega (arith, few, less));
      targets = λ n some. held.targets n (subst (λ q. 0 < length (pending_at q n)) f.pending some);
      steps = held.steps.1;
      sound = λ i. elim (eqb_tells i p.0) [
        | inl here ↦ subst (λ o. AreContents (unwrap_or o nothing)) (sym (ap (buffer_at new.memory) here.1 ∙ gone)) nothing_sound
        | inr other ↦ subst (λ o. AreContents (unwrap_or o nothing)) (sym (f.memory.others i other.1)) (held.sound i)
      ];
      legs = λ i live. elim (eqb_tells i p.0) [
        | inl here ↦ absurd (none_live (buffer_at new.memory i) (ap (buffer_at new.memory) here.1 ∙ gone) live)
        | inr other ↦ subst (HasLegs s.generation) (sym (f.memory.others i other.1)) (held.legs i) live
      ];
      visits = visits ∙ held.visits;
      sends = sends ∙ held.sends;
      whole = whole;
      within = within;
    }

-- what is counted and still to be counted without it
record IsLess (s : Setting) (node : ℕ) (t : Weights) (w new : Work) (rest : List (ℕ × Step)) : Type 0 where
  pub wait : waiting s t new.memory new.pending ≡ waiting s t w.memory w.pending
  pub hand : in_hand s t node new.memory rest ≡ in_hand s t node w.memory rest

less_of : (s : Setting) (node : ℕ) (t : Weights) (w new : Work) (p : ℕ × Step) (rest : List (ℕ × Step)) → IsHeld s node w (p ∷ rest) → IsGone p.0 w new → IsLess s node t w new rest
less_of s node t w new p rest held f =
    let nowhere = waits_nowhere s node w p rest held in
    record {
      wait = ap (waiting s t new.memory) f.pending ∙ waiting_kept s t w.memory new.memory w.pending
          (λ i some. f.memory.others i (λ here. let none : times_waiting i w.pending ≡ 0 = ap (λ k. times_waiting k w.pending) here ∙ nowhere.0 in absurd (omega (arith, some, none))));
      hand = in_hand_kept s t node w.memory new.memory rest
          (λ i some. f.memory.others i (λ here. let none : times_in_hand i rest ≡ 0 = ap (λ k. times_in_hand k rest) here ∙ nowhere.1 in absurd (omega (arith, some, none))));
    }

-- a packet that goes on in a frame
accepted_advances : (s : Setting) (node to : ℕ) (w new : Work) (p : ℕ × Step) (rest : List (ℕ × Step)) → IsHeld s node w (p ∷ rest) → IsGone p.0 w new → new ≡ record w { memory = new.memory }
    → moved s node (contents_at w.memory p.0) p.1 ≡ Over (legs.Handed node to) → Advances s node [] (handed_settled node to (contents_at w.memory p.0) None ∷ []) w (p ∷ rest) new rest
accepted_advances s node to w new p rest held f is e =
    let c : Contents = contents_at w.memory p.0 in
    let last : Ended = record { outcome = legs.Handed node to; contents = c } in
    record {
      same = λ t.
          let less = less_of s node t w new p rest held f in
          let w1 = less.wait in let h1 = less.hand in
          let v1 : counts_from t.visits 0 new.counts.visits ≡ counts_from t.visits 0 w.counts.visits = ap (λ (x : Work). counts_from t.visits 0 x.counts.visits) is in
          let owes : move_owed s t c (moved s node c p.1) ≡ 0 + t.ends last = ap (move_owed s t c) e in
          let cons : in_hand s t node w.memory (p ∷ rest) ≡ move_owed s t c (moved s node c p.1) + in_hand s t node w.memory rest =
          sum_by-cons (λ (q : ℕ × Step). move_owed s t (contents_at w.memory q.0) (moved s node (contents_at w.memory q.0) q.1)) p rest in
          let t1 = total_of s t new (last ∷ []) in
          let t2 = total_of s t w [] in
          omega (arith, w1, h1, v1, owes, cons, t1, t2);
      may_be = (tt, tt);
      live = (let less = f.count_is in omega (arith, less));
      fates = ap (λ (x : Work). x.fates.items) is ∙ sym (append-nil w.fates.items);
      sent = ap (λ (x : Work). sent_by x.entries.items x.bytes.items) is ∙ sym (append-nil _);
      entries_most = (let k = ap (λ (x : Work). vec_len x.entries) is in omega (arith, k));
      bytes = (let k = ap (λ (x : Work). vec_len x.bytes) is in omega (arith, k));
      room = ((let k = ap (λ (x : Work). x.fates.room) is in omega (arith, k)), (let k = ap (λ (x : Work). vec_capacity x.entries) is in omega (arith, k)), (let k = ap (λ (x : Work). vec_capacity x.bytes) is in omega (arith, k)));
      size = record { nodes = ap (λ (x : Work). length x.counts.visits) is; interfaces = ap (λ (x : Work). length x.counts.sends) is };
      visited = (let k = ap (λ (x : Work). counts_from (λ n. 1) 0 x.counts.visits) is in omega (arith, k));
      drops = λ n error. (let k = ap (λ (x : Work). drops_at n (error_number error) x.counts.drops) is in omega (arith, k));
      drops_most = λ n x. (let k = ap (λ (y : Work). drops_at n x y.counts.drops) is in omega (arith, k));
      sends = λ i. (let k = ap (λ (x : Work). slice_index x.counts.sends i) is in omega (arith, k));
    }

-- a packet that is dropped, since a queue refused its frame: out of the memory, and logged
refused_advances : (s : Setting) (node to accepted : ℕ) (w v new : Work) (p : ℕ × Step) (rest : List (ℕ × Step)) → IsHeld s node w (p ∷ rest) → IsGone p.0 w new → v ≡ record w { memory = v.memory }
    → Refuses node accepted (contents_at w.memory p.0) v new → CanCount (ends.Dropped node Congestion) w.counts → moved s node (contents_at w.memory p.0) p.1 ≡ Over (legs.Handed node to)
    → Advances s node [] (handed_settled node to (contents_at w.memory p.0) (Some accepted) ∷ []) w (p ∷ rest) new rest
refused_advances s node to accepted w v new p rest held f is refused can e =
    let c : Contents = contents_at w.memory p.0 in
    let end : End = ends.Dropped node Congestion in
    let last : Ended = record { outcome = legs.Handed node to; contents = c } in
    let counts : new.counts ≡ counted_end end w.counts = ap (λ (x : Work). x.counts) refused.rest ∙ ap (λ (x : Work). counted_end end x.counts) is in
    record {
      same = λ t.
          let less = less_of s node t w new p rest held f in
          let w1 = less.wait in let h1 = less.hand in
          let v1 : counts_from t.visits 0 new.counts.visits ≡ counts_from t.visits 0 w.counts.visits + sum_by t.visits (drop_visits (legs.Dropped node Congestion)) =
          ap (λ x. counts_from t.visits 0 x.visits) counts ∙ counted_visits_of t.visits end w.counts can in
          let owes : move_owed s t c (moved s node c p.1) ≡ 0 + t.ends last = ap (move_owed s t c) e in
          let cons : in_hand s t node w.memory (p ∷ rest) ≡ move_owed s t c (moved s node c p.1) + in_hand s t node w.memory rest =
          sum_by-cons (λ (q : ℕ × Step). move_owed s t (contents_at w.memory q.0) (moved s node (contents_at w.memory q.0) q.1)) p rest in
          let t1 = total_of s t new (last ∷ []) in
          let t2 = total_of s t w [] in
          omega (arith, w1, h1, v1, owes, cons, t1, t2);
      may_be = (tt, tt);
      live = (let less = f.count_is in omega (arith, less));
      fates = refused.fates ∙ ap (λ (x : Work). x.fates.items ++ refusal node accepted c ∷ []) is;
      sent = ap (λ (x : Work). sent_by x.entries.items x.bytes.items) refused.rest ∙ ap (λ (x : Work). sent_by x.entries.items x.bytes.items) is ∙ sym (append-nil _);
      entries_most = (let k = ap (λ (x : Work). vec_len x.entries) refused.rest ∙ ap (λ (x : Work). vec_len x.entries) is in omega (arith, k));
      bytes = (let k = ap (λ (x : Work). vec_len x.bytes) refused.rest ∙ ap (λ (x : Work). vec_len x.bytes) is in omega (arith, k));
      room = (
        (let k = refused.room ∙ ap (λ (x : Work). x.fates.room) is in omega (arith, k)),
        (let k = ap (λ (x : Work). vec_capacity x.entries) refused.rest ∙ ap (λ (x : Work). vec_capacity x.entries) is in omega (arith, k)),
        (let k = ap (λ (x : Work). vec_capacity x.bytes) refused.rest ∙ ap (λ (x : Work). vec_capacity x.bytes) is in omega (arith, k)),
      );
      size = record { nodes = ap (λ x. length x.visits) counts ∙ counted_nodes end w.counts; interfaces = ap (λ x. length x.sends) counts ∙ counted_interfaces end w.counts };
      visited =
          (let v1 : counts_from (λ n. 1) 0 new.counts.visits ≡ counts_from (λ n. 1) 0 w.counts.visits + sum_by (λ n. 1) (drop_visits (legs.Dropped node Congestion)) =
          ap (λ x. counts_from (λ n. 1) 0 x.visits) counts ∙ counted_visits_of (λ n. 1) end w.counts can in
          omega (arith, v1));
      drops = λ n error. (let d = ap (λ x. drops_at n (error_number error) x.drops) counts ∙ counted_drops end w.counts n error can held.whole in omega (arith, d));
      drops_most = λ n x. (let same = ap (λ y. drops_at n x y.drops) counts in let most = counted_drops_at end w.counts n x can held.whole in omega (arith, same, most));
      sends = λ i. (let d = ap (λ x. slice_index x.sends i) counts ∙ counted_sends end w.counts i can in omega (arith, d));
    }

-- what is told of a packet's nodes as it goes on
pub record Passes (s : Setting) (node : ℕ) (settled : List Settled) (old : Work) (old_hand : List (ℕ × Step)) (new : Work) (new_hand : List (ℕ × Step)) : Type 0 where
  pub steady : IsSteady s node new new_hand
  pub advances : Advances s node [] settled old old_hand new new_hand
  pub traced : StayTraced s node settled old old_hand new new_hand

none_either : (b : Bool) → ◌≡◌ {A = List ℕ} (cond b [] []) []
none_either true = refl
none_either false = refl

pub accepted_passes : (s : Setting) (node to : ℕ) (w new : Work) (p : ℕ × Step) (rest : List (ℕ × Step)) → IsSteady s node w (p ∷ rest) → IsGone p.0 w new → new ≡ record w { memory = new.memory }
    → moved s node (contents_at w.memory p.0) p.1 ≡ Over (legs.Handed node to) → Passes s node (handed_settled node to (contents_at w.memory p.0) None ∷ []) w (p ∷ rest) new rest
accepted_passes s node to w new p rest steady f is e =
    let c : Contents = contents_at w.memory p.0 in
    let a = accepted_advances s node to w new p rest steady.held f is e in
    let counts = ap (λ (x : Work). x.counts) is in
    record {
      steady = record {
        held = gone_held s node w new p rest steady.held f (ap (λ x. length x.visits) counts) (ap (λ x. length x.sends) counts) (subst IsWhole (sym counts) steady.held.whole)
            (subst (λ (x : Work). AreWithin x.entries.items x.bytes.items) (sym is) steady.held.within);
        room = room_kept s node (handed_settled node to c None ∷ []) w new (p ∷ rest) rest steady.room a;
      };
      advances = a;
      traced = λ whole packets traced.
          traced_out s whole (λ n l. whole.nodes n l ++ flat_map (settled_noted n l) (handed_settled node to c None ∷ [])) packets node w new p rest (ends.Tx 0) steady.held
          (record { memory = f.memory; pending = f.pending; trace = ap (λ (x : Work). x.trace) is })
          (λ n l apart. nothing_noted whole n l c)
          (λ known seen.
          let way = (subst (λ move. (c.packet.number < length w.trace → IsSeen whole c → (nodes_noted w.trace c ++ visits_after s c move ≡ whole.nodes c.packet.number (leg_place c)) × (length (whole.nodes c.packet.number (leg_place c)) < most_noted))) e traced.in_hand.0) known seen in
          let same = nothing_noted whole c.packet.number (leg_place c) c in
          (way.0 ∙ same, subst (λ ns. length ns ≤ most_noted) same (let most = way.1 in omega (arith, most))))
          traced;
    }
  where
    nothing_noted : (whole : Sight) (n l : ℕ) (c : Contents) → whole.nodes n l ≡ whole.nodes n l ++ flat_map (settled_noted n l) (handed_settled node to c None ∷ [])
    nothing_noted whole n l c = sym (ap (λ ns. whole.nodes n l ++ (ns ++ [])) (none_either (c.packet.number == n && length c.legs == suc l)) ∙ append-nil (whole.nodes n l))

-- the visit that a refusal brings, for its own number and leg, and for others
refusal_own : (node to accepted : ℕ) (c : Contents) → 1 ≤ length c.legs
    → flat_map (settled_noted c.packet.number (leg_place c)) (handed_settled node to c (Some accepted) ∷ []) ≡ drop_visits (legs.Dropped node Congestion)
refusal_own node to accepted c some =
    ap (λ b. (if b && length c.legs == suc (leg_place c) then drop_visits (legs.Dropped node Congestion) else []) ++ []) (eq-eqb c.packet.number c.packet.number refl)
    ∙ ap (λ b. (if b then drop_visits (legs.Dropped node Congestion) else []) ++ []) (eq-eqb (length c.legs) (suc (leg_place c)) (omega (arith, some)))
    ∙ append-nil (drop_visits (legs.Dropped node Congestion))

refusal_other : (node to accepted n l : ℕ) (c : Contents) → (n ≡ c.packet.number → l ≡ leg_place c → ⊥) → flat_map (settled_noted n l) (handed_settled node to c (Some accepted) ∷ []) ≡ []
refusal_other node to accepted n l c apart =
    cond_both (c.packet.number == n && length c.legs == suc l) (drop_visits (legs.Dropped node Congestion)) [] (λ (ns : List ℕ). ns ++ [] ≡ [])
    (λ both. let parts = and_parts (c.packet.number == n) (length c.legs == suc l) both in let place = eqb-true (length c.legs) (suc l) parts.1 in
    absurd (apart (sym (eqb-true c.packet.number n parts.0)) (omega (arith, place)))) (λ no. refl)

pub refused_passes : (s : Setting) (node to accepted : ℕ) (w v new : Work) (p : ℕ × Step) (rest : List (ℕ × Step)) → IsSteady s node w (p ∷ rest) → IsGone p.0 w new → v ≡ record w { memory = v.memory }
    → Refuses node accepted (contents_at w.memory p.0) v new → CanCount (ends.Dropped node Congestion) w.counts → 1 ≤ length (contents_at w.memory p.0).legs → moved s node (contents_at w.memory p.0) p.1 ≡ Over (legs.Handed node to)
    → Passes s node (handed_settled node to (contents_at w.memory p.0) (Some accepted) ∷ []) w (p ∷ rest) new rest
refused_passes s node to accepted w v new p rest steady f is refused can some e =
    let c : Contents = contents_at w.memory p.0 in
    let end : End = ends.Dropped node Congestion in
    let a = refused_advances s node to accepted w v new p rest steady.held f is refused can e in
    let counts : new.counts ≡ counted_end end w.counts = ap (λ (x : Work). x.counts) refused.rest ∙ ap (λ (x : Work). counted_end end x.counts) is in
    record {
      steady = record {
        held = gone_held s node w new p rest steady.held f (ap (λ x. length x.visits) counts ∙ counted_nodes end w.counts) (ap (λ x. length x.sends) counts ∙ counted_interfaces end w.counts)
            (subst IsWhole (sym counts) (counted_whole end w.counts can steady.held.whole))
            (subst (λ (x : Work). AreWithin x.entries.items x.bytes.items) (sym refused.rest) (subst (λ (x : Work). AreWithin x.entries.items x.bytes.items) (sym is) steady.held.within));
        room = room_kept s node (handed_settled node to c (Some accepted) ∷ []) w new (p ∷ rest) rest steady.room a;
      };
      advances = a;
      traced = λ whole packets traced.
          traced_out s whole (λ n l. whole.nodes n l ++ flat_map (settled_noted n l) (handed_settled node to c (Some accepted) ∷ [])) packets node w new p rest end steady.held
          (record { memory = f.memory; pending = f.pending; trace = ap (λ (x : Work). x.trace) refused.rest ∙ ap (λ (x : Work). noted_end c.packet.number (leg_place c) end x.trace) is })
          (λ n l apart. sym (ap (λ ns. whole.nodes n l ++ ns) (refusal_other node to accepted n l c apart) ∙ append-nil (whole.nodes n l)))
          (λ known seen.
          let way = (subst (λ move. (c.packet.number < length w.trace → IsSeen whole c → (nodes_noted w.trace c ++ visits_after s c move ≡ whole.nodes c.packet.number (leg_place c)) × (length (whole.nodes c.packet.number (leg_place c)) < most_noted))) e traced.in_hand.0) known seen in
          let own = refusal_own node to accepted c some in
          let visits : List ℕ = drop_visits (legs.Dropped node Congestion) in
          let most = way.1 in
          let few = drop_visits_most (legs.Dropped node Congestion) in (
            ap (λ ns. ns ++ visits) (sym (append-nil (nodes_noted w.trace c)) ∙ way.0) ∙ ap (λ ns. whole.nodes c.packet.number (leg_place c) ++ ns) (sym own),
            subst (λ ns. length (whole.nodes c.packet.number (leg_place c) ++ ns) ≤ most_noted) (sym own) (let size = length-append (whole.nodes c.packet.number (leg_place c)) visits in omega (arith, size, most, few)),
          ))
          traced;
    }
