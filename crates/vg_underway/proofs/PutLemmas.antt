-- For the clauses of `Work::{put_apart, group}`: a packet that was visited is put away, so that it waits for another node, or its leg is over.
use Rattle.std.proofs.Common.{◌≡◌, ℕ, suc, ◌+◌, ◌<◌, cond, List, [], ◌∷◌, ◌++◌, length, set, refl, sym, ap, subst, ◌∙◌, inl, inr, arith, zero-add}
use Rattle.std.specs.Prelude.{Option, Some, None, is_some, unwrap_or, slice_index}
use Rattle.std.specs.List.{sum_by, count_by, filter_map, cons_option}
use Rattle.std.specs.Option.{option_to_list}
use Rattle.std.proofs.Math.ListN.{length-set}
use Rattle.std.proofs.lemmas.List.{append-nil, get_or-set_other}
use Rattle.std.proofs.lemmas.List.Sums.{sum_by-cons}
use Rattle.std.proofs.lemmas.Bool.Decides.{eqb_tells}
use Rattle.vg_model.specs.declared.kinds.Step.{Step}
use Rattle.vg_model.specs.declared.fates.End.{End}
use Rattle.vg_model.specs.declared.fates.End.TheVariants as ends
use Rattle.vg_model.specs.declared.fates.Fate.{Fate}
use Rattle.vg_model.specs.Count.{is_drop, is_sent_on}
use Rattle.vg_model.specs.Graph.{Graph, kind_at}
use Rattle.vg_model.specs.Valid.{IsTarget}
use Rattle.vg_model.specs.Leg.{Onward, Over}
use Rattle.vg_pool.specs.Contents.{Contents, AreContents}
use Rattle.vg_frame.specs.Pending.{pending_at, pending_count}
use Rattle.vg_frame.specs.Placed.{buffer_at, count}
use Rattle.vg_frame.proofs.PendingLemmas.{pending_count-put}
use Rattle.vg_counters.specs.Tally.{IsWhole, drops_at}
use Rattle.vg_model.specs.Errors.{error_number}
use Rattle.vg_underway.specs.SentEntries.{sent_by}
use Rattle.vg_underway.specs.declared.underway.Work.{Work}
use Rattle.vg_journeys.specs.Ended.{Ended, fate_of, sent_of, drop_visits}
use Rattle.vg_journeys.specs.Turns.{settled_log, settled_visits}
use Rattle.vg_underway.specs.Underway.{Setting, IsSetting, owed, moved, move_owed, contents_at, live_at, waiting, in_hand, counts_from, nothing}
use Rattle.vg_underway.specs.Places.{same_one, times_waiting, times_in_hand}
use Rattle.vg_underway.specs.Works.{IsHeld, IsSteady, Advances, Finishes, CanCount, EndsHere, IsRightlyRefused, outcome_of, ended_with, settled_with}
use Rattle.vg_underway.proofs.SumLemmas.{sum_from_put, same_one_other}
use Rattle.vg_underway.proofs.OwedLemmas.{target_within}
use Rattle.vg_underway.proofs.CountLemmas.{counted_nodes, counted_interfaces, counted_whole, counted_visits_of, counted_drops_at, counted_drops, counted_sends}
use Rattle.vg_underway.proofs.WorkLemmas.{HasLegs, none_live, waits_nowhere, waiting_kept, in_hand_kept, total_of, room_kept}

-- a work in which an index waits for a node, behind the others
abbrev pub with_waiting : ℕ → ℕ → Work → Work
with_waiting to index w = record w { pending = set w.pending to (pending_at w.pending to ++ index ∷ []) }

-- a packet waits for a node that may be visited
waiting_targets : (g : Graph) (pending : List (List ℕ)) (to index : ℕ) → IsTarget (kind_at g to) → ((n : ℕ) → 0 < length (pending_at pending n) → IsTarget (kind_at g n))
    → (n : ℕ) → 0 < length (pending_at (set pending to (pending_at pending to ++ index ∷ [])) n) → IsTarget (kind_at g n)
waiting_targets g pending to index is all n h =
    elim (eqb_tells n to) [
      | inl same ↦ subst (λ k. IsTarget (kind_at g k)) (sym same.1) is
      | inr other ↦ all n (subst (λ q. 0 < length q) (get_or-set_other pending to n (pending_at pending to ++ index ∷ []) [] other.1) h)
    ]

pub to_within : (s : Setting) (node : ℕ) (w : Work) (hand : List (ℕ × Step)) (to : ℕ) → IsSetting s → IsHeld s node w hand → IsTarget (kind_at s.graph to) → to < length w.pending
to_within s node w hand to ok held target =
    let in_graph = target_within s.graph to target in
    let few = ok.few_nodes in
    let size = held.nodes in
    omega (arith, in_graph, few, size)

put_held : (s : Setting) (node : ℕ) (w : Work) (p : ℕ × Step) (rest : List (ℕ × Step)) (to : ℕ) → IsSetting s → IsHeld s node w (p ∷ rest) → IsTarget (kind_at s.graph to)
    → IsHeld s node (with_waiting to p.0 w) rest
put_held s node w p rest to ok held target =
    let inside = to_within s node w (p ∷ rest) to ok held target in
    record {
      nodes = length-set w.pending to _ ∙ held.nodes;
      places = λ i.
          let all : times_waiting i w.pending + times_in_hand i (p ∷ rest) ≡ live_at w.memory i = held.places i in
          let more : times_waiting i (set w.pending to (pending_at w.pending to ++ p.0 ∷ [])) ≡ times_waiting i w.pending + same_one i p.0 = sum_from_put (λ n. same_one i) 0 w.pending to p.0 inside in
          omega (arith, all, more, sum_by-cons (λ (q : ℕ × Step). same_one i q.0) p rest);
      count_is = (let all : pending_count w.pending + suc (length rest) ≡ count w.memory = held.count_is in let more = pending_count-put w.pending to p.0 inside in omega (arith, all, more));
      few = held.few;
      targets = waiting_targets s.graph w.pending to p.0 target held.targets;
      steps = held.steps.1;
      sound = held.sound;
      legs = held.legs;
      visits = held.visits;
      sends = held.sends;
      whole = held.whole;
      within = held.within;
    }

put_advances : (s : Setting) (node : ℕ) (w : Work) (p : ℕ × Step) (rest : List (ℕ × Step)) (to : ℕ) → IsSetting s → IsHeld s node w (p ∷ rest) → IsTarget (kind_at s.graph to)
    → moved s node (contents_at w.memory p.0) p.1 ≡ Onward (Some to) → Advances s node [] [] w (p ∷ rest) (with_waiting to p.0 w) rest
put_advances s node w p rest to ok held target e =
    let inside = to_within s node w (p ∷ rest) to ok held target in
    record {
      may_be = tt;
      same = λ t.
          let c : Contents = contents_at w.memory p.0 in
          let more : waiting s t w.memory (set w.pending to (pending_at w.pending to ++ p.0 ∷ [])) ≡ waiting s t w.memory w.pending + owed s t (0 + to) c =
          sum_from_put (λ n i. owed s t n (contents_at w.memory i)) 0 w.pending to p.0 inside in
          let same : owed s t (0 + to) c ≡ owed s t to c = ap (λ n. owed s t n c) (zero-add to) in
          let owes : move_owed s t c (moved s node c p.1) ≡ owed s t to c = ap (move_owed s t c) e in
          let cons : in_hand s t node w.memory (p ∷ rest) ≡ move_owed s t c (moved s node c p.1) + in_hand s t node w.memory rest =
          sum_by-cons (λ (q : ℕ × Step). move_owed s t (contents_at w.memory q.0) (moved s node (contents_at w.memory q.0) q.1)) p rest in
          let t1 = total_of s t (with_waiting to p.0 w) [] in let t2 = total_of s t w [] in
          omega (arith, more, same, owes, cons, t1, t2);
      live = refl;
      fates = sym (append-nil w.fates.items);
      sent = sym (append-nil _);
      entries_most = omega arith;
      bytes = omega arith;
      room = (omega arith, omega arith, omega arith);
      size = record { nodes = refl; interfaces = refl };
      visited = omega arith;
      drops = λ n error. omega arith;
      drops_most = λ n error. omega arith;
      sends = λ i. omega arith;
    }

-- a packet that goes on waits for the next node
pub put_steady : (s : Setting) (node : ℕ) (w : Work) (p : ℕ × Step) (rest : List (ℕ × Step)) (to : ℕ) → IsSetting s → IsSteady s node w (p ∷ rest) → IsTarget (kind_at s.graph to)
    → moved s node (contents_at w.memory p.0) p.1 ≡ Onward (Some to) → IsSteady s node (with_waiting to p.0 w) rest × Advances s node [] [] w (p ∷ rest) (with_waiting to p.0 w) rest
put_steady s node w p rest to ok steady target e =
    let a = put_advances s node w p rest to ok steady.held target e in
    (record { held = put_held s node w p rest to ok steady.held target; room = room_kept s node [] w (with_waiting to p.0 w) (p ∷ rest) rest steady.room a }, a)

-- nothing is a packet that may be
pub nothing_sound : AreContents nothing
nothing_sound = record {
  packet = record { bytes = tt; sound = λ e. cc };
  some = omega arith;
  few = omega arith;
  room = omega arith;
  len = omega arith;
  fits = omega arith;
  few_legs = omega arith;
}

finish_held : (s : Setting) (node : ℕ) (w new : Work) (p : ℕ × Step) (rest : List (ℕ × Step)) (end : End) → IsHeld s node w (p ∷ rest) → CanCount end w.counts → Finishes p.0 end w new → IsHeld s node new rest
finish_held s node w new p rest end held can f =
    let nowhere = waits_nowhere s node w p rest held in
    let gone : buffer_at new.memory p.0 ≡ None = f.memory.changed in
    record {
      nodes = ap length f.pending ∙ held.nodes;
      places = λ i.
          let same : times_waiting i new.pending ≡ times_waiting i w.pending = ap (times_waiting i) f.pending in
          elim (eqb_tells i p.0) [
            | inl here ↦
                let none : live_at new.memory i ≡ 0 = ap (live_at new.memory) here.1 ∙ ap (λ o. cond (is_some o) 1 0) gone in
                let first : times_waiting i w.pending ≡ 0 = ap (λ k. times_waiting k w.pending) here.1 ∙ nowhere.0 in
                let second : times_in_hand i rest ≡ 0 = ap (λ k. times_in_hand k rest) here.1 ∙ nowhere.1 in
                omega (arith, same, none, first, second)
            | inr other ↦
                let all : times_waiting i w.pending + times_in_hand i (p ∷ rest) ≡ live_at w.memory i = held.places i in
                let kept : live_at new.memory i ≡ live_at w.memory i = ap (λ o. cond (is_some o) 1 0) (f.memory.others i other.1) in
                let apart : same_one i p.0 ≡ 0 = same_one_other i p.0 (λ x. other.1 (sym x)) in
                omega (arith, same, all, kept, apart, sum_by-cons (λ (q : ℕ × Step). same_one i q.0) p rest)
          ];
      count_is = (let all : pending_count w.pending + suc (length rest) ≡ count w.memory = held.count_is in let less = f.count_is in let same : pending_count new.pending ≡ pending_count w.pending = ap pending_count f.pending in omega (arith, all, less, same));
      few = (let few = held.few in let less = f.count_is in omega (arith, few, less));
      targets = λ n some. held.targets n (subst (λ q. 0 < length (pending_at q n)) f.pending some);
      steps = held.steps.1;
      sound = λ i. elim (eqb_tells i p.0) [
        | inl here ↦ subst (λ o. AreContents (unwrap_or o nothing)) (sym (ap (buffer_at new.memory) here.1 ∙ gone)) nothing_sound
        | inr other ↦ subst (λ o. AreContents (unwrap_or o nothing)) (sym (f.memory.others i other.1)) (held.sound i)
      ];
      legs = λ i live. elim (eqb_tells i p.0) [
        | inl here ↦ absurd (none_live (buffer_at new.memory i) (ap (buffer_at new.memory) here.1 ∙ gone) live)
        | inr other ↦ subst (HasLegs s.generation) (sym (f.memory.others i other.1)) (held.legs i) live
      ];
      visits = ap (λ c. length c.visits) f.counts ∙ counted_nodes end w.counts ∙ held.visits;
      sends = ap (λ c. length c.sends) f.counts ∙ counted_interfaces end w.counts ∙ held.sends;
      whole = subst (λ c. IsWhole c) (sym f.counts) (counted_whole end w.counts can held.whole);
      within = f.within;
    }

to_list_cons : {X : Type 0} (o : Option X) → option_to_list o ≡ cons_option o []
to_list_cons None = refl
to_list_cons (Some x) = refl

-- what a packet with an end of its own comes to
pub settled_logged : (end : End) (c : Contents) → settled_log (settled_with end c) ≡ Some (fate_of (ended_with end c))
settled_logged (ends.Tx interface) c = refl
settled_logged (ends.Dropped node error) c = refl

pub settled_unvisited : (end : End) (c : Contents) → settled_visits (settled_with end c) ≡ []
settled_unvisited (ends.Tx interface) c = refl
settled_unvisited (ends.Dropped node error) c = refl

pub settled_here : (end : End) (c : Contents) → EndsHere (settled_with end c)
settled_here (ends.Tx interface) c = (tt, refl)
settled_here (ends.Dropped node error) c = (tt, refl)

settled_rightly : (end : End) (c : Contents) → IsRightlyRefused (settled_with end c)
settled_rightly (ends.Tx interface) c = refl
settled_rightly (ends.Dropped node error) c = refl

finish_advances : (s : Setting) (node : ℕ) (w new : Work) (p : ℕ × Step) (rest : List (ℕ × Step)) (end : End) → IsHeld s node w (p ∷ rest) → CanCount end w.counts → Finishes p.0 end w new
    → moved s node (contents_at w.memory p.0) p.1 ≡ Over (outcome_of end) → Advances s node [] (settled_with end (contents_at w.memory p.0) ∷ []) w (p ∷ rest) new rest
finish_advances s node w new p rest end held can f e =
    let nowhere = waits_nowhere s node w p rest held in
    let c : Contents = contents_at w.memory p.0 in
    let last : Ended = ended_with end c in
    let logs : filter_map settled_log (settled_with end c ∷ []) ≡ fate_of last ∷ [] = ap (λ o. cons_option o []) (settled_logged end c) in
    let unvisited = settled_unvisited end c in
    record {
      may_be = (settled_rightly end c, tt);
      same = λ t.
          let apart_waiting : (i : ℕ) → 0 < times_waiting i w.pending → buffer_at new.memory i ≡ buffer_at w.memory i =
          λ i some. f.memory.others i (λ here. let none : times_waiting i w.pending ≡ 0 = ap (λ k. times_waiting k w.pending) here ∙ nowhere.0 in absurd (omega (arith, some, none))) in
          let apart_hand : (i : ℕ) → 0 < times_in_hand i rest → buffer_at new.memory i ≡ buffer_at w.memory i =
          λ i some. f.memory.others i (λ here. let none : times_in_hand i rest ≡ 0 = ap (λ k. times_in_hand k rest) here ∙ nowhere.1 in absurd (omega (arith, some, none))) in
          let w1 : waiting s t new.memory new.pending ≡ waiting s t w.memory w.pending = ap (waiting s t new.memory) f.pending ∙ waiting_kept s t w.memory new.memory w.pending apart_waiting in
          let h1 : in_hand s t node new.memory rest ≡ in_hand s t node w.memory rest = in_hand_kept s t node w.memory new.memory rest apart_hand in
          let v1 : counts_from t.visits 0 new.counts.visits ≡ counts_from t.visits 0 w.counts.visits + sum_by t.visits (drop_visits (outcome_of end)) =
          ap (λ x. counts_from t.visits 0 x.visits) f.counts ∙ counted_visits_of t.visits end w.counts can in
          let owes : move_owed s t c (moved s node c p.1) ≡ sum_by t.visits (drop_visits (outcome_of end)) + t.ends last = ap (move_owed s t c) e in
          let cons : in_hand s t node w.memory (p ∷ rest) ≡ move_owed s t c (moved s node c p.1) + in_hand s t node w.memory rest =
          sum_by-cons (λ (q : ℕ × Step). move_owed s t (contents_at w.memory q.0) (moved s node (contents_at w.memory q.0) q.1)) p rest in
          let t1 = total_of s t new (last ∷ []) in
          let t2 = total_of s t w [] in
          let none = ap (sum_by t.visits) unvisited in
          omega (arith, w1, h1, v1, owes, cons, t1, t2, none);
      live = (let less = f.count_is in omega (arith, less));
      fates = f.fates ∙ ap (λ xs. w.fates.items ++ xs) (sym logs);
      sent = f.sent ∙ ap (λ xs. sent_by w.entries.items w.bytes.items ++ xs) (to_list_cons (sent_of last));
      entries_most = f.entries;
      bytes = (let e1 = f.bytes in omega (arith, e1));
      room = f.room;
      size = record { nodes = ap (λ x. length x.visits) f.counts ∙ counted_nodes end w.counts; interfaces = ap (λ x. length x.sends) f.counts ∙ counted_interfaces end w.counts };
      visited =
          (let v1 : counts_from (λ n. 1) 0 new.counts.visits ≡ counts_from (λ n. 1) 0 w.counts.visits + sum_by (λ n. 1) (drop_visits (outcome_of end)) =
          ap (λ x. counts_from (λ n. 1) 0 x.visits) f.counts ∙ counted_visits_of (λ n. 1) end w.counts can in
          let none = ap (sum_by (λ n. 1)) unvisited in
          omega (arith, v1, none));
      drops = λ n error. (let d = ap (λ x. drops_at n (error_number error) x.drops) f.counts ∙ counted_drops end w.counts n error can held.whole in let e = ap (count_by (λ (g : Fate). is_drop n error g.end)) logs in omega (arith, d, e));
      drops_most = λ n x. (let same = ap (λ y. drops_at n x y.drops) f.counts in let most = counted_drops_at end w.counts n x can held.whole in omega (arith, same, most));
      sends = λ i. (let d = ap (λ x. slice_index x.sends i) f.counts ∙ counted_sends end w.counts i can in let e = ap (count_by (λ (g : Fate). is_sent_on i g.end)) logs in omega (arith, d, e));
    }

-- a packet whose leg is over is taken out
pub finish_steady : (s : Setting) (node : ℕ) (w new : Work) (p : ℕ × Step) (rest : List (ℕ × Step)) (end : End) → IsSteady s node w (p ∷ rest) → CanCount end w.counts → Finishes p.0 end w new
    → moved s node (contents_at w.memory p.0) p.1 ≡ Over (outcome_of end) → IsSteady s node new rest × Advances s node [] (settled_with end (contents_at w.memory p.0) ∷ []) w (p ∷ rest) new rest
finish_steady s node w new p rest end steady can f e =
    let a = finish_advances s node w new p rest end steady.held can f e in
    (record { held = finish_held s node w new p rest end steady.held can f; room = room_kept s node (settled_with end (contents_at w.memory p.0) ∷ []) w new (p ∷ rest) rest steady.room a }, a)
