-- For the clauses of `take_leg` and `go_on`: a packet that goes on under one generation.
use Rattle.std.proofs.Common.{◌≡◌, ℕ, zero, suc, ◌+◌, ◌<◌, ◌≤◌, Bool, true, false, List, [], ◌∷◌, ◌++◌, length, map, take, drop, refl, sym, ap, subst, ◌∙◌, inl, inr, arith, add-one}
use Rattle.std.specs.Prelude.{◌⊎◌, Some, None, option_map, slice_get, ◌%◌, Result, Ok, Err, IfOk}
use Rattle.std.specs.List.{AllByRecursion}
use Rattle.std.proofs.lemmas.List.{length-take-le, take_all}
use Rattle.std.proofs.lemmas.Option.{none-some, same_Some, slice_get_within, slice_get-map}
use Rattle.vg_model.specs.Packet.{Packet, fresh}
use Rattle.vg_model.specs.Edit.{most_nodes, most_interfaces}
use Rattle.vg_model.specs.Graph.{Graph}
use Rattle.vg_model.specs.Leg.{Outcome, Sent, Dropped, Handed}
use Rattle.vg_model.specs.Journey.{Choice, Course, started, goes_together, first_leg, handed_over}
use Rattle.vg_model.specs.Valid.{IsValid, IsKindSet, AreBytes}
use Rattle.vg_model.proofs.LegEnds.{all_at}
use Rattle.vg_plan.specs.Plan.{IsGeneration}
use Rattle.vg_report.specs.declared.reports.PacketLine.{PacketLine}
use Rattle.vg_replay.specs.Courses.{IsLike, MayBegin, GoesOn, MayGoOn, next_leg}
use Rattle.vg_replay.specs.Legs.{IsUnlessDropped}
use Rattle.vg_replay.specs.Tasks.{Task, choice_of}
use Rattle.vg_replay.specs.Trips.{IsKeptOf, IsSoFar, IsKept, StandsAt, next_generation}
use Rattle.vg_replay.specs.Walks.{IsHere, IsLost, IsWalked, MayWalk, IsGoneOn}
use Rattle.vg_replay.proofs.CourseLemmas.{course_legs, first_so_far, first_none, more_so_far, more_none, no_journey, journey_is, journey_apart}
use Rattle.vg_replay.proofs.InsideLemmas.{IsBounded, course_inside}

-- a task whose visits keep the laws, whose graphs are valid and keep the limits, and that has a worker
pub record IsSound (task : Task) : Type 0 where
  pub kinds : IsKindSet task.visit
  pub graphs : AllByRecursion IsGeneration task.graphs
  pub workers : 0 < task.workers

pub bounded_by : (graphs : List Graph) → AllByRecursion IsGeneration graphs → (generation : ℕ) (g : Graph) → slice_get graphs generation ≡ Some g → IsBounded most_nodes most_interfaces g
bounded_by graphs all generation g at =
    let is : IsGeneration g = all_at IsGeneration graphs generation g at all in
    record { valid = is.valid; few = is.few_nodes; nodes_are = is.few_nodes; interfaces_are = is.few_interfaces }

pub valid_by : (graphs : List Graph) → AllByRecursion IsGeneration graphs → (generation : ℕ) (g : Graph) → slice_get graphs generation ≡ Some g → IsValid g
valid_by graphs all generation g at = (all_at IsGeneration graphs generation g at all).valid

-- what holds of a value holds of it otherwise
pub if_ok : {A E : Type 0} (r : Result A E) (P Q : A → Type 0) → ((x : A) → P x → Q x) → IfOk r P → IfOk r Q
if_ok (Ok x) P Q f h = f x h
if_ok (Err e) P Q f h = tt

-- a list at one of its places
pub take_next : (gs : List ℕ) (k g : ℕ) → slice_get gs k ≡ Some g → take (k + 1) gs ≡ take k gs ++ g ∷ []
take_next gs k g e = ap (λ n. take n gs) (add-one k) ∙ by gs k e
  where
    by : (gs : List ℕ) (k : ℕ) → slice_get gs k ≡ Some g → take (suc k) gs ≡ take k gs ++ g ∷ []
    by [] k e = absurd (none-some g e)
    by (x ∷ gs) zero e = ap (λ y. y ∷ []) (same_Some x g e)
    by (x ∷ gs) (suc k) e = ap (λ l. x ∷ l) (by gs k e)

pub cut_at : (gs : List ℕ) (k g : ℕ) → slice_get gs k ≡ Some g → gs ≡ take k gs ++ g ∷ drop (suc k) gs
cut_at [] k g e = absurd (none-some g e)
cut_at (x ∷ gs) zero g e = ap (λ y. y ∷ gs) (same_Some x g e)
cut_at (x ∷ gs) (suc k) g e = ap (λ l. x ∷ l) (cut_at gs k g e)

-- the bytes and the choice of a packet, as they are read
pub choice_read : (lines : List PacketLine) (number : ℕ) (line : PacketLine) → slice_get lines number ≡ Some line → slice_get (map choice_of lines) number ≡ Some (choice_of line)
choice_read lines number line e = slice_get-map choice_of lines number ∙ ap (option_map choice_of) e

-- a packet that is the same unless it was dropped, with its number
unless_numbered : (o : Outcome) (a b c : Packet) (number : ℕ) → IsUnlessDropped o a (record b { number = number }) → IsUnlessDropped o b c → c.number ≡ number → IsUnlessDropped o a c
unless_numbered (Sent interface) a b c number one two is = one ∙ ap (λ (p : Packet). record p { number = number }) two ∙ (λ i. record c { number = sym is i })
unless_numbered (Dropped node error) a b c number one two is = tt
unless_numbered (Handed node worker) a b c number one two is = one ∙ ap (λ (p : Packet). record p { number = number }) two ∙ (λ i. record c { number = sym is i })

module _ (task : Task) (sound : IsSound task) (traced generation number : ℕ) (graph : Graph) (at : slice_get task.graphs generation ≡ Some graph) where
  -- a packet that waited has come so far
  kept_so_far : (bytes : List ℕ) (choice : Choice) (trip : Course) → StandsAt task traced number bytes choice trip → (trip.legs ≡ [] → ⊥) → next_generation choice trip ≡ Some generation
      → IsSoFar task number bytes (take (length trip.legs) choice.generations) trip
  kept_so_far bytes choice trip stands some due = by stands.so_far
    where
      by : (trip.legs ≡ []) ⊎ IsKept task traced number bytes choice trip → IsSoFar task number bytes (take (length trip.legs) choice.generations) trip
      by (inl none) = absurd (some none)
      by (inr kept) = record {
        course = kept.course;
        is = kept.is;
        like = record {
          legs = kept.legs;
          outcome = kept.outcome;
          packet = kept.packet;
          visits = kept.visits (inl (slice_get_within choice.generations (length trip.legs) generation due));
        };
      }

  module _ (before : Course) (here : IsHere task traced generation number before) where
    -- the first leg
    pub begun_walks : before.legs ≡ [] → (bytes : List ℕ) → slice_get task.packets number ≡ Some bytes → (now : Course) (there : Bool)
        → MayBegin (first_leg task.visit graph task.workers (number % task.workers) (fresh number bytes)) (record { worker = number % task.workers; generation = generation }) now there
        → MayWalk task number before now there
    begun_walks none bytes is_bytes now true begun =
        let count : length before.legs ≡ 0 = ap length none in
        let due : slice_get here.choice.generations 0 ≡ Some generation = ap (slice_get here.choice.generations) (sym count) ∙ here.due in
        let one : take (length before.legs + 1) here.choice.generations ≡ generation ∷ [] =
        ap (λ n. take (n + 1) here.choice.generations) count ∙ take_next here.choice.generations 0 generation due in
        record {
          bytes = bytes;
          choice = here.choice;
          packet = record { is_bytes = is_bytes; is_choice = here.packet.is_choice };
          so_far = subst (λ gs. IsSoFar task number bytes gs now) (sym one) (first_so_far task number bytes generation graph begun.0 now at begun.1 begun.2);
        }
    begun_walks none bytes is_bytes now false begun =
        let count : length before.legs ≡ 0 = ap length none in
        let due : slice_get here.choice.generations 0 ≡ Some generation = ap (slice_get here.choice.generations) (sym count) ∙ here.due in
        record {
          bytes = bytes;
          choice = here.choice;
          packet = record { is_bytes = is_bytes; is_choice = here.packet.is_choice };
          none = no_journey task.visit task.graphs task.workers number bytes here.choice
              (ap (started task.visit task.graphs task.workers number bytes) (cut_at here.choice.generations 0 generation due)
              ∙ first_none task number bytes generation (drop 1 here.choice.generations) graph at begun);
        }

    -- the next leg of a packet that waited
    pub taken_walks : (before.legs ≡ [] → ⊥) → (hand now : Course) → hand ≡ before → (there : Bool) → MayGoOn task.visit graph task.workers generation hand now there
        → MayWalk task number before now there
    taken_walks some hand now same true on =
        let far : IsSoFar task number here.bytes (take (length before.legs) here.choice.generations) hand =
        subst (IsSoFar task number here.bytes (take (length before.legs) here.choice.generations)) (sym same) (kept_so_far here.bytes here.choice before here.stands some here.due) in
        record {
          bytes = here.bytes;
          choice = here.choice;
          packet = here.packet;
          so_far = subst (λ gs. IsSoFar task number here.bytes gs now) (sym (take_next here.choice.generations (length before.legs) generation here.due))
              (more_so_far task number here.bytes (take (length before.legs) here.choice.generations) generation graph hand now far at on);
        }
    taken_walks some hand now same false none =
        let far : IsSoFar task number here.bytes (take (length before.legs) here.choice.generations) hand =
        subst (IsSoFar task number here.bytes (take (length before.legs) here.choice.generations)) (sym same) (kept_so_far here.bytes here.choice before here.stands some here.due) in
        record {
          bytes = here.bytes;
          choice = here.choice;
          packet = here.packet;
          none = no_journey task.visit task.graphs task.workers number here.bytes here.choice
              (ap (started task.visit task.graphs task.workers number here.bytes) (cut_at here.choice.generations (length before.legs) generation here.due)
              ∙ more_none task number here.bytes (take (length before.legs) here.choice.generations) (drop (suc (length before.legs)) here.choice.generations) generation graph hand far at none);
        }

  -- the packet's choice
  abbrev pub Chooses : Choice → Type 0
  Chooses choice = slice_get task.choices number ≡ Some choice

  pub same_choice : (one other : Choice) → Chooses one → Chooses other → one ≡ other
  same_choice one other a b = same_Some one other (sym a ∙ b)

  module _ (choice : Choice) (chosen : Chooses choice) where
    by_choice : (k : ℕ) (hand : Course) (on : IsWalked task number k hand) → on.choice ≡ choice
    by_choice k hand on = same_choice on.choice choice on.packet.is_choice chosen

    -- one leg more, and none
    pub walked_more : (k : ℕ) (hand now : Course) → IsWalked task number k hand → slice_get choice.generations k ≡ Some generation → GoesOn task.visit graph task.workers generation hand now
        → IsWalked task number (k + 1) now
    walked_more k hand now on due goes =
        let here : slice_get on.choice.generations k ≡ Some generation = subst (λ (c : Choice). slice_get c.generations k ≡ Some generation) (sym (by_choice k hand on)) due in
        record {
          bytes = on.bytes;
          choice = on.choice;
          packet = on.packet;
          so_far = subst (λ gs. IsSoFar task number on.bytes gs now) (sym (take_next on.choice.generations k generation here))
              (more_so_far task number on.bytes (take k on.choice.generations) generation graph hand now on.so_far at goes);
        }

    pub walked_none : (k : ℕ) (hand : Course) → IsWalked task number k hand → slice_get choice.generations k ≡ Some generation
        → ((from : ℕ × ℕ) → handed_over hand.outcome ≡ Some from → next_leg task.visit graph task.workers hand from ≡ None) → IsLost task number
    walked_none k hand on due none =
        let here : slice_get on.choice.generations k ≡ Some generation = subst (λ (c : Choice). slice_get c.generations k ≡ Some generation) (sym (by_choice k hand on)) due in
        record {
          bytes = on.bytes;
          choice = on.choice;
          packet = on.packet;
          none = no_journey task.visit task.graphs task.workers number on.bytes on.choice
              (ap (started task.visit task.graphs task.workers number on.bytes) (cut_at on.choice.generations k generation here)
              ∙ more_none task number on.bytes (take k on.choice.generations) (drop (suc k) on.choice.generations) generation graph hand on.so_far at none);
        }

    -- as many legs
    pub walked_legs : (k : ℕ) (hand : Course) → IsWalked task number k hand → k ≤ length choice.generations → length hand.legs ≡ k
    walked_legs k hand on within =
        let few : k ≤ length on.choice.generations = subst (λ (c : Choice). k ≤ length c.generations) (sym (by_choice k hand on)) within in
        ap length on.so_far.like.legs
        ∙ course_legs task.visit task.graphs task.workers number on.bytes (take k on.choice.generations) on.so_far.course on.so_far.is
        ∙ length-take-le k on.choice.generations few

    -- how far it has come is kept
    kept_stands : (k : ℕ) (hand trip : Course) (with_visits : Bool) (on : IsWalked task number k hand) → k ≤ length choice.generations → AreBytes on.bytes → IsKeptOf with_visits number hand trip
        → ((length trip.legs < length on.choice.generations) ⊎ (number < traced) → with_visits ≡ true)
        → (length trip.legs ≡ length on.choice.generations → goes_together on.choice.accepted hand.outcome ≡ true) → StandsAt task traced number on.bytes on.choice trip
    kept_stands k hand trip with_visits on within are kept seen ends =
        let like : IsLike on.so_far.course hand = on.so_far.like in
        let legs : length trip.legs ≡ k = ap length kept.legs ∙ walked_legs k hand on within in
        let inside = course_inside task.visit sound.kinds task.graphs most_nodes most_interfaces task.workers sound.workers (bounded_by task.graphs sound.graphs) number on.bytes
        (take k on.choice.generations) on.so_far.course are on.so_far.is in
        record {
          number_is = kept.number_is;
          so_far = inr (record {
            course = on.so_far.course;
            is = subst (λ n. started task.visit task.graphs task.workers number on.bytes (take n on.choice.generations) ≡ Some on.so_far.course) (sym legs) on.so_far.is;
            legs = kept.legs ∙ like.legs;
            outcome = kept.outcome ∙ like.outcome;
            packet = unless_numbered on.so_far.course.outcome trip.packet hand.packet on.so_far.course.packet number
                (subst (λ o. IsUnlessDropped o trip.packet (record hand.packet { number = number })) like.outcome kept.packet) like.packet inside.number_is;
            visits = λ h. kept.visits (seen h) ∙ like.visits;
            ends = λ e. subst (λ o. goes_together on.choice.accepted o ≡ true) like.outcome (ends e);
          });
        }

    module _ (before : Course) where
      -- it waits
      pub waits : (k g : ℕ) (hand trip : Course) (on : IsWalked task number k hand) → length before.legs < k → slice_get choice.generations k ≡ Some g → (g ≡ generation → ⊥)
          → AreBytes on.bytes → IsKeptOf true number hand trip → IsGoneOn task traced generation number before hand trip
      waits k g hand trip on more due later are kept =
          let within = slice_get_within choice.generations k g due in
          let le : k ≤ length choice.generations = omega (arith, within) in
          let legs : length trip.legs ≡ k = ap length kept.legs ∙ walked_legs k hand on le in
          let count : length on.choice.generations ≡ length choice.generations = ap (λ (c : Choice). length c.generations) (by_choice k hand on) in
          let apart : length trip.legs ≡ length on.choice.generations → ⊥ = λ e. omega (arith, e, legs, count, within) in
          record {
            bytes = on.bytes;
            choice = on.choice;
            packet = on.packet;
            stands = kept_stands k hand trip true on le are kept (λ h. refl) (λ e. absurd (apart e));
            more = omega (arith, more, legs);
            past = λ e. later (same_Some g generation (sym (subst (λ (c : Choice). slice_get c.generations k ≡ Some g) (sym (by_choice k hand on)) due) ∙ ap (slice_get on.choice.generations) (sym legs) ∙ e));
            through = λ e. absurd (apart e);
          }

      -- it is through
      pub done : (hand trip : Course) (with_visits : Bool) (on : IsWalked task number (length choice.generations) hand) → length before.legs < length choice.generations
          → goes_together choice.accepted hand.outcome ≡ true → AreBytes on.bytes → IsKeptOf with_visits number hand trip → (number < traced → with_visits ≡ true)
          → IsGoneOn task traced generation number before hand trip
      done hand trip with_visits on more together are kept seen =
          let k = length choice.generations in
          let like : IsLike on.so_far.course hand = on.so_far.like in
          let legs : length trip.legs ≡ k = ap length kept.legs ∙ walked_legs k hand on (omega arith) in
          let count : length on.choice.generations ≡ k = ap (λ (c : Choice). length c.generations) (by_choice k hand on) in
          let fits : goes_together on.choice.accepted hand.outcome ≡ true = subst (λ (c : Choice). goes_together c.accepted hand.outcome ≡ true) (sym (by_choice k hand on)) together in
          let all : take k on.choice.generations ≡ on.choice.generations = take_all k on.choice.generations (omega (arith, count)) in
          let whole : started task.visit task.graphs task.workers number on.bytes on.choice.generations ≡ Some on.so_far.course =
          ap (started task.visit task.graphs task.workers number on.bytes) (sym all) ∙ on.so_far.is in
          record {
            bytes = on.bytes;
            choice = on.choice;
            packet = on.packet;
            stands = kept_stands k hand trip with_visits on (omega arith) are kept (by with_visits seen count legs) (λ e. fits);
            more = omega (arith, more, legs);
            past = λ e. (let within = slice_get_within on.choice.generations (length trip.legs) generation e in omega (arith, within, legs, count));
            through = λ e. (
              record { number = number; accepted = on.choice.accepted; course = on.so_far.course },
              journey_is task.visit task.graphs task.workers number on.bytes on.choice on.so_far.course whole (subst (λ o. goes_together on.choice.accepted o ≡ true) like.outcome fits),
              like.visits,
              like.outcome,
            );
          }
        where
          by : (with_visits : Bool) → (number < traced → with_visits ≡ true) → length on.choice.generations ≡ length choice.generations → length trip.legs ≡ length choice.generations
              → (length trip.legs < length on.choice.generations) ⊎ (number < traced) → with_visits ≡ true
          by with_visits seen count legs (inl less) = absurd (omega (arith, less, count, legs))
          by with_visits seen count legs (inr traced) = seen traced

    -- its end doesn't fit its choice
    pub ends_apart : (hand : Course) (on : IsWalked task number (length choice.generations) hand) → goes_together choice.accepted hand.outcome ≡ false → IsLost task number
    ends_apart hand on apart =
        let k = length choice.generations in
        let count : length on.choice.generations ≡ k = ap (λ (c : Choice). length c.generations) (by_choice k hand on) in
        let unfit : goes_together on.choice.accepted hand.outcome ≡ false = subst (λ (c : Choice). goes_together c.accepted hand.outcome ≡ false) (sym (by_choice k hand on)) apart in
        let all : take k on.choice.generations ≡ on.choice.generations = take_all k on.choice.generations (omega (arith, count)) in
        record {
          bytes = on.bytes;
          choice = on.choice;
          packet = on.packet;
          none = journey_apart task.visit task.graphs task.workers number on.bytes on.choice on.so_far.course
              (ap (started task.visit task.graphs task.workers number on.bytes) (sym all) ∙ on.so_far.is)
              (subst (λ o. goes_together on.choice.accepted o ≡ false) on.so_far.like.outcome unfit);
        }
