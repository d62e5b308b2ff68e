-- For the clauses of `never_fall`, `take_leg`, `go_on`, `Underway::{begin, take_on}` and `replay`: journeys that have come so far.
use Rattle.std.proofs.Common.{◌≡◌, ℕ, suc, ◌+◌, List, [], ◌∷◌, ◌++◌, length, map, cond, refl, sym, ap, subst, ◌∙◌, arith}
use Rattle.std.specs.Prelude.{Option, Some, None, option_map, option_and_then, slice_get, ◌%◌, true, false}
use Rattle.std.proofs.lemmas.Option.{none-some, same_Some}
use Rattle.vg_model.specs.declared.fates.Leg.{Leg}
use Rattle.vg_model.specs.Packet.{fresh}
use Rattle.vg_model.specs.Graph.{Graph, handoff_dequeue}
use Rattle.vg_model.specs.Visit.{Visit}
use Rattle.vg_model.specs.Leg.{Outcome, Sent, Dropped, Handed, Way}
use Rattle.vg_model.specs.Journey.{Choice, Course, journey, started, finished, goes_together, legs_from, leg_from, first_leg, last_leg, then_course, handed_over}
use Rattle.vg_model.proofs.Journeys.{map_some, then_some, one_more_leg, extended}
use Rattle.vg_replay.specs.Courses.{IsLike, next_leg, GoesOn}
use Rattle.vg_replay.specs.Legs.{IsUnlessDropped}
use Rattle.vg_replay.specs.Tasks.{Task}
use Rattle.vg_replay.specs.Trips.{IsSoFar}

-- the generations of legs
abbrev pub generations : List Leg → List ℕ
generations legs = map (λ (leg : Leg). leg.generation) legs

-- without a leg there is no rest of a journey
pub none_later : (visit : Visit) (graphs : List Graph) (workers worker leg_number generation : ℕ) (later : List ℕ) → legs_from visit graphs workers worker leg_number generation later None ≡ None
none_later visit graphs workers worker leg_number generation [] = refl
none_later visit graphs workers worker leg_number generation (g ∷ later) = refl

-- a journey from a leg on has that leg
leg_is : (visit : Visit) (graphs : List Graph) (workers worker leg_number generation : ℕ) (later : List ℕ) (o : Option Way) (course : Course)
    → legs_from visit graphs workers worker leg_number generation later o ≡ Some course → (way : Way) × (o ≡ Some way)
leg_is visit graphs workers worker leg_number generation later None course e = absurd (none-some course (sym (none_later visit graphs workers worker leg_number generation later) ∙ e))
leg_is visit graphs workers worker leg_number generation later (Some way) course e = (way, refl)

-- the legs of a course are under the generations chosen
legs_generations : (visit : Visit) (graphs : List Graph) (workers worker leg_number generation : ℕ) (later : List ℕ) (o : Option Way) (course : Course)
    → legs_from visit graphs workers worker leg_number generation later o ≡ Some course → generations course.legs ≡ generation ∷ later
legs_generations visit graphs workers worker leg_number generation [] None course e = absurd (none-some course e)
legs_generations visit graphs workers worker leg_number generation [] (Some way) course e = ap (λ (c : Course). generations c.legs) (sym (same_Some _ _ e))
legs_generations visit graphs workers worker leg_number generation (g ∷ later) None course e = absurd (none-some course e)
legs_generations visit graphs workers worker leg_number generation (g ∷ later) (Some way) course e =
    let s1 = map_some (then_course (record { worker = worker; generation = generation }) way) _ course e in
    let s2 = then_some _ (handed_over way.outcome) s1.0 s1.1 in
    let s3 = then_some _ (slice_get graphs g) s1.0 s2.2 in
    let behind = legs_generations visit graphs workers s2.0.1 (suc leg_number) g later _ s1.0 s3.2 in
    ap (λ (c : Course). generations c.legs) (sym s1.2) ∙ ap (λ gs. generation ∷ gs) behind

pub course_generations : (visit : Visit) (graphs : List Graph) (workers number : ℕ) (bytes gs : List ℕ) (course : Course) → started visit graphs workers number bytes gs ≡ Some course
    → generations course.legs ≡ gs
course_generations visit graphs workers number bytes [] course e = absurd (none-some course e)
course_generations visit graphs workers number bytes (g ∷ later) course e =
    let s = then_some _ (slice_get graphs g) course e in
    legs_generations visit graphs workers (number % workers) 1 g later _ course s.2

-- there are as many of them
pub course_legs : (visit : Visit) (graphs : List Graph) (workers number : ℕ) (bytes gs : List ℕ) (course : Course) → started visit graphs workers number bytes gs ≡ Some course
    → length course.legs ≡ length gs
course_legs visit graphs workers number bytes gs course e = as_many course.legs ∙ ap length (course_generations visit graphs workers number bytes gs course e)
  where
    as_many : (legs : List Leg) → length legs ≡ length (generations legs)
    as_many [] = refl
    as_many (leg ∷ legs) = ap suc (as_many legs)

-- where a packet was handed over
pub handed_is : (o : Outcome) (from : ℕ × ℕ) → handed_over o ≡ Some from → o ≡ Handed from.0 from.1
handed_is (Sent interface) from e = absurd (none-some from e)
handed_is (Dropped node error) from e = absurd (none-some from e)
handed_is (Handed node worker) from e = ap (λ (f : ℕ × ℕ). Handed f.0 f.1) (same_Some _ _ e)

-- a packet that was handed over is the one that is kept
same_packet : (course now : Course) (from : ℕ × ℕ) → IsLike course now → handed_over course.outcome ≡ Some from → now.packet ≡ course.packet
same_packet course now from like e =
    let kept : IsUnlessDropped (Handed from.0 from.1) now.packet course.packet =
    subst (λ o. IsUnlessDropped o now.packet course.packet) (handed_is course.outcome from e) like.packet in
    kept

-- the journey under these generations, by its first graph
started_by : (visit : Visit) (graphs : List Graph) (workers number : ℕ) (bytes : List ℕ) (g : ℕ) (later : List ℕ) (graph : Graph) → slice_get graphs g ≡ Some graph
    → started visit graphs workers number bytes (g ∷ later) ≡ legs_from visit graphs workers (number % workers) 1 g later (first_leg visit graph workers (number % workers) (fresh number bytes))
started_by visit graphs workers number bytes g later graph at =
    ap (option_and_then (λ graph. legs_from visit graphs workers (number % workers) 1 g later (first_leg visit graph workers (number % workers) (fresh number bytes)))) at

-- the first leg
pub first_so_far : (task : Task) (number : ℕ) (bytes : List ℕ) (g : ℕ) (graph : Graph) (way : Way) (now : Course) → slice_get task.graphs g ≡ Some graph
    → first_leg task.visit graph task.workers (number % task.workers) (fresh number bytes) ≡ Some way
    → IsLike (last_leg (record { worker = number % task.workers; generation = g }) way) now → IsSoFar task number bytes (g ∷ []) now
first_so_far task number bytes g graph way now at leg like = record {
  course = last_leg (record { worker = number % task.workers; generation = g }) way;
  is = started_by task.visit task.graphs task.workers number bytes g [] graph at ∙ ap (legs_from task.visit task.graphs task.workers (number % task.workers) 1 g []) leg;
  like = like;
}

-- no first leg
pub first_none : (task : Task) (number : ℕ) (bytes : List ℕ) (g : ℕ) (later : List ℕ) (graph : Graph) → slice_get task.graphs g ≡ Some graph
    → first_leg task.visit graph task.workers (number % task.workers) (fresh number bytes) ≡ None → started task.visit task.graphs task.workers number bytes (g ∷ later) ≡ None
first_none task number bytes g later graph at leg =
    started_by task.visit task.graphs task.workers number bytes g later graph at ∙ ap (legs_from task.visit task.graphs task.workers (number % task.workers) 1 g later) leg
    ∙ none_later task.visit task.graphs task.workers (number % task.workers) 1 g later

-- one leg more
pub more_so_far : (task : Task) (number : ℕ) (bytes gs : List ℕ) (g : ℕ) (graph : Graph) (before now : Course) → IsSoFar task number bytes gs before → slice_get task.graphs g ≡ Some graph
    → GoesOn task.visit graph task.workers g before now → IsSoFar task number bytes (gs ++ g ∷ []) now
more_so_far task number bytes [] g graph before now so_far at on = absurd (none-some so_far.course so_far.is)
more_so_far task number bytes (first ∷ later) g graph before now so_far at on =
    let visit : Visit = task.visit in
    let course : Course = so_far.course in
    let like : IsLike course before = so_far.like in
    let here : Leg = record { worker = on.from.1; generation = g } in
    let s = then_some _ (slice_get task.graphs first) course so_far.is in
    let leg = leg_is visit task.graphs task.workers (number % task.workers) 1 first later _ course s.2 in
    let over : handed_over course.outcome ≡ Some on.from = ap handed_over (sym like.outcome) ∙ on.over in
    let packet : before.packet ≡ course.packet = same_packet course before on.from like over in
    let count : suc (length before.legs) ≡ suc (length later + 1) =
    (let e = ap length like.legs in let k = course_legs visit task.graphs task.workers number bytes (first ∷ later) course so_far.is in omega (arith, e, k)) in
    let next : leg_from visit graph task.workers on.from.1 (suc (length later + 1)) handoff_dequeue on.from.0 course.packet ≡ Some on.way =
    subst (λ p. leg_from visit graph task.workers on.from.1 (suc (length later + 1)) handoff_dequeue on.from.0 p ≡ Some on.way) packet
    (subst (λ n. leg_from visit graph task.workers on.from.1 n handoff_dequeue on.from.0 before.packet ≡ Some on.way) count on.is) in
    let from_here : legs_from visit task.graphs task.workers (number % task.workers) 1 first later (Some leg.0) ≡ Some course =
    ap (legs_from visit task.graphs task.workers (number % task.workers) 1 first later) (sym leg.1) ∙ s.2 in
    let more = one_more_leg visit task.graphs task.workers (number % task.workers) 1 first later leg.0 course on.from.0 on.from.1 g graph on.way from_here
    (handed_is course.outcome on.from over) at next in
    record {
      course = extended course here on.way;
      is = started_by visit task.graphs task.workers number bytes first (later ++ g ∷ []) s.0 s.1
          ∙ ap (legs_from visit task.graphs task.workers (number % task.workers) 1 first (later ++ g ∷ [])) leg.1 ∙ more;
      like = record {
        legs = on.like.legs ∙ ap (λ legs. legs ++ here ∷ []) like.legs;
        outcome = on.like.outcome;
        packet = on.like.packet;
        visits = on.like.visits ∙ ap (λ visits. visits ++ on.way.visits) like.visits;
      };
    }

-- a journey whose last leg so far hands the packet to nobody, or is followed by no leg, has no further legs
no_legs : (visit : Visit) (graphs : List Graph) (workers worker leg_number generation : ℕ) (later more : List ℕ) (g : ℕ) (graph : Graph) (way : Way) (rest : Course)
    → legs_from visit graphs workers worker leg_number generation later (Some way) ≡ Some rest → slice_get graphs g ≡ Some graph
    → ((from : ℕ × ℕ) → handed_over rest.outcome ≡ Some from → leg_from visit graph workers from.1 (suc (length later + leg_number)) handoff_dequeue from.0 rest.packet ≡ None)
    → legs_from visit graphs workers worker leg_number generation (later ++ g ∷ more) (Some way) ≡ None
no_legs visit graphs workers worker leg_number generation [] more g graph way rest e at none = by_handed (handed_over way.outcome) refl
  where
    here : Leg
    here = record { worker = worker; generation = generation }

    same : last_leg here way ≡ rest
    same = same_Some _ _ e

    onward : Option (ℕ × ℕ) → Option Course
    onward o = option_map (then_course here way) (option_and_then (λ (from : ℕ × ℕ). option_and_then (λ graph.
        legs_from visit graphs workers from.1 (suc leg_number) g more (leg_from visit graph workers from.1 (suc leg_number) handoff_dequeue from.0 way.packet))
        (slice_get graphs g)) o)

    by_handed : (o : Option (ℕ × ℕ)) → handed_over way.outcome ≡ o → onward (handed_over way.outcome) ≡ None
    by_handed None f = ap onward f
    by_handed (Some from) f =
        let no_leg : leg_from visit graph workers from.1 (suc leg_number) handoff_dequeue from.0 way.packet ≡ None =
        subst (λ n. leg_from visit graph workers from.1 (suc n) handoff_dequeue from.0 way.packet ≡ None) (let z : 0 + leg_number ≡ leg_number = omega arith in z)
        (subst (λ (c : Course). leg_from visit graph workers from.1 (suc (0 + leg_number)) handoff_dequeue from.0 c.packet ≡ None) (sym same)
        (none from (ap (λ (c : Course). handed_over c.outcome) (sym same) ∙ f))) in
        ap onward f
        ∙ ap (λ (o : Option Graph). option_map (then_course here way) (option_and_then (λ graph.
        legs_from visit graphs workers from.1 (suc leg_number) g more (leg_from visit graph workers from.1 (suc leg_number) handoff_dequeue from.0 way.packet)) o)) at
        ∙ ap (λ (o : Option Way). option_map (then_course here way) (legs_from visit graphs workers from.1 (suc leg_number) g more o)) no_leg
        ∙ ap (option_map (then_course here way)) (none_later visit graphs workers from.1 (suc leg_number) g more)
no_legs visit graphs workers worker leg_number generation (h ∷ later) more g graph way rest e at none =
    let here : Leg = record { worker = worker; generation = generation } in
    let s1 = map_some (then_course here way) _ rest e in
    let s2 = then_some _ (handed_over way.outcome) s1.0 s1.1 in
    let s3 = then_some _ (slice_get graphs h) s1.0 s2.2 in
    let leg = leg_is visit graphs workers s2.0.1 (suc leg_number) h later _ s1.0 s3.2 in
    let from_there : legs_from visit graphs workers s2.0.1 (suc leg_number) h later (Some leg.0) ≡ Some s1.0 =
    ap (legs_from visit graphs workers s2.0.1 (suc leg_number) h later) (sym leg.1) ∙ s3.2 in
    let behind = no_legs visit graphs workers s2.0.1 (suc leg_number) h later more g graph leg.0 s1.0 from_there at (λ from f.
    subst (λ n. leg_from visit graph workers from.1 (suc n) handoff_dequeue from.0 s1.0.packet ≡ None) (let n : suc (length later) + leg_number ≡ length later + suc leg_number = omega arith in n)
    (subst (λ (c : Course). leg_from visit graph workers from.1 (suc (length (h ∷ later) + leg_number)) handoff_dequeue from.0 c.packet ≡ None) (sym s1.2)
    (none from (ap (λ (c : Course). handed_over c.outcome) (sym s1.2) ∙ f)))) in
    ap (λ (o : Option (ℕ × ℕ)). option_map (then_course here way) (option_and_then (λ (from : ℕ × ℕ). option_and_then (λ graph.
    legs_from visit graphs workers from.1 (suc leg_number) h (later ++ g ∷ more) (leg_from visit graph workers from.1 (suc leg_number) handoff_dequeue from.0 way.packet))
    (slice_get graphs h)) o)) s2.1
    ∙ ap (λ (o : Option Graph). option_map (then_course here way) (option_and_then (λ graph.
    legs_from visit graphs workers s2.0.1 (suc leg_number) h (later ++ g ∷ more) (leg_from visit graph workers s2.0.1 (suc leg_number) handoff_dequeue s2.0.0 way.packet)) o)) s3.1
    ∙ ap (λ (o : Option Way). option_map (then_course here way) (legs_from visit graphs workers s2.0.1 (suc leg_number) h (later ++ g ∷ more) o)) leg.1
    ∙ ap (option_map (then_course here way)) behind

-- no leg more
pub more_none : (task : Task) (number : ℕ) (bytes gs more : List ℕ) (g : ℕ) (graph : Graph) (before : Course) → IsSoFar task number bytes gs before → slice_get task.graphs g ≡ Some graph
    → ((from : ℕ × ℕ) → handed_over before.outcome ≡ Some from → next_leg task.visit graph task.workers before from ≡ None)
    → started task.visit task.graphs task.workers number bytes (gs ++ g ∷ more) ≡ None
more_none task number bytes [] more g graph before so_far at none = absurd (none-some so_far.course so_far.is)
more_none task number bytes (first ∷ later) more g graph before so_far at none =
    let visit : Visit = task.visit in
    let course : Course = so_far.course in
    let like : IsLike course before = so_far.like in
    let s = then_some _ (slice_get task.graphs first) course so_far.is in
    let leg = leg_is visit task.graphs task.workers (number % task.workers) 1 first later _ course s.2 in
    let from_here : legs_from visit task.graphs task.workers (number % task.workers) 1 first later (Some leg.0) ≡ Some course =
    ap (legs_from visit task.graphs task.workers (number % task.workers) 1 first later) (sym leg.1) ∙ s.2 in
    let count : suc (length before.legs) ≡ suc (length later + 1) =
    (let e = ap length like.legs in let k = course_legs visit task.graphs task.workers number bytes (first ∷ later) course so_far.is in omega (arith, e, k)) in
    let behind = no_legs visit task.graphs task.workers (number % task.workers) 1 first later more g graph leg.0 course from_here at (λ from f.
    subst (λ p. leg_from visit graph task.workers from.1 (suc (length later + 1)) handoff_dequeue from.0 p ≡ None) (same_packet course before from like f)
    (subst (λ n. leg_from visit graph task.workers from.1 n handoff_dequeue from.0 before.packet ≡ None) count (none from (ap handed_over like.outcome ∙ f)))) in
    started_by visit task.graphs task.workers number bytes first (later ++ g ∷ more) s.0 s.1
    ∙ ap (legs_from visit task.graphs task.workers (number % task.workers) 1 first (later ++ g ∷ more)) leg.1 ∙ behind

-- no journey
pub no_journey : (visit : Visit) (graphs : List Graph) (workers number : ℕ) (bytes : List ℕ) (choice : Choice) → started visit graphs workers number bytes choice.generations ≡ None
    → journey visit graphs workers number bytes choice ≡ None
no_journey visit graphs workers number bytes choice e = ap (option_and_then (finished number choice.accepted)) e

-- a whole journey that fits its choice, and one that doesn't
pub journey_is : (visit : Visit) (graphs : List Graph) (workers number : ℕ) (bytes : List ℕ) (choice : Choice) (course : Course) → started visit graphs workers number bytes choice.generations ≡ Some course
    → goes_together choice.accepted course.outcome ≡ true → journey visit graphs workers number bytes choice ≡ Some (record { number = number; accepted = choice.accepted; course = course })
journey_is visit graphs workers number bytes choice course e together =
    ap (option_and_then (finished number choice.accepted)) e
    ∙ ap (λ b. cond b (Some (record { number = number; accepted = choice.accepted; course = course })) None) together

pub journey_apart : (visit : Visit) (graphs : List Graph) (workers number : ℕ) (bytes : List ℕ) (choice : Choice) (course : Course) → started visit graphs workers number bytes choice.generations ≡ Some course
    → goes_together choice.accepted course.outcome ≡ false → journey visit graphs workers number bytes choice ≡ None
journey_apart visit graphs workers number bytes choice course e apart =
    ap (option_and_then (finished number choice.accepted)) e
    ∙ ap (λ b. cond b (Some (record { number = number; accepted = choice.accepted; course = course })) None) apart
