-- For `ip4_never_congests`: the steps of the IPv4 kinds, of which none drops by congestion. And for `verdict`: how many legs a journey has and on which workers, and how many visits.
use Rattle.std.proofs.Common.{◌≡◌, ◌≢◌, ℕ, zero, suc, ◌+◌, ◌*◌, ◌<◌, ◌≤◌, Bool, true, false, List, [], ◌∷◌, ◌++◌, length, refl, ap, subst, arith, length-append}
use Rattle.std.specs.Prelude.{Option, Some, None, nat_lt, slice_get, if◌then◌else◌, ◌==◌, ◌%◌}
use Rattle.std.specs.List.{AllByRecursion}
use Rattle.std.proofs.Math.Nat.{mod-lt}
use Rattle.std.proofs.lemmas.Bool.{eqb-false}
use Rattle.std.proofs.lemmas.Option.{none-some, same_Some}
use Rattle.vg_model.specs.declared.kinds.DropError.TheVariants as errors
use Rattle.vg_model.specs.declared.kinds.Step.{Step}
use Rattle.vg_model.specs.declared.kinds.Step.TheVariants as steps
use Rattle.vg_model.specs.declared.fates.Leg.{Leg}
use Rattle.vg_model.specs.Packet.{Packet, fresh}
use Rattle.vg_model.specs.Graph.{Graph, arc, pg_input, handoff_dequeue}
use Rattle.vg_model.specs.Hash.{target_worker}
use Rattle.vg_model.specs.Visit.{Visit, ip4_visit}
use Rattle.vg_model.specs.Leg.{Outcome, Sent, Dropped, Handed, Way, Move, Onward, Over, handed, move_of, joined, after_visit, leg_within, most_legs, first_slot, ends_at}
use Rattle.vg_model.specs.Journey.{Course, started, first_leg, leg_from, legs_from, handed_over, last_leg, then_course, longest_packet}
use Rattle.vg_model.proofs.Journeys.{map_some, then_some}
use Rattle.vg_model.proofs.LegEnds.{all_at}
use Rattle.vg_model.proofs.KindLaws.{ip4_uncongested}
use Rattle.vg_plan.specs.Plan.{IsGeneration}
use Rattle.vg_check.specs.Congestion.{IsOwnStep, NeverCongests}

-- ---- no node drops a packet by congestion: only a full queue does

own_step : (step : Step) → step ≢ steps.Dropped errors.Congestion → IsOwnStep step
own_step (steps.Dropped error) h = λ e. h (ap steps.Dropped e)
own_step step h = tt

pub own_visit : NeverCongests ip4_visit
own_visit g n p = own_step (ip4_visit g n p).0 (ip4_uncongested g n p)

-- ---- legs

-- the end of a leg with this number: where it is handed over, to a worker that is there, and the leg isn't the fourth
abbrev IsOutcomeOn : (workers leg_number : ℕ) → Outcome → Type 0
IsOutcomeOn workers leg_number (Sent interface) = Unit {0}
IsOutcomeOn workers leg_number (Dropped node error) = Unit {0}
IsOutcomeOn workers leg_number (Handed node worker) = (worker < workers) × (leg_number ≡ 4 → ⊥)

abbrev IsMoveOn : (workers leg_number : ℕ) → Move → Type 0
IsMoveOn workers leg_number (Onward to) = Unit {0}
IsMoveOn workers leg_number (Over outcome) = IsOutcomeOn workers leg_number outcome

handed_on : (g : Graph) (workers worker leg_number node target : ℕ) → target < workers → IsMoveOn workers leg_number (handed g worker leg_number node target)
handed_on g workers worker leg_number node target within = by_test (target == worker) (leg_number == most_legs) refl
  where
    by_test : (here last : Bool) → leg_number == most_legs ≡ last
        → IsMoveOn workers leg_number (if here then Onward (arc g node first_slot) else if last then Over (Dropped node errors.HandoffLimit) else Over (Handed node target))
    by_test true last e = tt
    by_test false true e = tt
    by_test false false e = (within, eqb-false leg_number most_legs e)

move_on : (g : Graph) (workers worker leg_number node : ℕ) (step : Step) → 0 < workers → IsMoveOn workers leg_number (move_of g workers worker leg_number node step)
move_on g workers worker leg_number node (steps.Next slot) some = tt
move_on g workers worker leg_number node (steps.Tx interface) some = tt
move_on g workers worker leg_number node (steps.Dropped error) some = tt
move_on g workers worker leg_number node (steps.Hand hash) some = handed_on g workers worker leg_number node (target_worker workers hash) (mod-lt hash some)

-- a leg with such an end, of at least one visit and at most so many
record IsWayOn (workers leg_number most : ℕ) (way : Way) : Type 0 where
  outcome : IsOutcomeOn workers leg_number way.outcome
  some : 1 ≤ length way.visits
  few : length way.visits ≤ most

joined_on : (workers leg_number most node : ℕ) (p : Packet) (move : Move) (go_on : ℕ → Option Way) (way : Way) → IsMoveOn workers leg_number move
    → ((to : ℕ) (rest : Way) → go_on to ≡ Some rest → IsWayOn workers leg_number most rest) → joined node p move go_on ≡ Some way → IsWayOn workers leg_number (suc most) way
joined_on workers leg_number most node p (Over outcome) go_on way h later e =
    let here : IsWayOn workers leg_number (suc most) (ends_at node p outcome) = record { outcome = h; some = omega arith; few = omega arith } in
    subst (IsWayOn workers leg_number (suc most)) (same_Some _ _ e) here
joined_on workers leg_number most node p (Onward None) go_on way h later e = absurd (none-some way e)
joined_on workers leg_number most node p (Onward (Some to)) go_on way h later e =
    let rest = map_some (after_visit node) (go_on to) way e in
    let found = later to rest.0 rest.1 in
    let few : length rest.0.visits ≤ most = found.few in
    let here : IsWayOn workers leg_number (suc most) (after_visit node rest.0) = record { outcome = found.outcome; some = omega arith; few = omega (arith, few) } in
    subst (IsWayOn workers leg_number (suc most)) rest.2 here

module _ (visit : Visit) (workers : ℕ) (some : 0 < workers) where
  leg_on : (g : Graph) (worker leg_number visits node : ℕ) (p : Packet) (way : Way) → leg_within visit g workers worker leg_number visits node p ≡ Some way
      → IsWayOn workers leg_number visits way
  leg_on g worker leg_number zero node p way e = absurd (none-some way e)
  leg_on g worker leg_number (suc visits) node p way e =
      joined_on workers leg_number visits node (visit g node p).1 (move_of g workers worker leg_number node (visit g node p).0)
      (λ to. leg_within visit g workers worker leg_number visits to (visit g node p).1) way
      (move_on g workers worker leg_number node (visit g node p).0 some)
      (λ to rest h. leg_on g worker leg_number visits to (visit g node p).1 rest h) e

  from_on : (g : Graph) (worker leg_number first via : ℕ) (p : Packet) (way : Way) → length g.nodes ≤ 64 → leg_from visit g workers worker leg_number first via p ≡ Some way
      → IsWayOn workers leg_number 65 way
  from_on g worker leg_number first via p way nodes e =
      let rest = map_some (after_visit first) _ way e in
      let start = then_some _ (arc g via first_slot) rest.0 rest.1 in
      let found = leg_on g worker leg_number (length g.nodes) start.0 p rest.0 start.2 in
      let few : length rest.0.visits ≤ length g.nodes = found.few in
      let here : IsWayOn workers leg_number 65 (after_visit first rest.0) = record { outcome = found.outcome; some = omega arith; few = omega (arith, few, nodes) } in
      subst (IsWayOn workers leg_number 65) rest.2 here

  first_on : (g : Graph) (worker : ℕ) (p : Packet) (way : Way) → length g.nodes ≤ 64 → first_leg visit g workers worker p ≡ Some way → IsWayOn workers 1 65 way
  first_on g worker p way nodes e = by_length (nat_lt longest_packet (length p.bytes)) e
    where
      by_length : (long : Bool) → (if long then Some (ends_at pg_input p (Dropped pg_input errors.TooLong)) else leg_from visit g workers worker 1 pg_input pg_input p) ≡ Some way
          → IsWayOn workers 1 65 way
      by_length true e =
          let here : IsWayOn workers 1 65 (ends_at pg_input p (Dropped pg_input errors.TooLong)) = record { outcome = tt; some = omega arith; few = omega arith } in
          subst (IsWayOn workers 1 65) (same_Some _ _ e) here
      by_length false e = from_on g worker 1 pg_input pg_input p way nodes e

-- ---- courses

-- from a leg with this number on: four legs in all at most, on workers that are there, with few visits
pub record IsCourse (workers leg_number : ℕ) (course : Course) : Type 0 where
  pub some : 1 ≤ length course.legs
  pub few : leg_number + length course.legs ≤ 5
  pub there : AllByRecursion (λ (leg : Leg). leg.worker < workers) course.legs
  pub visited : 1 ≤ length course.visits
  pub few_visits : length course.visits ≤ 65 * length course.legs

-- where a leg was handed over
handed_within : (workers leg_number : ℕ) (o : Outcome) (from : ℕ × ℕ) → IsOutcomeOn workers leg_number o → handed_over o ≡ Some from → (from.1 < workers) × (leg_number ≡ 4 → ⊥)
handed_within workers leg_number (Sent interface) from h e = absurd (none-some from e)
handed_within workers leg_number (Dropped node error) from h e = absurd (none-some from e)
handed_within workers leg_number (Handed node worker) from h e = subst (λ (f : ℕ × ℕ). (f.1 < workers) × (leg_number ≡ 4 → ⊥)) (same_Some _ _ e) h

module _ (visit : Visit) (workers : ℕ) (some : 0 < workers) (graphs : List Graph) (sound : AllByRecursion IsGeneration graphs) where
  courses : (worker leg_number generation : ℕ) (later : List ℕ) (o : Option Way) (course : Course) → worker < workers → leg_number ≤ 4
      → ((way : Way) → o ≡ Some way → IsWayOn workers leg_number 65 way) → legs_from visit graphs workers worker leg_number generation later o ≡ Some course → IsCourse workers leg_number course
  courses worker leg_number generation [] None course within most is e = absurd (none-some course e)
  courses worker leg_number generation (g ∷ later) None course within most is e = absurd (none-some course e)
  courses worker leg_number generation [] (Some way) course within most is e =
      let here = is way refl in
      let few : length way.visits ≤ 65 = here.few in
      let alone : IsCourse workers leg_number (last_leg (record { worker = worker; generation = generation }) way) = record {
        some = omega arith;
        few = omega (arith, most);
        there = (within, tt);
        visited = here.some;
        few_visits = omega (arith, few);
      } in
      subst (IsCourse workers leg_number) (same_Some _ _ e) alone
  courses worker leg_number generation (g ∷ later) (Some way) course within most is e =
      let here = is way refl in
      let s1 = map_some (then_course (record { worker = worker; generation = generation }) way) _ course e in
      let s2 = then_some _ (handed_over way.outcome) s1.0 s1.1 in
      let s3 = then_some _ (slice_get graphs g) s1.0 s2.2 in
      let on = handed_within workers leg_number way.outcome s2.0 here.outcome s2.1 in
      let next : suc leg_number ≤ 4 = (let not_last = on.1 in omega (arith, most, not_last)) in
      let nodes : length s3.0.nodes ≤ 64 = (all_at IsGeneration graphs g s3.0 s3.1 sound).few_nodes in
      let rest = courses s2.0.1 (suc leg_number) g later (leg_from visit s3.0 workers s2.0.1 (suc leg_number) handoff_dequeue s2.0.0 way.packet) s1.0 on.0 next
      (λ w f. from_on visit workers some s3.0 s2.0.1 (suc leg_number) handoff_dequeue s2.0.0 way.packet w nodes f) s3.2 in
      let visits : length (way.visits ++ s1.0.visits) ≡ length way.visits + length s1.0.visits = length-append way.visits s1.0.visits in
      let few_here : length way.visits ≤ 65 = here.few in
      let few_rest : length s1.0.visits ≤ 65 * length s1.0.legs = rest.few_visits in
      let some_here : 1 ≤ length way.visits = here.some in
      let few_legs : suc leg_number + length s1.0.legs ≤ 5 = rest.few in
      let whole : IsCourse workers leg_number (then_course (record { worker = worker; generation = generation }) way s1.0) = record {
        some = omega arith;
        few = omega (arith, few_legs);
        there = (within, rest.there);
        visited = omega (arith, visits, some_here);
        few_visits = omega (arith, visits, few_here, few_rest);
      } in
      subst (IsCourse workers leg_number) s1.2 whole

  pub course_of : (number : ℕ) (bytes gs : List ℕ) (course : Course) → started visit graphs workers number bytes gs ≡ Some course → IsCourse workers 1 course
  course_of number bytes [] course e = absurd (none-some course e)
  course_of number bytes (g ∷ later) course e =
      let s = then_some _ (slice_get graphs g) course e in
      let nodes : length s.0.nodes ≤ 64 = (all_at IsGeneration graphs g s.0 s.1 sound).few_nodes in
      courses (number % workers) 1 g later _ course (mod-lt number some) (omega arith)
      (λ w f. first_on visit workers some s.0 (number % workers) (fresh number bytes) w nodes f) s.2
