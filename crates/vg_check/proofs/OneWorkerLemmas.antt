-- For `one_worker_leaves_no_choice`: with one worker no leg is handed to another, so each packet has one leg, that of the generation of its time.
use Rattle.std.proofs.Common.{◌≡◌, ℕ, zero, suc, ◌%◌, Bool, true, false, List, [], ◌∷◌, length, map, refl, sym, ap, subst, ◌∙◌}
use Rattle.std.specs.Prelude.{Option, Some, None, option_map, nat_lt, slice_get, if◌then◌else◌}
use Rattle.std.specs.List.{AllByRecursion}
use Rattle.std.proofs.Math.Nat.{mod-one}
use Rattle.std.proofs.lemmas.Option.{none-some, same_Some}
use Rattle.vg_model.specs.declared.kinds.DropError.TheVariants as errors
use Rattle.vg_model.specs.declared.kinds.Step.{Step}
use Rattle.vg_model.specs.declared.kinds.Step.TheVariants as steps
use Rattle.vg_model.specs.declared.fates.Leg.{Leg}
use Rattle.vg_model.specs.Packet.{Packet, fresh}
use Rattle.vg_model.specs.Graph.{Graph, arc, pg_input}
use Rattle.vg_model.specs.Visit.{Visit}
use Rattle.vg_model.specs.Leg.{Outcome, Sent, Dropped, Handed, Way, Move, Onward, Over, handed, move_of, joined, after_visit, leg_within, ends_at, first_slot}
use Rattle.vg_model.specs.Journey.{Journey, Course, Choice, journey, journeys_from, started, goes_together, finished, first_leg, leg_from, legs_from, handed_over, last_leg, longest_packet}
use Rattle.vg_model.specs.Lawful.{StartsAt}
use Rattle.vg_model.proofs.Journeys.{map_some, then_some}
use Rattle.vg_check.specs.OneWorker.{only_choice, only_choices}

-- the leg ends on an interface or with a drop
abbrev pub IsNotHanded : Outcome → Type 0
IsNotHanded (Sent interface) = Unit {0}
IsNotHanded (Dropped node error) = Unit {0}
IsNotHanded (Handed node worker) = ⊥

abbrev IsHere : Move → Type 0
IsHere (Onward to) = Unit {0}
IsHere (Over outcome) = IsNotHanded outcome

here_move : (g : Graph) (leg_number node : ℕ) (step : Step) → IsHere (move_of g 1 0 leg_number node step)
here_move g leg_number node (steps.Next slot) = tt
here_move g leg_number node (steps.Tx interface) = tt
here_move g leg_number node (steps.Dropped error) = tt
here_move g leg_number node (steps.Hand hash) = subst (λ t. IsHere (handed g 0 leg_number node t)) (sym (mod-one hash)) tt

here_joined : (node : ℕ) (p : Packet) (move : Move) (go_on : ℕ → Option Way) (way : Way) → IsHere move → ((to : ℕ) (rest : Way) → go_on to ≡ Some rest → IsNotHanded rest.outcome)
    → joined node p move go_on ≡ Some way → IsNotHanded way.outcome
here_joined node p (Over outcome) go_on way h later e = subst (λ (w : Way). IsNotHanded w.outcome) (same_Some _ _ e) h
here_joined node p (Onward None) go_on way h later e = absurd (none-some way e)
here_joined node p (Onward (Some to)) go_on way h later e =
    let rest = map_some (after_visit node) (go_on to) way e in
    subst (λ (w : Way). IsNotHanded w.outcome) rest.2 (later to rest.0 rest.1)

here_within : (visit : Visit) (g : Graph) (leg_number visits node : ℕ) (p : Packet) (way : Way) → leg_within visit g 1 0 leg_number visits node p ≡ Some way → IsNotHanded way.outcome
here_within visit g leg_number zero node p way e = absurd (none-some way e)
here_within visit g leg_number (suc visits) node p way e =
    here_joined node (visit g node p).1 (move_of g 1 0 leg_number node (visit g node p).0)
    (λ to. leg_within visit g 1 0 leg_number visits to (visit g node p).1) way
    (here_move g leg_number node (visit g node p).0)
    (λ to rest h. here_within visit g leg_number visits to (visit g node p).1 rest h) e

-- the first leg is handed to no other worker
pub here_first : (visit : Visit) (g : Graph) (p : Packet) (way : Way) → first_leg visit g 1 0 p ≡ Some way → IsNotHanded way.outcome
here_first visit g p way e = by_length (nat_lt longest_packet (length p.bytes)) e
  where
    by_length : (long : Bool)
        → (if long then Some (ends_at pg_input p (Dropped pg_input errors.TooLong)) else leg_from visit g 1 0 1 pg_input pg_input p) ≡ Some way
        → IsNotHanded way.outcome
    by_length true e = subst (λ (w : Way). IsNotHanded w.outcome) (same_Some _ _ e) tt
    by_length false e =
        let rest = map_some (after_visit pg_input) _ way e in
        let start = then_some _ (arc g pg_input first_slot) rest.0 rest.1 in
        subst (λ (w : Way). IsNotHanded w.outcome) rest.2 (here_within visit g 1 (length g.nodes) start.0 p rest.0 start.2)

no_later : (o : Outcome) → IsNotHanded o → handed_over o ≡ None
no_later (Sent interface) h = refl
no_later (Dropped node error) h = refl
no_later (Handed node worker) h = absurd h

none_goes : (accepted : Option ℕ) (o : Outcome) → IsNotHanded o → goes_together accepted o ≡ true → accepted ≡ None
none_goes None o h e = refl
none_goes (Some t) (Sent interface) h e = cc
none_goes (Some t) (Dropped node error) h e = cc
none_goes (Some t) (Handed node worker) h e = absurd h

-- a journey of one leg that no queue refused
pub record IsAlone (visit : Visit) (graphs : List Graph) (number : ℕ) (bytes : List ℕ) (choice : Choice) (j : Journey) : Type 0 where
  pub generation : ℕ
  pub graph : Graph
  pub way : Way
  pub chosen : choice ≡ record { generations = generation ∷ []; accepted = None }
  pub there : slice_get graphs generation ≡ Some graph
  pub first : first_leg visit graph 1 0 (fresh number bytes) ≡ Some way
  pub not_handed : IsNotHanded way.outcome
  pub is : j ≡ record { number = number; accepted = None; course = last_leg (record { worker = 0; generation = generation }) way }

ended : (number : ℕ) (accepted : Option ℕ) (course : Course) (j : Journey) (b : Bool) → goes_together accepted course.outcome ≡ b
    → (if b then Some (record { number = number; accepted = accepted; course = course }) else None) ≡ Some j
    → (goes_together accepted course.outcome ≡ true) × (j ≡ record { number = number; accepted = accepted; course = course })
ended number accepted course j true t e = (t, sym (same_Some _ _ e))
ended number accepted course j false t e = absurd (none-some j e)

chosen_is : (choice : Choice) (gs : List ℕ) → choice.generations ≡ gs → choice.accepted ≡ None → choice ≡ record { generations = gs; accepted = None }
chosen_is choice gs e f = (λ i. record { generations = e i; accepted = f i })

-- with one worker each journey is one
pub alone : (visit : Visit) (graphs : List Graph) (number : ℕ) (bytes : List ℕ) (choice : Choice) (j : Journey) → journey visit graphs 1 number bytes choice ≡ Some j
    → IsAlone visit graphs number bytes choice j
alone visit graphs number bytes choice j e =
    let course = then_some (finished number choice.accepted) (started visit graphs 1 number bytes choice.generations) j e in
    by_generations choice.generations refl course.0 course.1 course.2
  where
    by_way : (g : ℕ) (graph : Graph) (later : List ℕ) → choice.generations ≡ g ∷ later → slice_get graphs g ≡ Some graph → (course : Course) (o : Option Way)
        → first_leg visit graph 1 0 (fresh number bytes) ≡ o
        → legs_from visit graphs 1 0 1 g later o ≡ Some course → finished number choice.accepted course ≡ Some j → IsAlone visit graphs number bytes choice j
    by_way g graph later is there course None f s t = absurd (none-some course s)
    by_way g graph [] is there course (Some way) f s t =
        let same : course ≡ last_leg (record { worker = 0; generation = g }) way = sym (same_Some _ _ s) in
        let not_handed : IsNotHanded way.outcome = here_first visit graph (fresh number bytes) way f in
        let end = ended number choice.accepted course j (goes_together choice.accepted course.outcome) refl t in
        let none : choice.accepted ≡ None = none_goes choice.accepted way.outcome not_handed (subst (λ (c : Course). goes_together choice.accepted c.outcome ≡ true) same end.0) in
        record {
          generation = g;
          graph = graph;
          way = way;
          chosen = chosen_is choice (g ∷ []) is none;
          there = there;
          first = f;
          not_handed = not_handed;
          is = end.1 ∙ rw (none, same) refl;
        }
    by_way g graph (h ∷ later) is there course (Some way) f s t =
        let none : handed_over way.outcome ≡ None = no_later way.outcome (here_first visit graph (fresh number bytes) way f) in
        let rest = map_some _ _ course s in
        let from = then_some _ (handed_over way.outcome) rest.0 rest.1 in
        absurd (none-some from.0 (sym none ∙ from.1))

    by_generations : (gs : List ℕ) → choice.generations ≡ gs → (course : Course) → started visit graphs 1 number bytes gs ≡ Some course → finished number choice.accepted course ≡ Some j
        → IsAlone visit graphs number bytes choice j
    by_generations [] is course s t = absurd (none-some course s)
    by_generations (g ∷ later) is course s t =
        let graph = then_some (λ graph. legs_from visit graphs 1 (number % 1) 1 g later (first_leg visit graph 1 (number % 1) (fresh number bytes))) (slice_get graphs g) course s in
        let moved : legs_from visit graphs 1 0 1 g later (first_leg visit graph.0 1 0 (fresh number bytes)) ≡ Some course =
        subst (λ w. legs_from visit graphs 1 w 1 g later (first_leg visit graph.0 1 w (fresh number bytes)) ≡ Some course) (mod-one number) graph.2 in
        by_way g graph.0 later is graph.1 course (first_leg visit graph.0 1 0 (fresh number bytes)) refl moved t

-- so lawful choices are those of the packets' times alone
pub only_from : (visit : Visit) (graphs : List Graph) (count : ℕ) (first : ℕ → ℕ) (number : ℕ) (packets : List (List ℕ)) (choices : List Choice) (js : List Journey)
    → journeys_from visit graphs 1 number packets choices ≡ Some js
    → AllByRecursion (λ (j : Journey). StartsAt count (first j.number) (map (λ (l : Leg). l.generation) j.course.legs)) js
    → choices ≡ only_choices first number packets
only_from visit graphs count first number [] [] js e all = refl
only_from visit graphs count first number [] (choice ∷ choices) js e all = absurd (none-some js e)
only_from visit graphs count first number (bytes ∷ packets) [] js e all = absurd (none-some js e)
only_from visit graphs count first number (bytes ∷ packets) (choice ∷ choices) js e all =
    let j = then_some (λ j. option_map (λ js. j ∷ js) (journeys_from visit graphs 1 (suc number) packets choices)) (journey visit graphs 1 number bytes choice) js e in
    let rest = map_some (λ js. j.0 ∷ js) (journeys_from visit graphs 1 (suc number) packets choices) js j.2 in
    let lawful : AllByRecursion (λ (j : Journey). StartsAt count (first j.number) (map (λ (l : Leg). l.generation) j.course.legs)) (j.0 ∷ rest.0) =
    subst (AllByRecursion (λ (j : Journey). StartsAt count (first j.number) (map (λ (l : Leg). l.generation) j.course.legs))) (sym rest.2) all in
    let one = alone visit graphs number bytes choice j.0 j.1 in
    let starts : StartsAt count (first number) (one.generation ∷ []) = subst (λ (j : Journey). StartsAt count (first j.number) (map (λ (l : Leg). l.generation) j.course.legs)) one.is lawful.0 in
    let same : one.generation ≡ first number = starts.0 in
    let head : choice ≡ only_choice first number = one.chosen ∙ ap (λ g. record { generations = g ∷ []; accepted = None }) same in
    let tail = only_from visit graphs count first (suc number) packets choices rest.0 rest.1 lawful.1 in
    rw (head, tail) refl
