-- For `trips_are_journeys` of vg_journeys, and `take_leg` and `go_on` of vg_replay: a journey goes on by one leg. And for the proofs of all crates
-- above: what is there after a function, or after a step that may fail, was there before it.
use Rattle.std.proofs.Common.{◌≡◌, ℕ, suc, ◌+◌, List, [], ◌∷◌, ◌++◌, length, refl, sym, ap, subst, ◌∙◌, arith, zero-add, append_assoc}
use Rattle.std.specs.Prelude.{Option, Some, None, option_map, option_and_then, slice_get}
use Rattle.std.proofs.lemmas.Option.{none-some, same_Some}
use Rattle.vg_model.specs.declared.fates.Leg.{Leg}
use Rattle.vg_model.specs.Graph.{Graph, handoff_dequeue}
use Rattle.vg_model.specs.Leg.{Way, Handed}
use Rattle.vg_model.specs.Visit.{Visit}
use Rattle.vg_model.specs.Journey.{Course, leg_from, legs_from, last_leg, then_course, handed_over}

-- what is there after a function was there before it
pub map_some : {A B : Type 0} (f : A → B) (o : Option A) (y : B) → option_map f o ≡ Some y → (x : A) × (o ≡ Some x) × (f x ≡ y)
map_some f None y e = absurd (none-some y e)
map_some f (Some x) y e = (x, refl, same_Some _ _ e)

-- what is there after a step that may fail was there before it
pub then_some : {A B : Type 0} (f : A → Option B) (o : Option A) (y : B) → option_and_then f o ≡ Some y → (x : A) × (o ≡ Some x) × (f x ≡ Some y)
then_some f None y e = absurd (none-some y e)
then_some f (Some x) y e = (x, refl, e)

-- the journey with one more leg
abbrev pub extended : Course → Leg → Way → Course
extended rest here way = record { legs = rest.legs ++ here ∷ []; outcome = way.outcome; packet = way.packet; visits = rest.visits ++ way.visits }

-- a journey from a leg on has that leg
some_way : (visit : Visit) (graphs : List Graph) (workers worker leg_number generation : ℕ) (later : List ℕ) (o : Option Way) (rest : Course)
    → legs_from visit graphs workers worker leg_number generation later o ≡ Some rest → (way : Way) × (o ≡ Some way)
some_way visit graphs workers worker leg_number generation later None rest e = absurd (none-some rest (sym (none_later visit graphs workers worker leg_number generation later) ∙ e))
  where
    none_later : (visit : Visit) (graphs : List Graph) (workers worker leg_number generation : ℕ) (later : List ℕ) → legs_from visit graphs workers worker leg_number generation later None ≡ None
    none_later visit graphs workers worker leg_number generation [] = refl
    none_later visit graphs workers worker leg_number generation (g ∷ later) = refl
some_way visit graphs workers worker leg_number generation later (Some way) rest e = (way, refl)

-- a leg that hands the packet over, and the legs after it
pub legs_front : (visit : Visit) (graphs : List Graph) (workers worker leg_number generation h : ℕ) (later : List ℕ) (way : Way) (from : ℕ × ℕ) (graph : Graph)
    → handed_over way.outcome ≡ Some from → slice_get graphs h ≡ Some graph
    → legs_from visit graphs workers worker leg_number generation (h ∷ later) (Some way)
    ≡ option_map (then_course (record { worker = worker; generation = generation }) way)
    (legs_from visit graphs workers from.1 (suc leg_number) h later (leg_from visit graph workers from.1 (suc leg_number) handoff_dequeue from.0 way.packet))
legs_front visit graphs workers worker leg_number generation h later way from graph o e = rw (o, e) refl

-- where the last leg handed the packet over, the journey goes on by the next leg
pub one_more_leg : (visit : Visit) (graphs : List Graph) (workers worker leg_number generation : ℕ) (later : List ℕ) (way : Way) (rest : Course)
    (node to g : ℕ) (graph : Graph) (next : Way)
    → legs_from visit graphs workers worker leg_number generation later (Some way) ≡ Some rest
    → rest.outcome ≡ Handed node to → slice_get graphs g ≡ Some graph
    → leg_from visit graph workers to (suc (length later + leg_number)) handoff_dequeue node rest.packet ≡ Some next
    → legs_from visit graphs workers worker leg_number generation (later ++ g ∷ []) (Some way) ≡ Some (extended rest (record { worker = to; generation = g }) next)
one_more_leg visit graphs workers worker leg_number generation [] way rest node to g graph next e over here leg =
    let first : Leg = record { worker = worker; generation = generation } in
    let same : last_leg first way ≡ rest = same_Some _ _ e in
    let o : way.outcome ≡ Handed node to = ap (λ r. r.outcome) same ∙ over in
    let again : leg_from visit graph workers to (suc leg_number) handoff_dequeue node way.packet ≡ Some next =
    subst (λ r. leg_from visit graph workers to (suc leg_number) handoff_dequeue node r.packet ≡ Some next) (sym same)
    (subst (λ k. leg_from visit graph workers to (suc k) handoff_dequeue node rest.packet ≡ Some next) (zero-add leg_number) leg) in
    legs_front visit graphs workers worker leg_number generation g [] way (node, to) graph (ap handed_over o) here
    ∙ ap (λ w. option_map (then_course first way) (legs_from visit graphs workers to (suc leg_number) g [] w)) again
    ∙ ap (λ r. Some (extended r (record { worker = to; generation = g }) next)) same
one_more_leg visit graphs workers worker leg_number generation (h ∷ later) way rest node to g graph next e over here leg =
    let first : Leg = record { worker = worker; generation = generation } in
    let s1 = map_some (then_course first way) _ rest e in
    let s2 = then_some _ (handed_over way.outcome) s1.0 s1.1 in
    let s3 = then_some _ (slice_get graphs h) s1.0 s2.2 in
    let s4 = some_way visit graphs workers s2.0.1 (suc leg_number) h later _ s1.0 s3.2 in
    let more = one_more_leg visit graphs workers s2.0.1 (suc leg_number) h later s4.0 s1.0 node to g graph next
    (subst (λ o. legs_from visit graphs workers s2.0.1 (suc leg_number) h later o ≡ Some s1.0) s4.1 s3.2)
    (ap (λ r. r.outcome) s1.2 ∙ over) here
    (subst (λ r. leg_from visit graph workers to (suc (length later + suc leg_number)) handoff_dequeue node r.packet ≡ Some next) (sym s1.2)
    (subst (λ k. leg_from visit graph workers to k handoff_dequeue node rest.packet ≡ Some next) (omega arith) leg)) in
    legs_front visit graphs workers worker leg_number generation h (later ++ g ∷ []) way s2.0 s3.0 s2.1 s3.1
    ∙ ap (λ w. option_map (then_course first way) (legs_from visit graphs workers s2.0.1 (suc leg_number) h (later ++ g ∷ []) w)) s4.1
    ∙ ap (option_map (then_course first way)) more
    ∙ ap (λ vs. Some (record { legs = first ∷ (s1.0.legs ++ record { worker = to; generation = g } ∷ []); outcome = next.outcome; packet = next.packet; visits = vs }))
    (sym (append_assoc way.visits s1.0.visits next.visits))
    ∙ ap (λ r. Some (extended r (record { worker = to; generation = g }) next)) s1.2
