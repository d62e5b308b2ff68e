-- For the clauses `first` and `next` of `events_are_made`, and for `make_all`, `Plan::generations` and the functions of `Generations`: the graphs that groups
-- of edits make, one after the other.
use Rattle.std.proofs.Common.{◌≡◌, ℕ, zero, suc, ◌+◌, List, [], ◌∷◌, length, map, refl, sym, ap, ◌∙◌, arith, add-one}
use Rattle.std.proofs.lemmas.List.{length-map}
use Rattle.std.specs.Prelude.{Some, Result, Ok, Err, slice_get, option_map}
use Rattle.std.proofs.lemmas.Option.{slice_get-map}
use Rattle.vg_model.specs.declared.edits.EditLine.{EditLine}
use Rattle.vg_model.specs.Graph.{Graph}
use Rattle.vg_model.specs.Start.{start_graph}
use Rattle.vg_model.specs.Edit.{Cause, apply_all}
use Rattle.vg_model.specs.Generations.{Graphs, in_front, after_groups}
use Rattle.vg_script.specs.Events.{Event, events}
use Rattle.vg_plan.specs.Plan.{Planned, IsPlan, EventsAreMade}

-- a graph in front of others makes one list with them
pub front_of : (g : Graph) (rest : Graphs) (graphs : List Graph) → in_front g rest ≡ Ok graphs → (others : List Graph) × (rest ≡ Ok others) × (graphs ≡ g ∷ others)
front_of g (Ok others) graphs e = (others, refl, cc)
front_of g (Err refusal) graphs e = cc

-- there is one graph more than groups
pub length_after : (r : Result Graph (ℕ × Cause)) (groups : List (List EditLine)) (graphs : List Graph) → after_groups r groups ≡ Ok graphs → length graphs ≡ length groups + 1
length_after (Err refusal) groups graphs e = cc
length_after (Ok g) [] graphs e =
    let one : graphs ≡ g ∷ [] = cc in
    ap length one
length_after (Ok g) (edits ∷ groups) graphs e =
    let front = front_of g (after_groups (apply_all g edits) groups) graphs e in
    let others = length_after (apply_all g edits) groups front.0 front.1 in
    let long = ap length front.2 in
    omega arith

-- the first graph is that which the groups are made of
first_after : (r : Result Graph (ℕ × Cause)) (groups : List (List EditLine)) (graphs : List Graph) → after_groups r groups ≡ Ok graphs → (g : Graph) × (r ≡ Ok g) × (slice_get graphs 0 ≡ Some g)
first_after (Err refusal) groups graphs e = cc
first_after (Ok g) [] graphs e =
    let one : graphs ≡ g ∷ [] = cc in
    (g, refl, ap (λ l. slice_get l 0) one)
first_after (Ok g) (edits ∷ groups) graphs e =
    let front = front_of g (after_groups (apply_all g edits) groups) graphs e in
    (g, refl, ap (λ l. slice_get l 0) front.2)

-- a group's edits make its graph of the one before
pub next_after : (r : Result Graph (ℕ × Cause)) (groups : List (List EditLine)) (graphs : List Graph) → after_groups r groups ≡ Ok graphs
    → (n : ℕ) (edits : List EditLine) → slice_get groups n ≡ Some edits
    → (before after : Graph) × (slice_get graphs n ≡ Some before) × (slice_get graphs (suc n) ≡ Some after) × (apply_all before edits ≡ Ok after)
next_after (Err refusal) groups graphs e n edits is = cc
next_after (Ok g) [] graphs e n edits is = cc
next_after (Ok g) (group ∷ groups) graphs e zero edits is =
    let front = front_of g (after_groups (apply_all g group) groups) graphs e in
    let first = first_after (apply_all g group) groups front.0 front.1 in
    let same : group ≡ edits = cc in
    (g, first.0, ap (λ l. slice_get l 0) front.2, ap (λ l. slice_get l 1) front.2 ∙ first.2, ap (apply_all g) (sym same) ∙ first.1)
next_after (Ok g) (group ∷ groups) graphs e (suc n) edits is =
    let front = front_of g (after_groups (apply_all g group) groups) graphs e in
    let rest = next_after (apply_all g group) groups front.0 front.1 n edits is in
    (rest.0, rest.1, ap (λ l. slice_get l (suc n)) front.2 ∙ rest.2, ap (λ l. slice_get l (suc (suc n))) front.2 ∙ rest.3, rest.4)

-- a plan has one graph more than events
pub length_graphs : (plan : Planned) → IsPlan plan → length plan.graphs ≡ length (events plan.script) + 1
length_graphs plan is =
    length_after (apply_all start_graph plan.script.start) (map (λ (e : Event). e.edits) (events plan.script)) plan.graphs is.made
    ∙ ap (λ n. n + 1) (length-map (events plan.script) (λ (e : Event). e.edits))

-- generation 0 is the start graph with the edits outside blocks
pub first_graph : (plan : Planned) → IsPlan plan → (g : Graph) × (apply_all start_graph plan.script.start ≡ Ok g) × (slice_get plan.graphs 0 ≡ Some g)
first_graph plan is = first_after (apply_all start_graph plan.script.start) (map (λ (e : Event). e.edits) (events plan.script)) plan.graphs is.made

-- the edits of each event can be made
pub all_made : (plan : Planned) → IsPlan plan → EventsAreMade plan
all_made plan is g event at =
    let edits : slice_get (map (λ (e : Event). e.edits) (events plan.script)) g ≡ Some event.edits =
    slice_get-map (λ (e : Event). e.edits) (events plan.script) g ∙ ap (option_map (λ (e : Event). e.edits)) at in
    let made = next_after (apply_all start_graph plan.script.start) (map (λ (e : Event). e.edits) (events plan.script)) plan.graphs is.made g event.edits edits in
    (made.0, made.1, made.2, ap (slice_get plan.graphs) (add-one g) ∙ made.3, made.4)
