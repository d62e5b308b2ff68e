-- For the clauses of `Generations::{of, master, into_master, advance}`: generations that are made one after the other.
use Rattle.std.proofs.Common.{◌≡◌, ℕ, ◌+◌, ◌<◌, ◌≤◌, List, [], ◌∷◌, length, map, get_or, drop, sym, ap, ◌∙◌, arith}
use Rattle.std.specs.Prelude.{Some, Ok, Err, slice_get}
use Rattle.std.proofs.lemmas.List.{drop_more, drop_all}
use Rattle.std.proofs.lemmas.Option.{same_Some}
use Rattle.std.proofs.lemmas.Simd.{map-map}
use Rattle.vg_model.specs.declared.edits.EditLine.{EditLine}
use Rattle.vg_model.specs.Edit.{apply_all}
use Rattle.vg_model.specs.Generations.{Graphs, after_groups}
use Rattle.vg_model.specs.Graph.{Graph}
use Rattle.vg_script.specs.Events.{Event, events}
use Rattle.vg_plan.specs.declared.events.Run.{Run}
use Rattle.vg_plan.specs.Left.{edits_left, graphs_left, IsLeft}
use Rattle.vg_plan.specs.Plan.{Planned, IsPlan}
use Rattle.vg_plan.specs.Run.{seen}
use Rattle.vg_plan.proofs.GenerationLemmas.{first_graph, front_of}

-- the graphs that can be made
left_are : (r : Graphs) (graphs : List Graph) → r ≡ Ok graphs → elim r as (λ (made : Graphs). List Graph) [ Ok graphs ↦ graphs | Err refusal ↦ [] ] ≡ graphs
left_are r graphs e = ap (λ (made : Graphs). elim made as (λ (made : Graphs). List Graph) [ Ok graphs ↦ graphs | Err refusal ↦ [] ]) e

-- all generations of a plan, by its first graph and its runs
pub all_left : (plan : Planned) (g : Graph) (runs : List Run) → IsPlan plan → slice_get plan.graphs 0 ≡ Some g → map seen runs ≡ events plan.script
    → after_groups (Ok g) (edits_left 0 runs) ≡ Ok plan.graphs
all_left plan g runs is first are =
    let begun = first_graph plan is in
    let same : begun.0 ≡ g = same_Some _ _ (sym begun.2 ∙ first) in
    let groups : edits_left 0 runs ≡ map (λ (e : Event). e.edits) (events plan.script) =
    sym (map-map (λ (e : Event). e.edits) seen runs) ∙ ap (map (λ (e : Event). e.edits)) are in
    ap (after_groups (Ok g)) groups
    ∙ ap (λ r. after_groups r (map (λ (e : Event). e.edits) (events plan.script))) (ap Ok (sym same) ∙ sym begun.1)
    ∙ is.made

pub is_left : (plan : Planned) (g : Graph) (runs : List Run) → IsPlan plan → slice_get plan.graphs 0 ≡ Some g → map seen runs ≡ events plan.script → IsLeft g 0 runs
is_left plan g runs is first are = record { graphs = plan.graphs; are = all_left plan g runs is first are }

pub graphs_of_plan : (plan : Planned) (g : Graph) (runs : List Run) → IsPlan plan → slice_get plan.graphs 0 ≡ Some g → map seen runs ≡ events plan.script → graphs_left g 0 runs ≡ plan.graphs
graphs_of_plan plan g runs is first are = left_are _ _ (all_left plan g runs is first are)

-- the first graph is the one at hand
first_made : (g : Graph) (groups : List (List EditLine)) (graphs : List Graph) → after_groups (Ok g) groups ≡ Ok graphs → slice_get graphs 0 ≡ Some g
first_made g [] graphs e = let same : g ∷ [] ≡ graphs = cc in ap (λ l. slice_get l 0) (sym same)
first_made g (edits ∷ groups) graphs e = ap (λ l. slice_get l 0) (front_of g (after_groups (apply_all g edits) groups) graphs e).2

pub first_left : (g : Graph) (made : ℕ) (runs : List Run) → IsLeft g made runs → slice_get (graphs_left g made runs) 0 ≡ Some g
first_left g made runs left = ap (λ l. slice_get l 0) (left_are _ _ left.are) ∙ first_made g (edits_left made runs) left.graphs left.are

-- where there is a second graph, a run is left
past_none : (g : Graph) (graphs : List Graph) → after_groups (Ok g) [] ≡ Ok graphs → length graphs ≡ 1
past_none g graphs e = let same : g ∷ [] ≡ graphs = cc in ap length (sym same)

run_is_left : (g : Graph) (made : ℕ) (runs : List Run) → IsLeft g made runs → 2 ≤ length (graphs_left g made runs) → length runs ≤ made → ⊥
run_is_left g made runs left two past =
    let none : edits_left made runs ≡ [] = ap (map (λ (run : Run). run.edits.now)) (drop_all made runs past) in
    let one : length left.graphs ≡ 1 = past_none g left.graphs (ap (after_groups (Ok g)) (sym none) ∙ left.are) in
    let count : length (graphs_left g made runs) ≡ length left.graphs = ap length (left_are _ _ left.are) in
    omega (arith, two, one, count)

pub run_within : (g : Graph) (made : ℕ) (runs : List Run) → IsLeft g made runs → 2 ≤ length (graphs_left g made runs) → made < length runs
run_within g made runs left two = let no : length runs ≤ made → ⊥ = run_is_left g made runs left two in omega (arith, no)

-- the graphs behind the next run
behind_next : (g after : Graph) (made : ℕ) (runs : List Run) (run : Run) → IsLeft g made runs → made < length runs → run ≡ get_or runs made run → apply_all g run.edits.now ≡ Ok after
    → (others : List Graph) × (after_groups (Ok after) (edits_left (made + 1) runs) ≡ Ok others) × (graphs_left g made runs ≡ g ∷ others)
behind_next g after made runs run left within is applied =
    let next : edits_left made runs ≡ run.edits.now ∷ edits_left (made + 1) runs =
    ap (map (λ (run : Run). run.edits.now)) (drop_more runs made run within ∙ ap (λ r. r ∷ drop (made + 1) runs) (sym is)) in
    let front = front_of g (after_groups (apply_all g run.edits.now) (edits_left (made + 1) runs)) left.graphs (ap (after_groups (Ok g)) (sym next) ∙ left.are) in
    (front.0, ap (λ r. after_groups r (edits_left (made + 1) runs)) (sym applied) ∙ front.1, left_are _ _ left.are ∙ front.2)

pub left_next : (g after : Graph) (made : ℕ) (runs : List Run) (run : Run) → IsLeft g made runs → made < length runs → run ≡ get_or runs made run → apply_all g run.edits.now ≡ Ok after
    → IsLeft after (made + 1) runs
left_next g after made runs run left within is applied =
    let rest = behind_next g after made runs run left within is applied in
    record { graphs = rest.0; are = rest.1 }

pub graphs_next : (g after : Graph) (made : ℕ) (runs : List Run) (run : Run) → IsLeft g made runs → made < length runs → run ≡ get_or runs made run → apply_all g run.edits.now ≡ Ok after
    → graphs_left after (made + 1) runs ≡ drop 1 (graphs_left g made runs)
graphs_next g after made runs run left within is applied =
    let rest = behind_next g after made runs run left within is applied in
    left_are _ _ rest.1 ∙ sym (ap (drop 1) rest.2)
