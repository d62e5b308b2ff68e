-- For seats_of, next_forks, decide and conclude: from one generation to the next, and the start and the end of all of them.
use Rattle.std.proofs.Common.{◌≡◌, ℕ, zero, suc, ◌+◌, ◌-◌, ◌<◌, List, [], ◌∷◌, length, map, drop, refl, sym, ap, subst, ◌∙◌, arith, zero-add}
use Rattle.std.specs.Prelude.{Some, Result, Ok, Err, IfOk, option_map, slice_get}
use Rattle.std.specs.List.{enumerate_from}
use Rattle.std.proofs.lemmas.List.{length-map}
use Rattle.std.proofs.lemmas.List.FromFn.{length-enumerate_from}
use Rattle.std.proofs.lemmas.Option.{none-some, same_Some}
use Rattle.vg_model.specs.Edit.{Cause, apply_all}
use Rattle.vg_model.specs.Graph.{Graph, with_routes}
use Rattle.vg_capture.specs.declared.captures.Capture.{Capture}
use Rattle.vg_script.specs.Events.{Event, events}
use Rattle.vg_plan.specs.Plan.{Planned, IsPlan, windows, limit_of}
use Rattle.vg_plan.proofs.GenerationLemmas.{length_graphs, all_made}
use Rattle.vg_threads.specs.Turns.{MakesNext, CanMakeNext, IsAt, IsLastGraph}

-- the generations with something of their numbers
numbered : (ℕ → ℕ) → ℕ → List Graph → List (Graph × ℕ)
numbered f number graphs = map {B = Graph × ℕ} (λ g. (g.1, f g.0)) (enumerate_from number graphs)

number_at : (f : ℕ → ℕ) (number : ℕ) (graphs : List Graph) (i r : ℕ) → option_map (λ (window : Graph × ℕ). window.1) (slice_get (numbered f number graphs) i) ≡ Some r → r ≡ f (number + i)
unfolding numbered
number_at f number [] i r e = absurd (none-some r e)
number_at f number (g ∷ graphs) zero r e = sym (same_Some (f number) r e) ∙ ap f (omega arith)
number_at f number (g ∷ graphs) (suc i) r e = number_at f (number + 1) graphs i r e ∙ ap f (omega arith)

-- the limit that a book gives
pub limit_is : (plan : Planned) (capture : Capture) (book : List (Graph × ℕ)) (generation r : ℕ) → book ≡ windows plan capture
    → option_map (λ (window : Graph × ℕ). window.1) (slice_get book generation) ≡ Some r → r ≡ limit_of plan.script capture generation
unfolding numbered
limit_is plan capture book generation r is e =
    number_at (limit_of plan.script capture) 0 plan.graphs generation r (subst (λ b. option_map (λ (window : Graph × ℕ). window.1) (slice_get b generation) ≡ Some r) is e)
    ∙ ap (limit_of plan.script capture) (zero-add generation)

numbered_at : (f : ℕ → ℕ) (number : ℕ) (graphs : List Graph) (i : ℕ) (graph : Graph) → slice_get graphs i ≡ Some graph → slice_get (numbered f number graphs) i ≡ Some (graph, f (number + i))
unfolding numbered
numbered_at f number [] i graph e = absurd (none-some graph e)
numbered_at f number (g ∷ graphs) zero graph e = let same : g ≡ graph = same_Some g graph e in let at : number ≡ number + 0 = omega arith in λ i. Some (same i, f (at i))
numbered_at f number (g ∷ graphs) (suc i) graph e = let at : (number + 1) + i ≡ number + suc i = omega arith in numbered_at f (number + 1) graphs i graph e ∙ ap (λ n. Some (graph, f n)) at

-- a generation's graph and its limit are the book's
pub window_is : (plan : Planned) (capture : Capture) (book : List (Graph × ℕ)) (generation limit : ℕ) (graph : Graph) → book ≡ windows plan capture
    → slice_get plan.graphs generation ≡ Some graph → option_map (λ (window : Graph × ℕ). window.1) (slice_get book generation) ≡ Some limit → slice_get book generation ≡ Some (graph, limit)
unfolding numbered
window_is plan capture book generation limit graph is graph_is limit_is =
    let f : ℕ → ℕ = limit_of plan.script capture in
    let at : slice_get book generation ≡ Some (graph, f (0 + generation)) = ap (λ b. slice_get b generation) is ∙ numbered_at f 0 plan.graphs generation graph graph_is in
    let same : f (0 + generation) ≡ limit = same_Some (f (0 + generation)) limit (sym (ap (option_map (λ (window : Graph × ℕ). window.1)) at) ∙ limit_is) in
    at ∙ ap (λ n. Some (graph, n)) same

-- a book has a limit for each graph
pub book_length : (plan : Planned) (capture : Capture) (book : List (Graph × ℕ)) → book ≡ windows plan capture → length book ≡ length plan.graphs
book_length plan capture book is =
    let pairs : ℕ × Graph → Graph × ℕ = λ g. (g.1, limit_of plan.script capture g.0) in
    ap length is ∙ length-map (enumerate_from 0 plan.graphs) pairs ∙ length-enumerate_from 0 plan.graphs

some_left : {X : Type 0} (past : ℕ) (xs : List X) → past < length xs → (x : X) × (rest : List X) × (slice_get xs past ≡ Some x) × (drop past xs ≡ x ∷ rest)
some_left past [] h = absurd (let k : past < 0 = h in omega (arith, k))
some_left zero (x ∷ xs) h = (x, xs, refl, refl)
some_left (suc past) (x ∷ xs) h = some_left past xs (omega (arith, h))

-- before the last generation an event is left, and its edits can be made
pub can_make_next : (plan : Planned) (generation : ℕ) (left : List Event) (before : Graph) → IsPlan plan → IsAt plan generation left before → generation + 1 < length plan.graphs
    → CanMakeNext left before
can_make_next plan generation left before is at h =
    let count = length_graphs plan is in
    let first = some_left generation (events plan.script) (omega (arith, count, h)) in
    let step = all_made plan is generation first.0 first.2 in
    let same : step.0 ≡ before = same_Some step.0 before (sym step.2 ∙ at.graph) in (
      first.1,
      step.1,
      record { event = first.0; first = at.left ∙ first.3; made = subst (λ g. apply_all g first.0.edits ≡ Ok step.1) same step.4 },
    )

drop_first : {X : Type 0} (past : ℕ) (xs : List X) (x : X) (rest : List X) → drop past xs ≡ x ∷ rest → (slice_get xs past ≡ Some x) × (drop (past + 1) xs ≡ rest)
drop_first zero [] x rest e = cc
drop_first (suc past) [] x rest e = cc
drop_first zero (y ∷ xs) x rest e = ((let same : y ≡ x = cc in ap Some same), (let same : xs ≡ rest = cc in same))
drop_first (suc past) (y ∷ xs) x rest e =
    let found = drop_first past xs x rest e in
    (found.0, ap (λ n. drop n (y ∷ xs)) (let k : suc past + 1 ≡ suc (past + 1) = omega arith in k) ∙ found.1)

same_ok : (r : Result Graph (ℕ × Cause)) (g h : Graph) → r ≡ Ok g → r ≡ Ok h → g ≡ h
same_ok r g h d e = cc

-- the edits of the first event that is left make the next generation's graph
pub next_at : (plan : Planned) (generation : ℕ) (left rest : List Event) (before after : Graph) → IsPlan plan → IsAt plan generation left before
    → MakesNext left before rest after → IsAt plan (generation + 1) rest after
next_at plan generation left rest before after is at makes =
    let parts = drop_first generation (events plan.script) makes.event rest (sym at.left ∙ makes.first) in
    let step = all_made plan is generation makes.event parts.0 in
    let same : step.0 ≡ before = same_Some step.0 before (sym step.2 ∙ at.graph) in
    let made : apply_all before makes.event.edits ≡ Ok step.1 = subst (λ g. apply_all g makes.event.edits ≡ Ok step.1) same step.4 in
    let next : step.1 ≡ after = same_ok (apply_all before makes.event.edits) step.1 after made makes.made in
    record { left = sym parts.1; graph = step.3 ∙ ap Some next }

-- the graph of the last generation
pub last_graph_is : (plan : Planned) (generation : ℕ) (left : List Event) (g part : Graph) → IsAt plan generation left g → generation + 1 ≡ length plan.graphs
    → with_routes part g.routes g.routes6 ≡ g → IsLastGraph plan.graphs part
last_graph_is plan generation left g part at end parts =
    record {
      whole = g;
      is = ap (slice_get plan.graphs) (let same : length plan.graphs - 1 ≡ generation = omega (arith, end) in same) ∙ at.graph;
      parts = parts;
    }

-- what holds of a value where there is one
pub if_ok : {X E : Type 0} (r : Result X E) (P Q : X → Type 0) → IfOk r P → ((x : X) → P x → Q x) → IfOk r Q
if_ok (Ok x) P Q h each = each x h
if_ok (Err e) P Q h each = tt
