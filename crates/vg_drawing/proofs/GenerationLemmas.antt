-- For `one` and `all`: generations made one after the other, and their drawings.
use Rattle.std.proofs.Common.{◌≡◌, ℕ, zero, suc, ◌+◌, ◌-◌, ◌<◌, ◌≤◌, List, [], ◌∷◌, ◌++◌, length, take, drop, refl, sym, ap, ◌∙◌, append-nil, arith}
use Rattle.std.specs.Prelude.{Option, Some, option_map, unwrap_or, slice_get}
use Rattle.std.proofs.lemmas.List.{drop-drop}
use Rattle.vg_model.specs.Graph.{Graph}
use Rattle.vg_script.specs.Events.{events}
use Rattle.vg_plan.specs.Plan.{Planned}
use Rattle.vg_report.specs.declared.reports.Report.{Report}
use Rattle.vg_draw.specs.Prefixes.{Tables, tables_of}
use Rattle.vg_draw.specs.Drawing.{numbered, all_of}
use Rattle.vg_draw.proofs.LineLemmas.{one_more_line}
use Rattle.vg_drawing.specs.Drawn.{begin_of, first_tables, tables_before, first_drawing, generation_drawing, drawing_at}

-- the first behind so many is the one at that place
slice_get-drop : {X : Type 0} (n : ℕ) (xs : List X) → slice_get (drop n xs) 0 ≡ slice_get xs n
slice_get-drop zero xs = refl
slice_get-drop (suc n) [] = refl
slice_get-drop (suc n) (x ∷ xs) = slice_get-drop n xs

-- one at each place within
at_place : {X : Type 0} (n : ℕ) (xs : List X) → n < length xs → (x : X) × (slice_get xs n ≡ Some x)
at_place n [] h = absurd (omega (arith, h))
at_place zero (x ∷ xs) h = (x, refl)
at_place (suc n) (x ∷ xs) h = at_place n xs (omega (arith, h))

-- so many generations on, and one more
pub one_further : (generations later graphs : List Graph) (made : ℕ) → generations ≡ drop made graphs → later ≡ drop 1 generations → later ≡ drop (made + 1) graphs
one_further generations later graphs made is next = next ∙ ap (drop 1) is ∙ drop-drop 1 made graphs

-- a generation of a plan is reached: when it begins, the generations from the one before it on (of the first, from its own on), and those from it on
pub record IsReached (plan : Planned) (number from : ℕ) (earlier generations : List Graph) : Type 0 where
  pub begin : from ≡ begin_of (events plan.script) number
  pub before : earlier ≡ drop (number - 1) plan.graphs
  pub here : generations ≡ drop number plan.graphs

-- the routes of the first of the generations from the one before on
tables_at : (number : ℕ) (earlier graphs : List Graph) → earlier ≡ drop (number - 1) graphs → first_tables earlier ≡ tables_before graphs number
tables_at number earlier graphs is =
    ap first_tables is
    ∙ ap (λ (o : Option Graph). unwrap_or (option_map tables_of o) (let none : Tables = record { routes = []; routes6 = [] } in none)) (slice_get-drop (number - 1) graphs)

-- the drawing of a generation that is reached
pub drawn_at : (report : Option Report) (plan : Planned) (number from : ℕ) (earlier generations : List Graph) → IsReached plan number from earlier generations
    → first_drawing report number from (first_tables earlier) generations ≡ drawing_at report plan number
drawn_at report plan number from earlier generations is =
    ap (λ t. first_drawing report number t (first_tables earlier) generations) is.begin
    ∙ ap (λ (b : Tables). first_drawing report number (begin_of (events plan.script) number) b generations) (tables_at number earlier plan.graphs is.before)
    ∙ ap (λ (gs : List Graph). first_drawing report number (begin_of (events plan.script) number) (tables_before plan.graphs number) gs) is.here
    ∙ ap (λ (o : Option Graph). unwrap_or (option_map (generation_drawing report plan number) o) []) (slice_get-drop number plan.graphs)

-- the line of the first of some, where there is one
pub first_of_all : (f : ℕ → Graph → List ℕ) (graphs : List Graph) → 1 ≤ length graphs
    → unwrap_or (option_map (f 0) (slice_get graphs 0)) [] ≡ all_of (numbered f 0 (take 1 graphs))
first_of_all f [] h = absurd (omega (arith, h))
first_of_all f (g ∷ gs) h = sym (append-nil (f 0 g))

-- the drawings of the generations so far, and one more
pub one_more_generation : (report : Option Report) (plan : Planned) (number : ℕ) (out out' : List ℕ) → number < length plan.graphs
    → out ≡ all_of (numbered (generation_drawing report plan) 0 (take number plan.graphs)) → out' ≡ out ++ drawing_at report plan number
    → out' ≡ all_of (numbered (generation_drawing report plan) 0 (take (number + 1) plan.graphs))
one_more_generation report plan number out out' h so_far more =
    let at = at_place number plan.graphs h in
    one_more_line (generation_drawing report plan) plan.graphs number at.0 [] out out' at.1 so_far
    (more ∙ ap (λ xs. out ++ xs) (ap (λ (o : Option Graph). unwrap_or (option_map (generation_drawing report plan number) o) []) at.1))
