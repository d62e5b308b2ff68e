-- For `Stages`: generations that are kept, and the next one.
use Rattle.std.proofs.Common.{◌≡◌, ◌⊎◌, ℕ, zero, suc, ◌+◌, ◌-◌, ◌<◌, ◌≤◌, Bool, false, ◌==◌, map, get_or, List, [], ◌∷◌, ◌++◌, length, drop, max, min, refl, sym, ap, subst, ◌∙◌, inl, inr, arith, length-append, length-drop}
use Rattle.std.specs.Borrow.{Bor}
use Rattle.std.specs.Option.{option_copied}
use Rattle.std.specs.Prelude.{Option, Some, None, IfSome, slice_get, slice_index_or, slice_set, option_map, unwrap_or, if◌then◌else◌}
use Rattle.std.proofs.lemmas.List.{drop-drop, get_or-map, get_or_append_left, get_or-set_same, get_or-set_other, get_or_past}
use Rattle.std.proofs.Math.ListN.{length-set}
use Rattle.std.proofs.Math.Seq.{get_or-append_seam}
use Rattle.std.proofs.lemmas.Option.{slice_get_read, slice_get-map, slice_get_past, unwrap_or-slice_get}
use Rattle.vg_model.specs.Graph.{Graph}
use Rattle.vg_plan.specs.Plan.{Planned}
use Rattle.vg_story.specs.declared.stages.Stage.{Stage}
use Rattle.vg_script.specs.declared.scripts.Script.{Script}
use Rattle.vg_script.specs.Events.{events}
use Rattle.vg_plan.specs.declared.events.Run.{Run}
use Rattle.vg_plan.specs.Run.{seen}
use Rattle.vg_ways.specs.Events.{event_of}
use Rattle.vg_ways.specs.declared.lines.RouteLines.{RouteLines}
use Rattle.vg_ways.specs.Lines.{lined, route_line, route6_line}
use Rattle.vg_ways.specs.LinesView.{line_in, line6_in, AreLinesOf}
use Rattle.vg_ways.specs.Stages.{AreForgotten, IsStageOf, IsStageWith, IsKeptOf}
use Rattle.vg_ways.proofs.ReadLemmas.{IsRead}
use Rattle.vg_ways.proofs.LineLemmas.{lined_same}

-- what is kept of the first generations
abbrev pub AreKept : Planned → List (Option Stage) → Type 0
AreKept plan made = (g : ℕ) → g < length made → IsKeptOf plan g (slice_index_or made g None)

-- what is kept of a generation, also of one that wasn't made
pub kept_of : (plan : Planned) (made : List (Option Stage)) (g : ℕ) → AreKept plan made → IsKeptOf plan g (slice_index_or made g None)
kept_of plan made g kept =
    let cases : (g < length made) ⊎ (length made ≤ g) = grind arith in
    elim cases [
      | inl within ↦ kept g within
      | inr past ↦ subst (IsKeptOf plan g) (sym (get_or_past made g None past)) tt
    ]

-- it is what the list has at its place
pub kept_read : (made : List (Option Stage)) (g : ℕ) (o : Option (Option Stage)) → slice_get made g ≡ o → slice_index_or made g None ≡ unwrap_or o None
kept_read made g o at = sym (unwrap_or-slice_get made g None) ∙ ap (λ o. unwrap_or o None) at

-- a reference to what is kept, where it is
pub kept_behind : (plan : Planned) (g : ℕ) (found : Option (Bor Stage)) (kept : Option Stage) → option_copied found ≡ kept → IsKeptOf plan g kept
    → IfSome found (λ stage. IsStageOf plan g stage.now)
kept_behind plan g None kept same is = tt
kept_behind plan g (Some stage) kept same is = subst (IsKeptOf plan g) (sym same) is

-- one generation more
pub kept_push : (plan : Planned) (made : List (Option Stage)) (stage : Stage) → AreKept plan made → IsStageOf plan (length made) stage → AreKept plan (made ++ Some stage ∷ [])
kept_push plan made stage kept is g h =
    let long = length-append made (Some stage ∷ []) in
    let cases : (g < length made) ⊎ (g ≡ length made) = grind (arith, long, h) in
    elim cases [
      | inl before ↦ subst (IsKeptOf plan g) (sym (get_or_append_left made (Some stage ∷ []) None g before)) (kept g before)
      | inr last ↦ subst (λ k. IsKeptOf plan k (slice_index_or (made ++ Some stage ∷ []) k None)) (sym last)
          (subst (IsKeptOf plan (length made)) (sym (get_or-append_seam made (Some stage) [] None)) is)
    ]

-- nothing is forgotten yet
pub none_forgotten : (from : ℕ) (made : List (Option Stage)) → AreForgotten from from made made
none_forgotten from made = record {
  len = refl;
  none = λ place least most. absurd (omega (arith, least, most));
  below = λ place h. refl;
  above = λ place h. refl;
}

-- one place more
pub forgotten_more : {from place : ℕ} {old made : List (Option Stage)} → from ≤ place → place < length old → AreForgotten from place old made
    → AreForgotten from (place + 1) old (slice_set made place None)
forgotten_more {from = from} {place = place} {old = old} {made = made} least within are =
    let long = are.len in
    let inside : place < length made = omega (arith, long, within) in
    record {
      len = length-set made place None ∙ are.len;
      none = λ k low high.
          let cases : (k < place) ⊎ (place ≡ k) = grind arith in
          elim cases [
            | inl before ↦ get_or-set_other made place k None None (λ e. absurd (omega (arith, e, before))) ∙ are.none k low before
            | inr same ↦ subst (λ n. slice_index_or (slice_set made place None) n None ≡ None) same (get_or-set_same made place None None inside)
          ];
      below = λ k h. get_or-set_other made place k None None (λ e. absurd (omega (arith, e, h, least))) ∙ are.below k h;
      above = λ k h. get_or-set_other made place k None None (λ e. absurd (omega (arith, e, h))) ∙ are.above k (omega (arith, h));
    }

-- what is kept of the generations once some are forgotten
pub kept_forgotten : (plan : Planned) {from before : ℕ} {old new : List (Option Stage)} → AreForgotten from before old new → AreKept plan old → AreKept plan new
kept_forgotten plan {from = from} {before = before} {old = old} {new = new} are kept g h =
    let long = are.len in
    let within : g < length old = omega (arith, long, h) in
    let cases : (g < from) ⊎ ((before ≤ g) ⊎ ((from ≤ g) × (g < before))) = grind arith in
    elim cases [
      | inl low ↦ subst (IsKeptOf plan g) (sym (are.below g low)) (kept g within)
      | inr other ↦ elim other [
        | inl high ↦ subst (IsKeptOf plan g) (sym (are.above g high)) (kept g within)
        | inr between ↦ subst (IsKeptOf plan g) (sym (are.none g between.0 between.1)) tt
      ]
    ]

-- the place up to which they are forgotten is none behind the end
pub place_few : (asked : ℕ) {before len from : ℕ} → before ≡ max (min len asked) from → from ≤ len → before ≤ len
place_few asked place few = omega (arith, place, few)

-- none is kept before the place up to which they are forgotten
pub none_below : {from before : ℕ} {old new : List (Option Stage)} → AreForgotten from before old new → ((g : ℕ) → g < from → slice_index_or old g None ≡ None)
    → (g : ℕ) → g < before → slice_index_or new g None ≡ None
none_below {from = from} are gone g h =
    let cases : (g < from) ⊎ (from ≤ g) = grind arith in
    elim cases [ inl low ↦ are.below g low ∙ gone g low | inr least ↦ are.none g least h ]

-- nor where that place is the end of those that were made
pub none_before : {from before : ℕ} (asked : ℕ) {old new : List (Option Stage)} → AreForgotten from before old new → ((g : ℕ) → g < from → slice_index_or old g None ≡ None)
    → before ≡ max (min (length old) asked) from → (g : ℕ) → g < asked → slice_index_or new g None ≡ None
none_before {before = before} asked {old = old} {new = new} are gone place g h =
    let cases : (g < before) ⊎ (length old ≤ g) = grind arith in
    elim cases [
      | inl low ↦ none_below are gone g low
      | inr past ↦ get_or_past new g None (let long = are.len in omega (arith, long, past))
    ]

-- those from there on stay
pub others_stay : {from before : ℕ} (asked : ℕ) {old new : List (Option Stage)} → AreForgotten from before old new
    → before ≡ max (min (length old) asked) from → (g : ℕ) → asked ≤ g → slice_index_or new g None ≡ slice_index_or old g None
others_stay {from = from} {before = before} asked are place g h =
    let cases : (g < from) ⊎ (before ≤ g) = grind arith in
    elim cases [ inl low ↦ are.below g low | inr high ↦ are.above g high ]

-- one generation more leaves those before as they are
pub forgotten_push : (made : List (Option Stage)) (stage : Option Stage) (from : ℕ) → from ≤ length made → ((g : ℕ) → g < from → slice_index_or made g None ≡ None)
    → (g : ℕ) → g < from → slice_index_or (made ++ stage ∷ []) g None ≡ None
forgotten_push made stage from few gone g h = get_or_append_left made (stage ∷ []) None g (omega (arith, few, h)) ∙ gone g h

-- the first of those from a place on
get_drop : {X : Type 0} (xs : List X) (k : ℕ) → slice_get (drop k xs) 0 ≡ slice_get xs k
get_drop [] zero = refl
get_drop [] (suc k) = refl
get_drop (x ∷ xs) zero = refl
get_drop (x ∷ xs) (suc k) = get_drop xs k

-- there is a next generation
pub two_left : (graphs later : List Graph) (n : ℕ) → 1 ≤ n → n < length graphs → later ≡ drop (n - 1) graphs → 2 ≤ length later
two_left graphs later n some few left = (let e = ap length left in let cut = length-drop (n - 1) graphs in omega (arith, e, cut, few, some))

-- those from the next one on
pub next_left : (graphs : List Graph) {later next : List Graph} (n : ℕ) → 1 ≤ n → later ≡ drop (n - 1) graphs → next ≡ drop 1 later → next ≡ drop n graphs
next_left graphs n some left is =
    is ∙ ap (drop 1) left ∙ drop-drop 1 (n - 1) graphs ∙ ap (λ k. drop k graphs) (let same : n - 1 + 1 ≡ n = omega (arith, some) in same)

-- the next one
pub next_stage : (plan : Planned) {next : List Graph} {n : ℕ} {g : Graph} {stage : Stage} {lines : RouteLines} → next ≡ drop n plan.graphs → slice_get next 0 ≡ Some g
    → AreLinesOf plan.script n lines → IsStageWith g (line_in lines) (line6_in lines) stage → IsStageOf plan n stage
next_stage plan {n = n} {stage = stage} {lines = lines} from at are with_it = record {
  graph = sym (get_drop plan.graphs n) ∙ ap (λ gs. slice_get gs 0) (sym from) ∙ at ∙ ap (λ g. Some g) (sym with_it.graph);
  routes = with_it.routes ∙ ap (λ (g : Graph). lined (line_in lines) g.routes) (sym with_it.graph)
      ∙ lined_same (line_in lines) (route_line plan.script n) stage.fork.graph.routes are.line;
  routes6 = with_it.routes6 ∙ ap (λ (g : Graph). lined (line6_in lines) g.routes6) (sym with_it.graph)
      ∙ lined_same (line6_in lines) (route6_line plan.script n) stage.fork.graph.routes6 are.line6;
}

-- the first generation is kept
pub first_kept : (plan : Planned) {graphs : List Graph} {g : Graph} {stage : Stage} {lines : RouteLines} → graphs ≡ plan.graphs → slice_get graphs 0 ≡ Some g
    → AreLinesOf plan.script 0 lines → IsStageWith g (line_in lines) (line6_in lines) stage → AreKept plan (Some stage ∷ [])
first_kept plan {stage = stage} same at are with_it = kept_push plan [] stage (λ k h. absurd (omega arith)) (next_stage plan {n = 0} same at are with_it)

-- the event at a place
pub event_is : (s : Script) (generation : ℕ) {made : List Run} {event : Run} → map seen made ≡ events s → generation == 0 ≡ false → IsRead made (generation - 1) event
    → Some (seen event) ≡ event_of s generation
event_is s generation {made = made} {event = event} are later read =
    let place = generation - 1 in
    let at : slice_get made place ≡ Some event = slice_get_read made (length made) place event refl read.within read.read in
    let found : slice_get (events s) place ≡ Some (seen event) = ap (λ es. slice_get es place) (sym are) ∙ slice_get-map seen made place ∙ ap (option_map seen) at in
    sym found ∙ ap (λ (b : Bool). if b then None else slice_get (events s) (generation - 1)) (sym later)

-- there is none
pub no_event : (s : Script) (made : List Run) (generation : ℕ) → map seen made ≡ events s → generation == 0 ≡ false → length made ≤ generation - 1
    → None ≡ event_of s generation
no_event s made generation are later past =
    let place = generation - 1 in
    let none : slice_get (events s) place ≡ None = ap (λ es. slice_get es place) (sym are) ∙ slice_get-map seen made place ∙ ap (option_map seen) (slice_get_past made place past) in
    sym none ∙ ap (λ (b : Bool). if b then None else slice_get (events s) (generation - 1)) (sym later)

-- the event at a place, as it is read
pub event_read : (s : Script) {made : List Run} {k : ℕ} {run : Run} → map seen made ≡ events s → IsRead made k run → get_or (events s) k (seen run) ≡ seen run
event_read s {made = made} {k = k} {run = run} are read =
    ap (λ es. get_or es k (seen run)) (sym are) ∙ get_or-map seen made k run (seen run) read.within ∙ ap seen (sym read.read)
