-- For the tests' `limit_of`, `only_edits`, `make_event`, `first_parcels` and `renew_both`: the graphs of a script with one event, and parcels of the two
-- generations.
use Rattle.std.proofs.Common.{◌≡◌, ℕ, zero, suc, ◌+◌, ◌<◌, ◌≤◌, List, [], ◌∷◌, ◌++◌, length, get_or, map, flat_map, refl, sym, ap, subst, ◌∙◌, arith}
use Rattle.std.specs.Prelude.{Option, Some, None, IfSome, Result, Ok, Err, OnOk, option_map, slice_get}
use mathlib.Core.Option.{some, some-injective, some-ne-none}
use lib.ListN.{get_elem?}
use Rattle.std.specs.List.{enumerate_from}
use Rattle.std.proofs.lemmas.Option.{none-some, same_Some}
use Rattle.vg_model.specs.declared.edits.EditLine.{EditLine}
use Rattle.vg_model.specs.Edit.{Cause, apply_all}
use Rattle.vg_model.specs.Graph.{Graph}
use Rattle.vg_capture.specs.declared.captures.Capture.{Capture}
use Rattle.vg_script.specs.declared.scripts.Block.{Block}
use Rattle.vg_script.specs.declared.scripts.Script.{Script}
use Rattle.vg_script.specs.Events.{Event, events, events_of, in_order}
use Rattle.vg_plan.specs.Plan.{Planned, EventsAreMade, windows, limit_of}
use Rattle.vg_barrier.specs.Parcels.{AreFirst}
use Rattle.vg_dispatch.specs.declared.parcels.Stop.{Stop}
use Rattle.vg_dispatch.specs.declared.parcels.Stop.TheVariants as stops
use Rattle.vg_dispatch.specs.declared.parcels.WorkerParcel.{WorkerParcel}
use Rattle.vg_dispatch.specs.Parcels.{Fits, MayStop}

only : (es : List Event) (edits : List EditLine) → map (λ (event : Event). event.edits) es ≡ edits ∷ [] → (event : Event) × (slice_get es 0 ≡ Some event) × (event.edits ≡ edits)
only [] edits e = cc
only (event ∷ es) edits e = (event, refl, (let same : event.edits ≡ edits = cc in same))

in_order_alone : (es : List Event) (edits : List EditLine) → map (λ (event : Event). event.edits) es ≡ edits ∷ [] → map (λ (event : Event). event.edits) (in_order (es ++ [])) ≡ edits ∷ []
in_order_alone [] edits e = cc
in_order_alone (event ∷ []) edits e = e
in_order_alone (event ∷ other ∷ es) edits e = absurd (cc)

alone : (blocks : List Block) (block : Block) → 1 ≤ length blocks → length blocks < 2 → block ≡ get_or blocks 0 block → blocks ≡ block ∷ []
alone [] block least few first = absurd (omega (arith, least))
alone (b ∷ []) block least few first = ap (λ x. x ∷ []) (sym first)
alone (b ∷ c ∷ bs) block least few first = absurd (omega (arith, few))

-- the event of the only block is the only one
pub only_of : (script : Script) (blocks : List Block) (block : Block) (edits : List EditLine) → blocks ≡ script.blocks → 1 ≤ length blocks → length blocks < 2 → block ≡ get_or blocks 0 block
    → map (λ (event : Event). event.edits) (events_of block) ≡ edits ∷ [] → map (λ (event : Event). event.edits) (events script) ≡ edits ∷ []
only_of script blocks block edits same least few first is =
    ap (λ bs. map (λ (event : Event). event.edits) (in_order (flat_map events_of bs))) (sym same ∙ alone blocks block least few first) ∙ in_order_alone (events_of block) edits is

-- what holds of a value where there is one
pub if_some : {X : Type 0} (o : Option X) (P Q : X → Type 0) → IfSome o P → ((x : X) → P x → Q x) → IfSome o Q
if_some (Some x) P Q h each = each x h
if_some None P Q h each = tt

pub if_ok : {X E : Type 0} (r : Result X E) (P Q : Type 0) → OnOk r P → (P → Q) → OnOk r Q
if_ok (Ok x) P Q h then = then h
if_ok (Err e) P Q h then = tt

same_ok : (r : Result Graph (ℕ × Cause)) (g h : Graph) → r ≡ Ok g → r ≡ Ok h → g ≡ h
same_ok r g h d e = cc

-- the edits of the only event make generation 1 of generation 0
pub event_makes : (plan : Planned) (edits : List EditLine) (before after : Graph) → EventsAreMade plan → map (λ (event : Event). event.edits) (events plan.script) ≡ edits ∷ []
    → slice_get plan.graphs 0 ≡ Some before → apply_all before edits ≡ Ok after → slice_get plan.graphs 1 ≡ Some after
event_makes plan edits before after law is first made =
    let found = only (events plan.script) edits is in
    let step = law 0 found.0 found.1 in
    let same : step.0 ≡ before = same_Some step.0 before (sym step.2 ∙ first) in
    let again : apply_all before edits ≡ Ok step.1 = (λ i. apply_all (sym same i) (sym found.2 i)) ∙ step.4 in
    step.3 ∙ ap Some (same_ok (apply_all before edits) step.1 after again made)

-- the generations with something of their numbers
numbered : (ℕ → ℕ) → ℕ → List Graph → List (Graph × ℕ)
numbered f number graphs = map {B = Graph × ℕ} (λ g. (g.1, f g.0)) (enumerate_from number graphs)

numbered_at : (f : ℕ → ℕ) (number : ℕ) (graphs : List Graph) (i : ℕ) (graph : Graph) → slice_get graphs i ≡ Some graph → slice_get (numbered f number graphs) i ≡ Some (graph, f (number + i))
unfolding numbered
numbered_at f number [] i graph e = absurd (none-some graph e)
numbered_at f number (g ∷ graphs) zero graph e = let same : g ≡ graph = same_Some g graph e in let at : number ≡ number + 0 = omega arith in λ i. Some (same i, f (at i))
numbered_at f number (g ∷ graphs) (suc i) graph e = let at : (number + 1) + i ≡ number + suc i = omega arith in numbered_at f (number + 1) graphs i graph e ∙ ap (λ n. Some (graph, f n)) at

-- a generation's graph and its limit are the book's
pub window_is : (plan : Planned) (capture : Capture) (book : List (Graph × ℕ)) (generation limit : ℕ) (graph : Graph) → book ≡ windows plan capture
    → slice_get plan.graphs generation ≡ Some graph → option_map (λ (window : Graph × ℕ). window.1) (slice_get book generation) ≡ Some limit → slice_get book generation ≡ Some (graph, limit)
unfolding numbered
window_is plan capture book generation limit graph is graph_is limit_is =
    let f : ℕ → ℕ = limit_of plan.script capture in
    let at : slice_get book generation ≡ Some (graph, f (0 + generation)) = ap (λ b. slice_get b generation) is ∙ numbered_at f 0 plan.graphs generation graph graph_is in
    let same : f (0 + generation) ≡ limit = same_Some (f (0 + generation)) limit (sym (ap (option_map (λ (window : Graph × ℕ). window.1)) at) ∙ limit_is) in
    at ∙ ap (λ n. Some (graph, n)) same

may_go_on : (s : Stop) (generation generations limit next : ℕ) → s ≡ stops.No → MayStop s generation generations limit next
may_go_on s generation generations limit next is = subst (λ t. MayStop t generation generations limit next) (sym is) tt

-- a parcel of generation 0 fits the book
pub fits_first : (book : List (Graph × ℕ)) (p : WorkerParcel) (graph : Graph) (limit : ℕ) → slice_get book 0 ≡ Some (graph, limit)
    → p.fork.generation ≡ 0 → p.fork.graph ≡ graph → p.limit ≡ limit → p.stop ≡ stops.No → Fits p book
fits_first book p graph limit window generation graph_is limit_is goes_on = record {
  window = ap (slice_get book) generation ∙ window ∙ (λ i. Some (sym graph_is i, sym limit_is i));
  drawn = λ earlier before e _. absurd (omega (arith, e, generation));
  stop = may_go_on p.stop _ _ _ _ goes_on;
}

-- a parcel of generation 1 fits it where the worker has drawn its packets of generation 0
pub fits_next : (book : List (Graph × ℕ)) (p : WorkerParcel) (graph : Graph) (limit early : ℕ) → IfSome (slice_get book 0) (λ (window : Graph × ℕ). window.1 ≤ early)
    → slice_get book 1 ≡ Some (graph, limit) → p.fork.generation ≡ 1 → p.fork.graph ≡ graph → p.limit ≡ limit → early ≤ p.next → p.stop ≡ stops.No → Fits p book
fits_next book p graph limit early before window generation graph_is limit_is drawn goes_on = record {
  window = ap (slice_get book) generation ∙ window ∙ (λ i. Some (sym graph_is i, sym limit_is i));
  drawn = λ earlier other e at.
      let first_is : earlier ≡ 0 = omega (arith, e, generation) in
      let le : other.1 ≤ early = subst (λ o. IfSome o (λ (window : Graph × ℕ). window.1 ≤ early)) (ap (slice_get book) (sym first_is) ∙ at) before in
      omega (arith, le, drawn);
  stop = may_go_on p.stop _ _ _ _ goes_on;
}

-- a parcel that goes on under this generation of this graph, with this limit
abbrev IsOf : ℕ → Graph → ℕ → WorkerParcel → Type 0
IsOf generation graph limit p = (p.fork ≡ record { graph = graph; generation = generation }) × (p.limit ≡ limit) × (p.stop ≡ stops.No)

-- two parcels of generation 0 are first ones
pub are_first : (book : List (Graph × ℕ)) (graph : Graph) (limit : ℕ) (p q : WorkerParcel) → slice_get book 0 ≡ Some (graph, limit)
    → (p.fork ≡ record { graph = graph; generation = 0 }) × (p.limit ≡ limit) × (p.stop ≡ stops.No)
    → (q.fork ≡ record { graph = graph; generation = 0 }) × (q.limit ≡ limit) × (q.stop ≡ stops.No)
    → AreFirst Fits (λ parcel. parcel.fork.generation) book (p ∷ q ∷ [])
are_first book graph limit p q window of_p of_q = each
  where
    is_first : (x : WorkerParcel) → IsOf 0 graph limit x → Fits x book × (x.fork.generation ≡ 0)
    is_first x is = let generation : x.fork.generation ≡ 0 = ap (λ f. f.generation) is.0 in (fits_first book x graph limit window generation (ap (λ f. f.graph) is.0) is.1 is.2, generation)

    each : (k : ℕ) (x : WorkerParcel) → get_elem? (p ∷ q ∷ []) k ≡ some x → Fits x book × (x.fork.generation ≡ 0)
    each zero x e = subst (λ (y : WorkerParcel). Fits y book × (y.fork.generation ≡ 0)) (some-injective p x e) (is_first p of_p)
    each (suc zero) x e = subst (λ (y : WorkerParcel). Fits y book × (y.fork.generation ≡ 0)) (some-injective q x e) (is_first q of_q)
    each (suc (suc k)) x e = absurd (some-ne-none x (sym e))
