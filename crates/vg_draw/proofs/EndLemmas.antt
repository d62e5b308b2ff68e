-- For `lines_end_at_nodes`: what a line leads to stands in the drawing.
use Rattle.std.proofs.Common.{◌≡◌, ℕ, List, refl, ap, subst, ◌∙◌}
use Rattle.std.specs.Prelude.{Bool, true, false, ◌==◌, ◌||◌, Option, Some, option_map, slice_get, if◌then◌else◌}
use Rattle.vg_model.specs.Graph.{Graph, Node, arc, kind_at, handoff_dequeue, error_drop}
use Rattle.vg_model.specs.Valid.{IsValid, IsTarget}
use Rattle.std.proofs.lemmas.Bool.{eqb-true}
use Rattle.vg_model.proofs.Journeys.{then_some}
use Rattle.vg_model.proofs.LegEnds.{arc_target}
use Rattle.vg_report.specs.declared.reports.Report.{Report}
use Rattle.vg_draw.specs.Drawing.{ways_of, hands_over, any_hands_over, leads_to_drop, has_drop, drops, any_drops, is_drawn}
use Rattle.vg_draw.specs.Ends.{HasItsEnds}
use Rattle.vg_draw.proofs.AnyLemmas.{one_found}

-- a node of which a test holds
found_at : {X : Type 0} (p : X → Bool) (xs : List X) (i : ℕ) (x : X) → slice_get xs i ≡ Some x → p x ≡ true → option_map p (slice_get xs i) ≡ Some true
found_at p xs i x at holds = ap (option_map p) at ∙ ap (λ b. Some b) holds

or_true : (a b : Bool) → b ≡ true → (a || b) ≡ true
or_true true b holds = refl
or_true false b holds = holds

-- one of the nodes drops packets
one_drops : (report : Option Report) (nodes : List Node) (i : ℕ) (node : Node) → slice_get nodes i ≡ Some node → drops report node ≡ true
    → any_drops report nodes ≡ true
one_drops report nodes i node at holds = one_found (drops report) nodes i true (found_at (drops report) nodes i node at holds) refl

arc_ends : (report : Option Report) (g : Graph) → IsValid g → (number slot target : ℕ) → arc g number slot ≡ Some target
    → is_drawn (ways_of report g.nodes) target ≡ true
arc_ends report g valid number slot target at = by_cases (target == handoff_dequeue) (target == error_drop) refl refl
  where
    shown : Bool → Bool → Bool
    shown first second = if first then any_hands_over g.nodes else if second then any_drops report g.nodes else true

    leads : (target == error_drop) ≡ true → any_drops report g.nodes ≡ true
    leads is =
        let found = then_some (λ (node : Node). slice_get node.arcs slot) (slice_get g.nodes number) target at in
        let leading : leads_to_drop (found.0).arcs ≡ true =
        one_found (λ to. to == error_drop) (found.0).arcs slot true (found_at (λ to. to == error_drop) (found.0).arcs slot target found.2 is) refl in
        one_drops report g.nodes number found.0 found.1 (ap (λ b. b || has_drop report (found.0).name) leading)

    by_cases : (first second : Bool) → (target == handoff_dequeue) ≡ first → (target == error_drop) ≡ second → shown (target == handoff_dequeue) (target == error_drop) ≡ true
    by_cases true second is other = absurd (subst IsTarget (ap (λ n. kind_at g n) (eqb-true target handoff_dequeue is) ∙ valid.dequeue) (arc_target g number target valid (slot, at)))
    by_cases false true not_first is = ap (λ b. shown b (target == error_drop)) not_first ∙ ap (λ b. shown false b) is ∙ leads is
    by_cases false false not_first not_second = ap (λ b. shown b (target == error_drop)) not_first ∙ ap (λ b. shown false b) not_second

pub has_its_ends : (report : Option Report) (g : Graph) → IsValid g → HasItsEnds report g
has_its_ends report g valid = record {
  arcs = arc_ends report g valid;
  handed = λ number node at holds. one_found (λ (n : Node). hands_over n.kind) g.nodes number true (found_at (λ (n : Node). hands_over n.kind) g.nodes number node at holds) refl;
  dropped = λ number node at holds. one_drops report g.nodes number node at (or_true (leads_to_drop node.arcs) (has_drop report node.name) holds);
}
