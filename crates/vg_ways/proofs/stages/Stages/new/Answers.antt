-- For `Stages::new`: the invariant of what it makes.
use Rattle.std.proofs.Common.{◌≡◌, ◌+◌, ◌-◌, ◌++◌, ◌∷◌, [], List, length, map, drop, sym, ap, subst, ◌∙◌, arith}
use Rattle.std.specs.Prelude.{Option, Some}
use Rattle.std.proofs.lemmas.List.{length-map}
use Rattle.vg_script.specs.declared.scripts.Script.{Script}
use Rattle.vg_script.specs.Events as script
use Rattle.vg_plan.specs.Run.{seen}
use Rattle.vg_story.specs.declared.stages.Stage.{Stage}
use Rattle.vg_ways.specs.LinesView.{AreLinesOf}
use Rattle.vg_ways.proofs.StageLemmas.{AreKept, first_kept}
use Rattle.vg_ways.proofs.stages.Stages.new.Goals as goal

pub invariant_of-result : goal.invariant_of-result
invariant_of-result c =
    let plan = c.args.plan.now in
    let first : Stage = c.in_ok-first.first in
    let events = c.in_ok-events.events.items in
    let are : map seen events ≡ script.events plan.script = c.in_ok-events.ensures ∙ ap script.events c.script-script.ensures.script in
    let long : length events ≡ length (script.events plan.script) = sym (length-map events seen) ∙ ap length are in
    let graphs : length plan.graphs ≡ length events + 1 = omega (arith, long, c.generations-generations.ensures.events, c.generations-generations.ensures.graphs) in
    let made : c.push.new.self.items ≡ Some first ∷ [] = c.in_ok-push.ensures.items ∙ ap (λ (xs : List (Option Stage)). xs ++ Some first ∷ []) c.new-made.ensures.items in
    let one : length c.push.new.self.items ≡ 1 = ap length made in
    let lines : AreLinesOf plan.script 0 c.in_ok-lines.lines =
    subst (λ (s : Script). AreLinesOf s 0 c.in_ok-lines.lines) c.script-script.ensures.script c.in_ok-lines.ensures in
    let none : length c.push.new.self.items - 1 ≡ 0 = omega (arith, one) in
    record {
      events = are;
      graphs = graphs;
      some = omega (arith, one);
      few = omega (arith, one, graphs);
      later = c.in_ok-later.ensures ∙ ap (λ k. drop k plan.graphs) (sym none);
      lines = subst (λ k. AreLinesOf plan.script k c.in_ok-lines.lines) (sym none) lines;
      kept = subst (AreKept plan) (sym made)
          (first_kept plan c.in_ok-later.ensures c.master.ensures lines c.in_ok-first.ensures);
      kept_from = omega (arith, one);
      forgotten = λ g h. absurd (omega (arith, h));
    }
