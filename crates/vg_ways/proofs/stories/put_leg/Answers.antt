-- For `put_leg`: its clause `leg`.
use Rattle.std.proofs.Common.{◌∷◌, [], ◌++◌, List, ap, subst, ◌∙◌, append_assoc}
use Rattle.vg_plan.specs.Plan.{Planned}
use Rattle.vg_story.specs.declared.pieces.Piece.{Piece}
use Rattle.vg_story.specs.declared.pieces.Piece.TheVariants as pieces
use Rattle.vg_story.specs.Visits.{told_visits}
use Rattle.vg_ways.specs.Stages.{IsStageOf}
use Rattle.vg_ways.proofs.stories.put_leg.Goals as goal

pub returns-clause-leg : goal.returns-clause-leg
returns-clause-leg g c =
    let stage = c.in-Some.stage.now in
    let told : List Piece = told_visits g.K.KindSet.meaning stage c.args.workers c.args.visits.now c.args.chain.now in
    let head : Piece = pieces.Leg c.args.leg.worker c.args.leg.generation in
    record {
      stage = stage;
      is_stage = subst (λ (plan : Planned). IsStageOf plan c.args.leg.generation stage) c.reach.ensures.plan c.in-Some.ensures.stage;
      told = c.in_ok-put_visits-in-Some.ensures.pieces ∙ ap (λ ps. ps ++ told) c.in_ok-push.ensures.items ∙ append_assoc c.args.pieces.now.items (head ∷ []) told;
      packet = c.in_ok-put_visits-in-Some.ensures.packet;
    }
