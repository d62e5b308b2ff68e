-- For `forward`: no kind of node that runs visit drops a packet by congestion.
use Rattle.std.proofs.Common.{◌≡◌, ap}
use Rattle.std.specs.Prelude.{◌≢◌}
use Rattle.vg_model.specs.declared.kinds.DropError.{DropError}
use Rattle.vg_model.specs.declared.kinds.DropError.TheVariants.{Congestion}
use Rattle.vg_model.specs.declared.kinds.Step.{Step}
use Rattle.vg_model.specs.declared.kinds.Step.TheVariants as steps
use Rattle.vg_model.specs.Visit.{Visit, ip4_visit}
use Rattle.vg_kinds.specs.Around.{OwnVisit, around, NeverCongest}
use Rattle.vg_kinds.proofs.AroundLemmas.{around_uncongested}
use Rattle.vg_ip6.specs.Visit.{ip6_visit_of, ip6_visit}
use Rattle.vg_ip6.specs.lawful.KindLaws.{ip6_never}
use Rattle.vg_dot1q.specs.Visit.{dot1q_visit_of}
use Rattle.vg_dot1q.specs.lawful.KindLaws.{dot1q_never}
use Rattle.vg_check.specs.Congestion.{IsOwnStep, NeverCongests}
use Rattle.vg_check.proofs.CourseLemmas.{own_visit}
use Rattle.vg_files.specs.Kinds.{vgd_visit}

same_error : (error : DropError) → steps.Dropped error ≡ steps.Dropped Congestion → error ≡ Congestion
same_error error e = cc

-- the two ways to say of a step that it is no drop by congestion are one
own_step : (step : Step) → step ≢ steps.Dropped Congestion → IsOwnStep step
own_step (steps.Dropped error) h = λ e. h (ap steps.Dropped e)
own_step (steps.Next slot) h = tt
own_step (steps.Tx interface) h = tt
own_step (steps.Hand hash) h = tt

uncongested : (step : Step) → IsOwnStep step → step ≢ steps.Dropped Congestion
uncongested (steps.Dropped error) own = λ e. own (same_error error e)
uncongested (steps.Next slot) own = λ e. cc
uncongested (steps.Tx interface) own = λ e. cc
uncongested (steps.Hand hash) own = λ e. cc

-- a set of kinds around another, where neither does
never_around : (own : OwnVisit) → NeverCongest own → (inner : Visit) → NeverCongests inner → NeverCongests (around own inner)
never_around own never inner is g n p =
    own_step (around own inner g n p).0 (around_uncongested own never inner g n p (uncongested (inner g n p).0 (is g n p)))

pub own_visits : NeverCongests vgd_visit
own_visits = never_around dot1q_visit_of dot1q_never (ip6_visit ip4_visit) (never_around ip6_visit_of ip6_never ip4_visit own_visit)
