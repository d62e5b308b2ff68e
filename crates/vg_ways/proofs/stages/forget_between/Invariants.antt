-- For `forget_between`: its loop.
use Rattle.vg_ways.specs.Stages.{AreForgotten}
use Rattle.vg_ways.proofs.stages.forget_between.Given as goal

-- those so far are forgotten
abbrev pub invariant-loop-place : goal.invariant-loop-place
invariant-loop-place l = AreForgotten l.from l.place l.initial.made.items l.made.items
