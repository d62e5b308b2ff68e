-- For `Stages::make_up_to`: its loop.
use Rattle.std.proofs.Common.{◌≡◌, ◌+◌, ◌-◌, ◌<◌, ◌≤◌, length}
use Rattle.std.specs.Prelude.{IsSome}
use Rattle.vg_ways.specs.Stages.{kept_at}
use Rattle.vg_ways.proofs.stages.Stages.make_up_to.Given as goal

-- the plan stays; once the generation is made it is kept, and it is the last
abbrev pub invariant-loop-self : goal.invariant-loop-self
invariant-loop-self l = record {
  plan : l.self.plan ≡ l.initial.self.plan;
  kept : length l.initial.self.kept ≤ l.generation → l.generation < length l.self.kept → IsSome (kept_at l.self l.generation);
}

abbrev pub decreases-loop-self : goal.decreases-loop-self
decreases-loop-self l = l.generation + 1 - length l.self.kept
