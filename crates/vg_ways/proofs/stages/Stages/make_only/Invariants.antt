-- For `Stages::make_only`: its loop.
use Rattle.std.proofs.Common.{◌≡◌, ℕ, ◌+◌, ◌-◌, ◌<◌, length}
use Rattle.std.specs.Prelude.{None, IsSome}
use Rattle.vg_ways.specs.Stages.{kept_at}
use Rattle.vg_ways.proofs.stages.Stages.make_only.Given as goal

-- the plan stays; once the generation is made it is kept; none before it is
abbrev pub invariant-loop-self : goal.invariant-loop-self
invariant-loop-self l = record {
  plan : l.self.plan ≡ l.initial.self.plan;
  kept : l.generation < length l.self.kept → IsSome (kept_at l.self l.generation);
  none : (before : ℕ) → before < l.generation → kept_at l.self before ≡ None;
}

abbrev pub decreases-loop-self : goal.decreases-loop-self
decreases-loop-self l = l.generation + 1 - length l.self.kept
