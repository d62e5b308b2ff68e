use Rattle.std.proofs.Common.{◌≡◌, [], map}
use Rattle.std.specs.Prelude.{replicate}
use Rattle.vg_replay.proofs.schedules.Schedule.new.Given as goal

abbrev pub invariant-loop : goal.invariant-loop
invariant-loop l = map (λ ns. ns.items) l.numbers.items ≡ replicate l.counter []
