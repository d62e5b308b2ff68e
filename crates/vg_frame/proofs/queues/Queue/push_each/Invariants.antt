use Rattle.std.proofs.Common.{◌≡◌, ◌+◌, ◌++◌, length}
use Rattle.vg_frame.specs.Waiting.{IsCut}
use Rattle.vg_frame.proofs.queues.Queue.push_each.Given as goal

-- what waits makes with the indexes that are left what all of them make with what waited
abbrev pub invariant-left : goal.invariant-left
invariant-left l = record {
  indexes : l.self.indexes ++ l.left ≡ l.fn.self.indexes ++ l.indexes;
  frames : l.spares + l.self.full ≡ l.fn.spares + l.fn.self.full;
  cut : IsCut l.self;
}

abbrev pub decreases-left : goal.decreases-left
decreases-left l = length l.left
