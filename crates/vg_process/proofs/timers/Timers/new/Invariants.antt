use Rattle.std.proofs.Common.{length}
use Rattle.vg_process.specs.Queued.{IsQueue, IsAhead}
use Rattle.vg_process.proofs.TimedLemmas.{upto}
use Rattle.vg_process.proofs.timers.Timers.new.Given as goal

-- the places so far wait under their times
abbrev pub invariant-loop-place : goal.invariant-loop-place
invariant-loop-place l = record {
  queue : IsQueue (length l.time-items) (upto l.time-items l.place) l.queue;
  ahead : IsAhead l.queue;
}
