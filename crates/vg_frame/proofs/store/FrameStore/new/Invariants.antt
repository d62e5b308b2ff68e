use Rattle.std.proofs.Common.{◌≡◌, ◌+◌, replicate}
use Rattle.vg_frame.specs.Waiting.{none_waits, most_frames}
use Rattle.vg_frame.proofs.store.FrameStore.new.Given as goal

abbrev pub invariant-loop : goal.invariant-loop
invariant-loop l = (l.queues.items ≡ replicate l.counter none_waits) × (l.spares + l.counter ≡ most_frames)
