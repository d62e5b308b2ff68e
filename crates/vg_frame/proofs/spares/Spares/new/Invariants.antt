use Rattle.std.proofs.Common.{◌≡◌, ◌≤◌, []}
use Rattle.std.specs.Prelude.{vec_len, vec_capacity}
use Rattle.std.specs.List.{All}
use Rattle.vg_frame.specs.Waiting.{most_frames}
use Rattle.vg_frame.proofs.spares.Spares.new.Given as goal

abbrev pub invariant-loop : goal.invariant-loop
invariant-loop l =
    (vec_len l.frames ≡ l.counter) × (most_frames ≤ vec_capacity l.frames)
    × All (λ frame. frame.value ≡ []) l.frames.items
