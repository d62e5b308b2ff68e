-- For `last_via`: its loop.
use Rattle.std.proofs.Common.{◌≡◌, drop}
use Rattle.std.specs.Prelude.{None}
use Rattle.vg_ways.specs.Entries.{last_via}
use Rattle.vg_ways.proofs.entries.last_via.Given as goal

-- the neighbor so far, or one that is named behind
abbrev pub invariant-loop-piece : goal.invariant-loop-piece
invariant-loop-piece l = last_via l.neighbor (drop l.piece-index l.pieces) ≡ last_via None l.pieces
