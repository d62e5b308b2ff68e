-- For `put_matches`: its loop.
use Rattle.std.proofs.Common.{◌≡◌, ◌++◌, drop}
use Rattle.vg_ways.specs.Entries.{matches}
use Rattle.vg_ways.proofs.entries.put_matches.Given as goal

-- the matches so far, and those of the pieces behind, are those of all
abbrev pub invariant-loop-piece : goal.invariant-loop-piece
invariant-loop-piece l = l.entries.items ++ matches l.generation (drop l.piece-index l.pieces) ≡ l.initial.entries.items ++ matches 0 l.pieces
