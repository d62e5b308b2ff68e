-- For `put_pieces`: its loop.
use Rattle.std.proofs.Common.{◌≡◌, ◌++◌, take, flat_map}
use Rattle.vg_story.specs.Text.{piece_text}
use Rattle.vg_story.proofs.writing.put_pieces.Given as goal

-- the text of the pieces so far stands behind what stood before
abbrev pub invariant-loop-piece : goal.invariant-loop-piece
invariant-loop-piece l = l.out.items ≡ l.initial.out.items ++ flat_map (piece_text l.graph) (take l.piece-index l.pieces)
