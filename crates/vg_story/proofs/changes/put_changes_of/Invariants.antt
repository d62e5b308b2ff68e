-- For `put_changes_of`: its loop.
use Rattle.std.proofs.Common.{◌≡◌, ◌++◌, take, flat_map}
use Rattle.vg_story.specs.Changes.{change_of}
use Rattle.vg_story.proofs.changes.put_changes_of.Given as goal

-- the changes of the fields so far stand behind what stood before
abbrev pub invariant-loop-field : goal.invariant-loop-field
invariant-loop-field l = l.pieces.items ≡ l.initial.pieces.items ++ flat_map (change_of l.before l.after) (take l.field-index l.fields)
