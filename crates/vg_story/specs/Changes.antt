-- What a visit changed of a frame.
use Rattle.std.specs.Prelude.{ℕ, ◌==◌, ◌&&◌, List, [], ◌∷◌, flat_map, if◌then◌else◌}
use Rattle.vg_story.specs.declared.pieces.Field.{Field}
use Rattle.vg_story.specs.declared.pieces.Piece.{Piece}
use Rattle.vg_story.specs.declared.pieces.Piece.TheVariants as pieces
use Rattle.vg_story.specs.Fronts.{Front}
use Rattle.vg_story.specs.Fields.{has_field, number_of, all_fields}

-- the change of a number, where it differs
abbrev pub change : Field → (before after : ℕ) → List Piece
change field before after = if before == after then [] else pieces.Change field before after ∷ []

-- the change of a field, where both frames show it and it differs
abbrev pub change_of : (before after : Front) → Field → List Piece
change_of before after field =
    if has_field before field && has_field after field then change field (number_of before field) (number_of after field) else []

-- the changes of all fields
abbrev pub changes : (before after : Front) → List Piece
changes before after = flat_map (change_of before after) all_fields
