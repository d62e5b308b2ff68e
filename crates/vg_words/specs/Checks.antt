-- What is checked of the words behind `run` before a parser reads them.
use Rattle.std.specs.Prelude.{Bool, false, not, ◌&&◌, List, [], ◌∷◌, ◌++◌, bytes_eq, Option, Some, None, if◌then◌else◌}
use Rattle.std.specs.List.{list_any}
use Rattle.std.specs.Option.{option_map_or}
use Rattle.vg_words.specs.Command.{◌>>=◌, Text, is_flag, is_plain, is_option_name, option_in}

-- the option stands before
abbrev pub is_used : List Text → Text → Bool
is_used used name = list_any (λ one. bytes_eq one name) used

-- an option's name, and whether its value is the next word
abbrev pub named : Text → Option Text → Option (Text × Bool)
named name (Some value) = if not (is_flag name) && is_plain value then Some (name, false) else None
named name None = Some (name, not (is_flag name))

-- the option that a word is, where it is one that doesn't stand before
abbrev pub new_option : List Text → Text → Option (Text × Bool)
new_option used word = do
  p ← option_in word
  if is_option_name p.0 && not (is_used used p.0) then named p.0 p.1 else None

-- the checks of words behind these options, where the last of them may wait for its value: a word that isn't plain is an
-- option that doesn't stand before, and an option that has a value and hasn't it in its word has a plain word behind it
abbrev pub are_well_formed : (used : List Text) → (waits : Bool) → List Text → Bool
are_well_formed used waits [] = not waits
are_well_formed used waits (word ∷ words) =
    if is_plain word then are_well_formed used false words
    else not waits && option_map_or (λ p. are_well_formed (used ++ p.0 ∷ []) p.1 words) (new_option used word) false
