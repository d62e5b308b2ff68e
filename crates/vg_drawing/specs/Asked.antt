-- What the words of the command line ask for.
use Rattle.std.specs.Prelude.{Bool, true, ◌&&◌, List, [], ◌∷◌, codes, bytes_eq, Option, Some, None, option_map, option_and_then, if◌then◌else◌}
use Rattle.vg_words.specs.Command.{Text, is_plain, number_of}
use Rattle.vg_drawing.specs.declared.words.Ask as words
use Rattle.vg_drawing.specs.declared.words.Which.{Which}
use Rattle.vg_drawing.specs.declared.words.Which.TheVariants.{One, All}

-- what is drawn: generations of a script's graph, with a report or without one; both by their names
pub record Ask : Type 0 where
  pub which : Which
  pub script : Text
  pub report : Option Text

-- the same, as the code has it
abbrev pub ask_shown : words.Ask → Ask
ask_shown ask = record { which = ask.which; script = ask.script.now; report = option_map (λ name. name.now) ask.report }

-- a name, where there is one
abbrev pub is_plain_or_none : Option Text → Bool
is_plain_or_none None = true
is_plain_or_none (Some name) = is_plain name

-- the drawing of a script, with the report where one is named
abbrev pub ask_with : Which → Text → Option Text → Option Ask
ask_with which script report = if is_plain_or_none report && is_plain script then Some (record { which = which; script = script; report = report }) else None

-- a script, and behind it a report or none
abbrev pub asked_of : Which → List Text → Option Ask
asked_of which [] = None
asked_of which (script ∷ []) = ask_with which script None
asked_of which (script ∷ (report ∷ [])) = ask_with which script (Some report)
asked_of which (script ∷ (report ∷ (more ∷ others))) = None

-- the number of a generation, a script, and behind it a report or none
abbrev pub asked_at : List Text → Option Ask
asked_at [] = None
asked_at (number ∷ names) = option_and_then (λ n. asked_of (One n) names) (number_of 0 999 number)

-- what the words ask for: `--all` for all generations, `--generation` and a number for that one, else generation 0
abbrev pub asked : List Text → Option Ask
asked [] = None
asked (word ∷ words) =
    if bytes_eq word (codes "--all") then asked_of All words
    else if bytes_eq word (codes "--generation") then asked_at words
    else asked_of (One 0) (word ∷ words)
