-- The ranges of addresses that words say.
use Rattle.std.specs.Prelude.{ℕ, Bool, not, ◌&&◌, ◌==◌, nat_lt, List, [], ◌∷◌, ◌++◌, codes, Option, Some, None, Result, Ok, Err, if◌then◌else◌}
use Rattle.std.specs.List.{list_all}
use Rattle.std.specs.Option.{option_or}
use Rattle.vg_match.specs.declared.ranges.Range.{Range}
use Rattle.vg_match.specs.declared.ranges.Range.TheVariants as ranges
use Rattle.vg_model.specs.declared.edits.Edit.{Edit}
use Rattle.vg_model.specs.declared.edits.Edit.TheVariants as edits
use Rattle.vg_model.specs.declared.edits.EditLine.{EditLine}
use Rattle.vg_script.specs.declared.errors.ScriptError.{ScriptError}
use Rattle.vg_script.specs.declared.scripts.Script.{Script}
use Rattle.vg_script.specs.Reading.{script_of}

-- no byte parts words, ends a line or begins a comment
abbrev pub is_one_word : List ℕ → Bool
is_one_word word = list_all (λ byte. nat_lt 32 byte && not (byte == 35)) word

-- a line of a script: a word, and a value behind it
unfoldable pub line_of : (word value : List ℕ) → List ℕ
line_of word value = ((word ++ 32 ∷ []) ++ value) ++ 10 ∷ []

-- the range of the prefix whose route an edit takes out
abbrev pub taken_out : Edit → Option Range
taken_out (edits.Unroute prefix) = Some (ranges.Ip4 prefix)
taken_out (edits.Unroute6 prefix) = Some (ranges.Ip6 prefix)
taken_out edit = None

-- the same of the only edit outside blocks
abbrev pub only_taken_out : List EditLine → Option Range
only_taken_out (line ∷ []) = taken_out line.edit
only_taken_out lines = None

abbrev pub taken_out_by : Result Script ScriptError → Option Range
taken_out_by (Ok script) = only_taken_out script.start
taken_out_by (Err error) = None

-- the range of the prefix in a line, which is a script by itself
abbrev pub range_in : (word value : List ℕ) → Option Range
range_in word value = taken_out_by (script_of (line_of word value))

-- the range of a prefix, by the grammar of scripts: that of a line `unroute` or `unroute6` with this one word
abbrev pub range_of : List ℕ → Option Range
range_of word = if is_one_word word then option_or (range_in (codes "unroute") word) (range_in (codes "unroute6") word) else None
