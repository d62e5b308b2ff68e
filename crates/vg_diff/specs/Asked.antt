-- What the words of the command line ask for.
use Rattle.std.specs.Prelude.{◌≡◌, ℕ, ◌≤◌, Bool, false, not, ◌&&◌, ◌||◌, ◌==◌, nat_lt, nat_le, List, [], ◌∷◌, ◌++◌, length, map, drop, codes, bytes_eq, Option, Some, None, is_none, option_map, option_and_then, if◌then◌else◌}
use Rattle.std.specs.Borrow.{Bor}
use Rattle.std.specs.List.{list_all}
use Rattle.vg_match.specs.declared.fields.Field.{Field}
use Rattle.vg_match.specs.declared.ranges.Range.{Range}
use Rattle.vg_match.specs.Fields.{field_of}
use Rattle.vg_diff.specs.declared.answers.Manner.{Manner}
use Rattle.vg_diff.specs.declared.answers.Manner.TheVariants as manners
use Rattle.vg_diff.specs.declared.words.Ask as asks
use Rattle.vg_diff.specs.declared.words.Options as options
use Rattle.vg_diff.specs.Prefixes.{range_of}

-- the bytes of a word
abbrev pub Text : Type 0
Text = List ℕ

-- the texts behind references
abbrev pub texts : List (Bor Text) → List Text
texts words = map (λ (word : Bor Text). word.now) words

-- a name: not empty, and its first byte is no `-`
abbrev pub is_plain : Text → Bool
is_plain [] = false
is_plain (byte ∷ bytes) = not (byte == 45)

-- how what differs is printed, the fields that may differ, the ranges of addresses to which the comparison is limited, and the files by their
-- names: the run's capture, where it is named, its savefile and its report, and the other router's savefiles
pub record Ask : Type 0 where
  pub manner : Manner
  pub ignored : List Field
  pub only : List Range
  pub capture : Option Text
  pub tx : Text
  pub report : Text
  pub others : List Text

-- the same, as the code has it
abbrev pub ask_shown : asks.Ask → Ask
ask_shown ask = record {
  manner = ask.manner;
  ignored = ask.ignored.items;
  only = ask.only.items;
  capture = option_map (λ name. name.now) ask.capture;
  tx = ask.tx.now;
  report = ask.report.now;
  others = texts ask.others.now;
}

-- what the options say
pub record Said : Type 0 where
  pub manner : Manner
  pub ignored : List Field
  pub only : List Range
  pub capture : Option Text

-- the same, as the code has it
abbrev pub said_shown : options.Options → Said
said_shown o = record { manner = o.manner; ignored = o.ignored.items; only = o.only.items; capture = option_map (λ name. name.now) o.capture }

abbrev pub nothing_said : Said
nothing_said = record { manner = manners.Lines; ignored = []; only = []; capture = None }

-- ---- options

-- how many words an option has: its value stands in the next one, but those that say how what differs is printed have none
abbrev pub places_of : Text → ℕ
places_of word = if bytes_eq word (codes "--brief") || bytes_eq word (codes "--classes") then 1 else 2

-- what is said, where an option could be taken
abbrev pub said_if : (taken : Bool) → Said → Option Said
said_if taken said = if taken then Some said else None

-- at most one of them
abbrev pub first_manner : Manner → Option Said → Option Said
first_manner manners.Lines next = next
first_manner manners.Brief next = None
first_manner manners.Classes next = None

abbrev pub with_manner : Said → Manner → Option Said
with_manner said manner = first_manner said.manner (Some (record said { manner = manner }))

-- one more field that may differ
abbrev pub with_field : Said → Text → Option Said
with_field said value = option_map (λ field. record said { ignored = said.ignored ++ field ∷ [] }) (field_of value)

-- one more range of addresses
abbrev pub with_range : Said → Text → Option Said
with_range said value = option_map (λ range. record said { only = said.only ++ range ∷ [] }) (range_of value)

-- the name of the run's capture, once
abbrev pub with_capture : Said → Text → Option Said
with_capture said value = if is_none said.capture && is_plain value then Some (record said { capture = Some value }) else None

-- one option more, and the word behind it
abbrev pub with_option : Said → (word value : Text) → Option Said
with_option said word value =
    if bytes_eq word (codes "--brief") then with_manner said manners.Brief
    else if bytes_eq word (codes "--classes") then with_manner said manners.Classes
    else if bytes_eq word (codes "--ignore") then with_field said value
    else if bytes_eq word (codes "--only") then with_range said value
    else if bytes_eq word (codes "--capture") then with_capture said value
    else None

-- ---- names

-- the most savefiles of another router
abbrev pub most_others : ℕ
most_others = 16

-- a savefile, a report, and 1 to 16 savefiles of another router
abbrev pub ask_of : Said → List Text → Option Ask
ask_of said [] = None
ask_of said (tx ∷ []) = None
ask_of said (tx ∷ (report ∷ others)) =
    if nat_lt 0 (length others) && (nat_le (length others) most_others && list_all is_plain (tx ∷ (report ∷ others)))
    then Some (record {
      manner = said.manner;
      ignored = said.ignored;
      only = said.only;
      capture = said.capture;
      tx = tx;
      report = report;
      others = others;
    })
    else None

-- ---- all words

-- the first of several words is an option: it is none that may be a name
abbrev pub begins_with_option : List Text → Bool
begins_with_option [] = false
begins_with_option (word ∷ []) = false
begins_with_option (word ∷ (value ∷ words)) = not (is_plain word)

-- what words ask for behind such options: options first, each with its value in the next word, if it has one, and then the names
abbrev pub asked_behind : Said → List Text → Option Ask
asked_behind said [] = None
asked_behind said (word ∷ []) = None
asked_behind said (word ∷ (value ∷ words)) =
    if is_plain word then ask_of said (word ∷ (value ∷ words))
    else option_and_then (λ next. if places_of word == 1 then asked_behind next (value ∷ words) else asked_behind next words) (with_option said word value)

-- so many of these words are taken as an option, and what is said with it asks with the words behind for the same; or they ask for nothing
abbrev pub IsTaken : (before after : Said) → List (Bor Text) → Option ℕ → Type 0
IsTaken before after words None = None ≡ asked_behind before (texts words)
IsTaken before after words (Some places) =
    (1 ≤ places) × (places ≤ length words) × (asked_behind after (texts (drop places words)) ≡ asked_behind before (texts words))

-- what the words ask for
abbrev pub asked : List Text → Option Ask
asked words = asked_behind nothing_said words

-- the script whose router in the kernel the words ask for
abbrev pub router_of : List Text → Option Text
router_of (word ∷ (script ∷ [])) = if bytes_eq word (codes "--linux") && is_plain script then Some script else None
router_of words = None
