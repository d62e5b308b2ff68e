-- The words of a line, and what a word of a class means: None where it isn't one (this project's profile).
use Rattle.std.specs.Prelude.{ℕ, Bool, not, ◌&&◌, ◌||◌, ◌==◌, nat_lt, nat_le, List, [], ◌∷◌, ◌++◌, length, slice_index, bytes_eq, find, Option, Some, None, if◌then◌else◌}
use Rattle.std.specs.Char.{is_ascii_digit}
use Rattle.std.specs.List.{before_first, after_first, list_all, slice_split}
use Rattle.std.specs.Str.Parse.{digits_value}
use Rattle.vg_model.specs.declared.fates.Leg.{Leg}
use Rattle.vg_model.specs.declared.kinds.DropError.{DropError}
use Rattle.vg_model.specs.Errors.{error_word, all_errors}
use Rattle.vg_model.specs.Name.{is_name}

-- the words of a line: what stands between its spaces, one space parting two words. An empty word is a word that is missing
abbrev pub words : List ℕ → List (List ℕ)
words line = slice_split (λ byte. byte == 32) line

-- what follows a value; none stays none
infixl 10 ◌>>=◌
abbrev pub ◌>>=◌ : {X Y : Type 0} → Option X → (X → Option Y) → Option Y
(Some x) >>= f = f x
None >>= f = None

-- a name
abbrev pub name_of : List ℕ → Option (List ℕ)
name_of word = if is_name word then Some word else None

-- decimal digits, the first of several not 0
abbrev pub is_decimal : List ℕ → Bool
is_decimal word = nat_lt 0 (length word) && list_all is_ascii_digit word && (length word == 1 || not (slice_index word 0 == 48))

-- a number with its least and its greatest value
abbrev pub number_within : (least most : ℕ) → List ℕ → Option ℕ
number_within least most word =
    let number = digits_value 10 word in
    if is_decimal word && nat_le least number && nat_le number most then Some number else None

-- a number below a bound
abbrev pub number_below : ℕ → List ℕ → Option ℕ
number_below bound word =
    let number = digits_value 10 word in
    if is_decimal word && nat_lt number bound then Some number else None

-- `worker:generation`, with so many workers and generations
abbrev pub leg_of : (workers generations : ℕ) → List ℕ → Option Leg
leg_of workers generations text = do
  worker ← number_below workers (before_first (λ byte. byte == 58) text)
  generation ← number_below generations (after_first (λ byte. byte == 58) text)
  Some (record { worker = worker; generation = generation })

-- the most legs of a packet
abbrev pub most_legs : ℕ
most_legs = 4

-- these legs, and those of the texts behind, where they are not too many
abbrev pub with_legs : (workers generations : ℕ) → List Leg → List (List ℕ) → Option (List Leg)
with_legs workers generations legs [] = Some legs
with_legs workers generations legs (text ∷ texts) =
    if nat_le most_legs (length legs) then None
    else (leg_of workers generations text >>= λ leg. with_legs workers generations (legs ++ leg ∷ []) texts)

-- one to four legs parted by `,`
abbrev pub legs_of : (workers generations : ℕ) → List ℕ → Option (List Leg)
legs_of workers generations word = with_legs workers generations [] (slice_split (λ byte. byte == 44) word)

-- the error that a word names
abbrev pub error_of : List ℕ → Option DropError
error_of word = find (λ error. bytes_eq word (error_word error)) all_errors
