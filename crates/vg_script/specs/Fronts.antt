-- A number in front of a `.`, digit by digit.
use Rattle.std.specs.Prelude.{ℕ, ◌+◌, ◌*◌, ◌-◌, ◌==◌, List, [], ◌∷◌, Option, Some, None, option_map, if◌then◌else◌}
use Rattle.std.specs.Option.{option_or}
use Rattle.std.specs.Char.{is_ascii_digit}
use Rattle.vg_script.specs.Address6.{◌>>=◌}

-- the digit in front, and what is behind it
abbrev pub digit_in_front : List ℕ → Option (ℕ × List ℕ)
digit_in_front [] = None
digit_in_front (byte ∷ rest) = if is_ascii_digit byte then Some (byte - 48, rest) else None

-- what is behind a `.` in front
abbrev pub behind_a_dot : List ℕ → Option (List ℕ)
behind_a_dot [] = None
behind_a_dot (byte ∷ rest) = if byte == 46 then Some rest else None

-- a number and what is behind the `.` that ends it
abbrev pub ended : (number : ℕ) → List ℕ → Option (ℕ × List ℕ)
ended number rest = option_map (λ behind. (number, behind)) (behind_a_dot rest)

-- the number of two digits so far and a third
abbrev pub with_third : (number : ℕ) → List ℕ → Option (ℕ × List ℕ)
with_third number rest = do
  third ← digit_in_front rest
  ended (number * 10 + third.0) third.1

-- the number of a digit so far and of a second, and perhaps a third
abbrev pub with_second : (number : ℕ) → List ℕ → Option (ℕ × List ℕ)
with_second number rest = do
  second ← digit_in_front rest
  option_or (ended (number * 10 + second.0) second.1) (with_third (number * 10 + second.0) second.1)

-- the number of one to three digits in front of a `.`, the first of several not 0, and what is behind that `.`
abbrev pub number_in_front : List ℕ → Option (ℕ × List ℕ)
number_in_front text = do
  first ← digit_in_front text
  option_or (ended first.0 first.1) (if first.0 == 0 then None else with_second first.0 first.1)
