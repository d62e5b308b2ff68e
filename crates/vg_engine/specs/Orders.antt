-- Orders of turns: bytes that each name a step of main, a turn of a worker, or nothing.
use Rattle.std.specs.Prelude.{◌≡◌, ℕ, ◌+◌, ◌<◌, ◌≤◌, ◌⊎◌, List, All}

-- the byte for a step of main, and that for worker 0
abbrev pub main_byte : ℕ
main_byte = 109

abbrev pub first_digit : ℕ
first_digit = 48

-- space, tab, carriage return or line feed
abbrev pub IsBlank : ℕ → Type 0
IsBlank byte = (byte ≡ 32) ⊎ (byte ≡ 9) ⊎ (byte ≡ 13) ⊎ (byte ≡ 10)

-- a step of main, a turn of one of so many workers, or nothing
abbrev pub IsTurnByte : (workers byte : ℕ) → Type 0
IsTurnByte workers byte = (byte ≡ main_byte) ⊎ ((first_digit ≤ byte) × (byte < first_digit + workers)) ⊎ IsBlank byte

abbrev pub AreTurns : ℕ → List ℕ → Type 0
AreTurns workers bytes = All (IsTurnByte workers) bytes
