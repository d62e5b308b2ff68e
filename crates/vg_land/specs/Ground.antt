-- A list of bytes with room for so many, bytes laid into one, and the loan of room.
use Rattle.std.specs.Prelude.{ℕ, ◌+◌, ◌-◌, List, ◌++◌, length, take, drop, replicate}

pub record Ground : Type 0 where
  pub items : List ℕ
  pub cap : ℕ

-- a list with these bytes from a place on, and what stood in front of them and behind them; with zeros in front of them where it ended before
abbrev pub laid_at : List ℕ → ℕ → List ℕ → List ℕ
laid_at xs at ys = take at (xs ++ replicate (at - length xs) 0) ++ (ys ++ drop (at + length ys) xs)

-- a loan: its lifetime, and of room for how many bytes it is
pub record Loan : Type 0 where
  pub life : ℕ
  pub len : ℕ
