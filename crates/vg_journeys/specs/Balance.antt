-- What came to a worker is what it has logged, and what it has handed over.
use Rattle.std.specs.Prelude.{◌≡◌, ℕ, suc, ◌+◌, ◌==◌, ◌&&◌, length}
use Rattle.std.specs.List.{sum_by, count_by}
use Rattle.vg_model.specs.declared.fates.Fate.{Fate}
use Rattle.vg_journeys.specs.Trips.{Run, number_of}
use Rattle.vg_journeys.specs.Accounts.{Account, came, gone}
use Rattle.vg_journeys.specs.Turns.{arrival_is_of}

-- each packet that it drew or took, it has logged, or put into a frame that a queue accepted, and no other
pub record IsBalanced (run : Run) (a : Account) : Type 0 where
  -- number by number, by any way of counting numbers
  pub numbers : (count : ℕ → ℕ) → sum_by (λ (f : Fate). count f.number) a.log + gone run (λ e. count (number_of e)) a ≡ came run (λ e. count (number_of e)) a
  -- and leg by leg: what came with so many legs has gone with one more
  pub legs : (number leg : ℕ) → count_by (λ (f : Fate). f.number == number && length f.legs == suc leg) a.log + gone run (arrival_is_of number (suc leg)) a
      ≡ came run (arrival_is_of number leg) a
