-- The adjacencies that a route leads over, and which of them a packet takes (this project's profile).
use Rattle.std.specs.Prelude.{◌≡◌, ℕ, ◌-◌, ◌/◌, ◌%◌, ◌≤◌, List, ◌++◌, length, take, drop, replicate, slice_index}
use Rattle.std.proofs.Common.{sym, ap, subst, ◌∙◌, take-append-drop, length-take-le}

-- the most adjacencies of a route
abbrev pub most_members : ℕ
most_members = 16

-- a list of 1 to 16
pub record AreMembers {X : Type 0} (members : List X) : Type 0 where
  pub some : 1 ≤ length members
  pub few : length members ≤ most_members

-- the entry that a hash picks: the lowest three bits don't count, so that the pick doesn't go with the choice of one of 8 workers
abbrev pub member : List ℕ → ℕ → ℕ
member members hash = slice_index members (hash / 8 % length members)

-- how the numbers lie inline: the first `count` of 16 places have them, and the others have 0
pub record AreInline (count : ℕ) (places : List ℕ) : Type 0 where
  pub some : 1 ≤ count
  pub few : count ≤ most_members
  pub all : length places ≡ most_members
  pub others : drop count places ≡ replicate (most_members - count) 0

-- as many are taken as there are
pub taken_count : (count : ℕ) (places : List ℕ) → AreInline count places → length (take count places) ≡ count
taken_count count places h = length-take-le count places (subst (λ n. count ≤ n) (sym h.all) h.few)

-- those that are taken, with 0 behind them, are all
pub taken_places : (count : ℕ) (places : List ℕ) → AreInline count places
    → take count places ++ replicate (most_members - length (take count places)) 0 ≡ places
taken_places count places h =
    ap (λ n. take count places ++ replicate (most_members - n) 0) (taken_count count places h)
    ∙ ap (λ l. take count places ++ l) (sym h.others)
    ∙ take-append-drop count places
