-- Entries by generation.
use Rattle.std.specs.Prelude.{◌≡◌, ℕ, zero, suc, ◌+◌, ◌-◌, ◌<◌, ◌^◌, ◌==◌, nat_lt, Bool, List, [], length, map, filter, count_by, slice_index_or, slice_set, if◌then◌else◌}
use Rattle.vg_story.specs.declared.pieces.Piece.{Piece}
use Rattle.vg_ways.specs.declared.entries.Entry.{Entry}
use Rattle.vg_ways.specs.declared.logs.Log.{Log}
use Rattle.vg_ways.specs.declared.stories.Went.{Went}
use Rattle.vg_ways.specs.Entries.{entries_of, is_left_any, is_sent_any}
use Rattle.vg_ways.specs.Tallied.{Tallied, tallied, counted_as, with_entry}
use Rattle.vg_ways.specs.Tallies.{tally_in}

-- the entry is under this generation
abbrev pub is_under : ℕ → ℕ × Entry → Bool
is_under generation entry = entry.0 == generation

-- the entries under a generation, and all of them
abbrev pub under : ℕ → List (ℕ × Entry) → List Entry
under generation log = map (λ entry. entry.1) (filter (is_under generation) log)

abbrev pub all_of : List (ℕ × Entry) → List Entry
all_of log = map (λ entry. entry.1) log

-- of these entries those under one of so many generations
abbrev pub within : (generations : ℕ) → List (ℕ × Entry) → List (ℕ × Entry)
within generations log = filter (λ entry. nat_lt entry.0 generations) log

-- how many count for each line, under each generation and of all
abbrev pub tallies_of : Log → List Tallied
tallies_of log = map tally_in log.tallies.items

abbrev pub tally_of_all : Log → Tallied
tally_of_all log = tally_in log.all

-- of no entry
abbrev pub none : Tallied
none = tallied []

-- under one generation of these
abbrev pub tally_at : List Tallied → (generation : ℕ) → Tallied
tally_at tallies generation = slice_index_or tallies generation none

-- with one entry more, where there is its generation
abbrev pub tallies_with : List Tallied → ℕ × Entry → List Tallied
tallies_with tallies entry =
    if nat_lt entry.0 (length tallies) then slice_set tallies entry.0 (with_entry (tally_at tallies entry.0) entry.1) else tallies

-- with one entry more, where its generation is one of so many
abbrev pub all_with : (generations : ℕ) → Tallied → ℕ × Entry → Tallied
all_with generations all entry = if nat_lt entry.0 generations then with_entry all entry.1 else all

-- one more can be counted
pub record HasRoom (entry : ℕ × Entry) (log : Log) : Type 0 where
  pub under : counted_as entry.1 (tally_at (tallies_of log) entry.0) < 2 ^ 64 - 1
  pub all : counted_as entry.1 (tally_of_all log) < 2 ^ 64 - 1

-- how many of these entries count for each line, under each generation and of all
pub record IsLogOf (generations : ℕ) (entries : List (ℕ × Entry)) (log : Log) : Type 0 where
  pub count : length log.tallies.items ≡ generations
  pub each : (generation : ℕ) → generation < generations → tally_at (tallies_of log) generation ≡ tallied (under generation entries)
  pub all : tally_of_all log ≡ tallied (all_of (within generations entries))

-- what is counted under each of so many generations, added up
abbrev pub total : (generations : ℕ) → (ℕ → ℕ) → ℕ
total zero counted = 0
total (suc generations) counted = total generations counted + counted generations

-- what is counted under each generation adds up to what is counted of all entries
abbrev pub CountsAddUp : Type 0
CountsAddUp =
    (generations : ℕ) (entries : List (ℕ × Entry)) (p : Entry → Bool)
    → total generations (λ generation. count_by p (under generation entries)) ≡ count_by p (all_of (within generations entries))

-- of a packet, what is counted as transmitted to neighbors and to none is what is counted as transmitted on interfaces
abbrev pub LeftAreSent : Type 0
LeftAreSent =
    (generations : ℕ) (went : Went) (told : List Piece)
    → count_by is_left_any (all_of (within generations (entries_of went told))) ≡ count_by is_sent_any (all_of (within generations (entries_of went told)))
