-- Fates as workers log them.
use Rattle.std.specs.Prelude.{ℕ, ◌+◌, ◌<◌, ◌^◌, List, [], ◌∷◌, length, map, None, slice_index_or, All}
use Rattle.vg_model.specs.declared.fates.Fate.{Fate}
use Rattle.vg_model.specs.declared.fates.End.{End}
use Rattle.vg_model.specs.declared.fates.End.TheVariants as ends
use Rattle.vg_fates.specs.declared.logs.LogEntry.{LogEntry}
use Rattle.vg_fates.specs.declared.logs.LogEntry.TheVariants.{Plain, Other}

-- the fates that were logged so far, and for how many there is room
pub record LogBook : Type 0 where
  pub items : List Fate
  pub room : ℕ

-- the fate of a packet with one leg that no queue refused
abbrev pub plain_fate : (worker : ℕ) → End → (number generation : ℕ) → Fate
plain_fate worker end number generation =
    record { number = number; legs = record { worker = worker; generation = generation } ∷ []; congested = None; end = end }

abbrev pub no_fate : Fate
no_fate = record { number = 0; legs = []; congested = None; end = ends.Tx 0 }

-- the fate of an entry, where these are the others
abbrev pub fate_in : List Fate → LogEntry → Fate
fate_in others (Plain worker end number generation) = plain_fate worker end number generation
fate_in others (Other place) = slice_index_or others place no_fate

abbrev pub fates_in : List Fate → List LogEntry → List Fate
fates_in others entries = map (fate_in others) entries

-- it is one of so many others, where it is one of them
abbrev pub IsLogged : ℕ → LogEntry → Type 0
IsLogged count (Plain worker end number generation) = Unit {0}
IsLogged count (Other place) = place < count

abbrev pub AreLogged : List Fate → List LogEntry → Type 0
AreLogged others entries = All (IsLogged (length others)) entries

-- its place, so many places further on, is a u32
abbrev pub CanMove : ℕ → LogEntry → Type 0
CanMove places (Plain worker end number generation) = Unit {0}
CanMove places (Other place) = place + places < 2 ^ 32

-- the entry where so many others stand in front of its own
abbrev pub moved_behind : ℕ → LogEntry → LogEntry
moved_behind places (Plain worker end number generation) = Plain worker end number generation
moved_behind places (Other place) = Other (place + places)
