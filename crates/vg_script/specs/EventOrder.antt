-- The order of a script's events, which the definition gives by inserting each in its place.
use Rattle.std.specs.Prelude.{◌≡◌, ◌≤◌, List, All, length, flat_map, sum_by, IsTrue, IsPermutation}
use Rattle.std.specs.List.{AllPairs}
use Rattle.std.specs.List.Sorted.{IsSortedBy}
use Rattle.vg_script.specs.declared.scripts.Script.{Script}
use Rattle.vg_script.specs.Events.{Event, events_of, comes_before, events}
use Rattle.vg_script.specs.Lawful.{block_events, IsLawful}
use Rattle.vg_script.specs.Reading.{most_events}

-- none comes before the one in front of it
abbrev pub AreInOrder : List Event → Type 0
AreInOrder es = IsSortedBy comes_before es

-- each comes before all behind it
abbrev pub AreStrictlyInOrder : List Event → Type 0
AreStrictlyInOrder es = AllPairs (λ a b. IsTrue (comes_before a b)) es

-- these are the events of the script's blocks, in whatever order
abbrev pub AreOfBlocks : Script → List Event → Type 0
AreOfBlocks script es = IsPermutation (flat_map events_of script.blocks) es

-- the events of a script are those of its blocks, as many as its blocks ask for, in order
abbrev pub EventsAreInOrder : Type 0
EventsAreInOrder = (script : Script) → AreInOrder (events script)

abbrev pub EventsAreOfBlocks : Type 0
EventsAreOfBlocks = (script : Script) → AreOfBlocks script (events script)

abbrev pub EventsAreCounted : Type 0
EventsAreCounted = (script : Script) → length (events script) ≡ sum_by block_events script.blocks

-- no two events of a lawful script stand in the same place, so there is just one order of them
abbrev pub EventsAreStrictlyInOrder : Type 0
EventsAreStrictlyInOrder = (script : Script) → IsLawful script → AreStrictlyInOrder (events script)

abbrev pub OrderIsUnique : Type 0
OrderIsUnique = (script : Script) → IsLawful script → (es : List Event) → AreOfBlocks script es → AreInOrder es → es ≡ events script

-- the events of a lawful script are few, and their times small
abbrev pub EventsAreFew : Type 0
EventsAreFew = (script : Script) → IsLawful script → length (events script) ≤ most_events

abbrev pub EventsAreSoon : Type 0
EventsAreSoon = (script : Script) → IsLawful script → All (λ e. e.time ≤ 999000000000000) (events script)
