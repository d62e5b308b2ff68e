-- What is printed.
use Rattle.std.specs.Prelude.{◌≡◌, ℕ, zero, suc, Bool, true, false, List, [], ◌++◌, length, count_by, slice_get, Some, ◌-◌, if◌then◌else◌}
use Rattle.vg_model.specs.declared.kinds.DropError.{DropError}
use Rattle.vg_model.specs.Count.{error_count, interface_count}
use Rattle.vg_model.specs.Graph.{Graph, with_routes}
use Rattle.vg_model.specs.Journey.{sent}
use Rattle.vg_story.specs.declared.pieces.Piece.{Piece}
use Rattle.vg_ways.specs.declared.entries.Entry.{Entry}
use Rattle.vg_ways.specs.declared.stories.Went.{Went}
use Rattle.vg_ways.specs.Counts.{counts_text}
use Rattle.vg_ways.specs.Entries.{is_began, is_left_any, is_tx, is_dropped}
use Rattle.vg_ways.specs.Logs.{under, within, all_of, total}
use Rattle.vg_ways.specs.Ways.{way_text}
use Rattle.vg_why.specs.Asked.{Asked, Packets, All, Counts, is_asked}
use Rattle.vg_why.specs.Filters.{meets}
use Rattle.vg_why.specs.Journeys.{Gone, IsTold, place_of, AreEntries}

-- the way of a packet, where it meets what is asked for
abbrev pub IsWay : Gone → Graph → Asked → ℕ → List ℕ → Type 0
IsWay gone names asked number text =
    (went : Went) × (told : List Piece) × IsTold gone number went told
    × (text ≡ (if meets names asked went.end told then way_text gone.plan.script names (place_of gone number) went told else []))

-- the same, where a packet of its number is asked for; else nothing
abbrev pub IsWayWhere : Gone → Graph → Asked → ℕ → Bool → List ℕ → Type 0
IsWayWhere gone names asked number true text = IsWay gone names asked number text
IsWayWhere gone names asked number false text = text ≡ []

-- the ways that are asked for of the first so many packets, in the order of their numbers
abbrev pub AreWays : Gone → Graph → Asked → ℕ → List ℕ → Type 0
AreWays gone names asked zero text = text ≡ []
AreWays gone names asked (suc number) text =
    (before : List ℕ) × (way : List ℕ) × AreWays gone names asked number before
    × (IsWayWhere gone names asked number (is_asked asked number) way × (text ≡ before ++ way))

-- the table of counts of all packets; the counts of its generations add up: those of each line to that of all together; those of packets to how
-- many there are; those that left by neighbors or by none to what was transmitted; those of interfaces and of drops to those of the journeys,
-- which a report has
pub record AreCounts (gone : Gone) (names : Graph) (text : List ℕ) : Type 0 where
  pub entries : List (ℕ × Entry)
  pub are : AreEntries gone (length gone.js) entries
  pub is_text : text ≡ counts_text gone.plan names entries
  pub all : (p : Entry → Bool)
      → count_by p (all_of (within (length gone.plan.graphs) entries)) ≡ total (length gone.plan.graphs) (λ g. count_by p (under g entries))
  pub packets : total (length gone.plan.graphs) (λ g. count_by is_began (under g entries)) ≡ length gone.js
  pub left : total (length gone.plan.graphs) (λ g. count_by is_left_any (under g entries)) ≡ length (sent gone.js)
  pub sends : (interface : ℕ) → total (length gone.plan.graphs) (λ g. count_by (is_tx interface) (under g entries)) ≡ interface_count interface gone.js
  pub drops : (node : ℕ) (error : DropError)
      → total (length gone.plan.graphs) (λ g. count_by (is_dropped node error) (under g entries)) ≡ error_count node error gone.js

-- the nodes, interfaces and neighbors are those of the last of these graphs, whatever the routes
pub record AreNamesOf (graphs : List Graph) (names : Graph) : Type 0 where
  pub last : Graph
  pub is_last : slice_get graphs (length graphs - 1) ≡ Some last
  pub same : with_routes names last.routes last.routes6 ≡ last

-- the text that is asked for, by the names of a graph
abbrev pub IsPrinted : Gone → Graph → Asked → List ℕ → Type 0
IsPrinted gone names (Packets numbers) text = AreWays gone names (Packets numbers) (length gone.js) text
IsPrinted gone names (All f) text = AreWays gone names (All f) (length gone.js) text
IsPrinted gone names Counts text = AreCounts gone names text
