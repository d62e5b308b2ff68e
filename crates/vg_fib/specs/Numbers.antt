-- Routes by number, in a form that addresses are looked up in. Each route has a slot, which is empty once the route is removed. Its number is the
-- slot's place and one more, and 0 is no route.
use Rattle.std.specs.Prelude.{ℕ, zero, suc, Bool, true, false, Option, None, Some, option_map, filter_map, nat_lt, ◌==◌, ◌≡◌, ◌+◌, ◌<◌, ◌≤◌, List, length, take, slice_index_or, if◌then◌else◌}
use Rattle.vg_model.specs.declared.routes.RouteTo.{RouteTo}
use Rattle.vg_model.specs.Route.{PrefixKind, RoutesOf, covers_of}
use Rattle.vg_fib.specs.declared.numbers.Change.{Change}
use Rattle.vg_fib.specs.declared.numbers.Change.TheVariants.{Comes, Goes}

-- places for routes
abbrev pub SlotsOf : Type 0 → Type 0
SlotsOf P = List (Option (P × RouteTo))

-- the most slots that routes are put into
abbrev pub most_slots : ℕ
most_slots = 8192

-- the routes that stand in slots, in their order
abbrev pub routes_in : {P : Type 0} → SlotsOf P → RoutesOf P
routes_in slots = filter_map (λ slot. slot) slots

-- what stands in the slot at a place: nothing behind the last
abbrev pub slot_at : {P : Type 0} → SlotsOf P → ℕ → Option (P × RouteTo)
slot_at slots place = slice_index_or slots place None

-- how many bits a route's prefix has, and 0 where there is no route
abbrev pub length_if : {P : Type 0} → PrefixKind P → Option (P × RouteTo) → ℕ
length_if kind None = 0
length_if kind (Some route) = kind.len route.0

-- how many bits the prefix at a place has, and 0 where no route stands
abbrev pub length_at : {P : Type 0} → PrefixKind P → SlotsOf P → ℕ → ℕ
length_at kind slots place = length_if kind (slot_at slots place)

-- how many bits the prefix of a number has: of the route at the place before it, and 0 where the number is no route's
abbrev pub length_of : {P : Type 0} → PrefixKind P → SlotsOf P → ℕ → ℕ
length_of kind slots zero = 0
length_of kind slots (suc place) = length_at kind slots place

-- of two numbers that of the longer prefix, and the first where none is longer
abbrev pub longer_of : {P : Type 0} → PrefixKind P → SlotsOf P → ℕ → ℕ → ℕ
longer_of kind slots number old = if nat_lt (length_of kind slots number) (length_of kind slots old) then old else number

-- the number that an address of a prefix has after a change, by its number before it
abbrev pub changed_by : {P : Type 0} → PrefixKind P → SlotsOf P → Change → ℕ → ℕ
changed_by kind slots (Comes number) old = longer_of kind slots number old
changed_by kind slots (Goes gone heir) old = if old == gone then heir else old

-- whether a route covers an address
abbrev pub covers_if : {P : Type 0} → PrefixKind P → Option (P × RouteTo) → ℕ → Bool
covers_if kind None address = false
covers_if kind (Some route) address = covers_of kind route.0 address

-- whether the prefix at a place covers an address
abbrev pub covers_at : {P : Type 0} → PrefixKind P → SlotsOf P → ℕ → ℕ → Bool
covers_at kind slots place address = covers_if kind (slot_at slots place) address

-- the prefix at this place covers the address, and of these places none that covers it has a longer one
pub record IsLongestOf {P : Type 0} (kind : PrefixKind P) (slots : SlotsOf P) (places : ℕ → Type 0) (address place : ℕ) : Type 0 where
  pub within : place < length slots
  pub covers : covers_at kind slots place address ≡ true
  pub longest : (k : ℕ) → k < length slots → places k → covers_at kind slots k address ≡ true → length_at kind slots k ≤ length_at kind slots place

-- an address's number among these places: that of the longest prefix that covers it, or 0 where none of them covers it
abbrev pub IsBestOf : {P : Type 0} → PrefixKind P → SlotsOf P → (ℕ → Type 0) → ℕ → ℕ → Type 0
IsBestOf kind slots places address zero = (k : ℕ) → k < length slots → places k → covers_at kind slots k address ≡ false
IsBestOf kind slots places address (suc place) = IsLongestOf kind slots places address place

-- the number of the route that takes a prefix's addresses over where that has no route: of those around it the longest
pub record IsHeir {P : Type 0} (kind : PrefixKind P) (slots : SlotsOf P) (prefix : P) (number : ℕ) : Type 0 where
  pub short : length_of kind slots number ≤ kind.len prefix
  pub best : IsBestOf kind slots (λ k. length_at kind slots k ≤ kind.len prefix) (kind.addr prefix) number

-- a route of this prefix stands here
pub record HasPrefix {P : Type 0} (slots : SlotsOf P) (place : ℕ) (prefix : P) : Type 0 where
  pub to : RouteTo
  pub is : slot_at slots place ≡ Some (prefix, to)

-- the target of a number: that of the route at the place before it, and none for 0
abbrev pub target_of : {P : Type 0} → SlotsOf P → ℕ → Option RouteTo
target_of slots zero = None
target_of slots (suc place) = option_map (λ route. route.1) (slot_at slots place)

-- the routes in slots are the first so many of a table
pub record AreFirstOf {P : Type 0} (routes : RoutesOf P) (known : ℕ) (slots : SlotsOf P) : Type 0 where
  pub few : known ≤ length routes
  pub same : routes_in slots ≡ take known routes

-- these are the places from one on, below another
pub record AreFrom (known all : ℕ) (order : List ℕ) : Type 0 where
  pub count : length order + known ≡ all
  pub within : (i : ℕ) → i < length order → slice_index_or order i 0 < all
  pub each : (k : ℕ) → known ≤ k → k < all → (i : ℕ) × (i < length order) × (slice_index_or order i 0 ≡ k)
