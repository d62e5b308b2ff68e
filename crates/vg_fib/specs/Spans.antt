-- Spans of addresses that have one best route each, side by side.
use Rattle.std.specs.Prelude.{ℕ, Bool, ◌≡◌, ◌+◌, ◌-◌, ◌<◌, ◌≤◌, ◌^◌, List, length, slice_index_or, if◌then◌else◌}
use Rattle.vg_model.specs.declared.routes.Prefix6.{Prefix6}
use Rattle.vg_model.specs.Route.{ip6, covers_of}
use Rattle.vg_fib.specs.Table.{IsTable}
use Rattle.vg_fib.specs.Numbers.{SlotsOf, IsBestOf, covers_at, longer_of, routes_in}
use Rattle.vg_fib.specs.declared.spans.Spans.{Spans}

-- where a span begins
abbrev pub start_of : List ℕ → ℕ → ℕ
start_of starts place = slice_index_or starts place 0

-- of some places, each so far behind the one before, the last that doesn't begin behind the address
pub record IsLast (starts : List ℕ) (step address place : ℕ) : Type 0 where
  pub inside : place < length starts
  pub from : start_of starts place ≤ address
  pub below : place + step < length starts → address < start_of starts (place + step)

-- spans begin by rising addresses
abbrev pub AreRising : List ℕ → Type 0
AreRising starts = (i j : ℕ) → i < j → j < length starts → start_of starts i < start_of starts j

-- the spans lie side by side from address 0 on, and each has a number
pub record AreSpans (starts numbers : List ℕ) : Type 0 where
  pub some : 0 < length starts
  pub first : start_of starts 0 ≡ 0
  pub rising : AreRising starts
  pub numbered : length numbers ≡ length starts

abbrev pub IsSpans : Spans → Type 0
IsSpans spans = AreSpans spans.starts.items spans.numbers.items

-- a span in which the address lies has this number
pub record HasNumber (starts numbers : List ℕ) (address number : ℕ) : Type 0 where
  pub place : ℕ
  pub lies : IsLast starts 1 address place
  pub is : slice_index_or numbers place 0 ≡ number

abbrev pub Has : Spans → ℕ → ℕ → Type 0
Has spans address number = HasNumber spans.starts.items spans.numbers.items address number

-- a span begins at the address, and the numbers of all addresses are what they were
pub record IsCut (address place : ℕ) (old_starts old_numbers new_starts new_numbers : List ℕ) : Type 0 where
  pub shape : AreSpans new_starts new_numbers
  pub inside : place < length new_starts
  pub is : start_of new_starts place ≡ address
  -- the spans before it are those that began before the address
  pub before : (k : ℕ) → k < length old_starts → start_of old_starts k < address → (k < place) × (start_of new_starts k ≡ start_of old_starts k)
  pub numbers : (a n : ℕ) → HasNumber new_starts new_numbers a n → HasNumber old_starts old_numbers a n

abbrev pub IsCutAt : ℕ → ℕ → Spans → Spans → Type 0
IsCutAt address place old new = IsCut address place old.starts.items old.numbers.items new.starts.items new.numbers.items

-- the first address behind those of a prefix
abbrev pub end_of : Prefix6 → ℕ
end_of prefix = prefix.addr + 2 ^ (128 - prefix.len)

-- an address has the number that it had, or one that is changed
pub record IsChangedAt (inside : ℕ → Bool) (f : ℕ → ℕ) (starts numbers : List ℕ) (address new : ℕ) : Type 0 where
  pub old : ℕ
  pub had : HasNumber starts numbers address old
  pub is : new ≡ (if inside address then f old else old)

-- the numbers of these addresses are changed, and no others
pub record AreChanged (inside : ℕ → Bool) (f : ℕ → ℕ) (old new : Spans) : Type 0 where
  pub shape : IsSpans new
  pub numbers : (address number : ℕ) → address < 2 ^ 128 → Has new address number
      → IsChangedAt inside f old.starts.items old.numbers.items address number

-- those of the addresses of a prefix
abbrev pub IsSpread : Prefix6 → (ℕ → ℕ) → Spans → Spans → Type 0
IsSpread prefix f old new = AreChanged (covers_of ip6 prefix) f old new

-- those of the addresses of the route in a slot, if there is one, have its number, unless a longer one covers them
abbrev pub IsSpreadAt : SlotsOf Prefix6 → ℕ → Spans → Spans → Type 0
IsSpreadAt slots place old new = AreChanged (covers_at ip6 slots place) (longer_of ip6 slots (place + 1)) old new

-- the routes of the first so many slots are put into these spans: each address has its best number among them
pub record HasFirst6 (slots : SlotsOf Prefix6) (known : ℕ) (spans : Spans) : Type 0 where
  pub shape : IsSpans spans
  pub numbers : (address number : ℕ) → address < 2 ^ 128 → Has spans address number → IsBestOf ip6 slots (λ k. k < known) address number

-- all routes are put into these spans, and are a table's
pub record AreRoutesOf (slots : SlotsOf Prefix6) (spans : Spans) : Type 0 where
  pub table : IsTable ip6 (routes_in slots)
  pub has : HasFirst6 slots (length slots) spans
