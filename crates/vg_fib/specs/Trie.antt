-- The trie of routes (strides of 16, 8 and 8 bits).
use Rattle.std.specs.Prelude.{ℕ, Bool, ◌≡◌, ◌+◌, ◌*◌, ◌/◌, ◌%◌, ◌^◌, ◌<◌, ◌≤◌, List, length, slice_index_or, if◌then◌else◌}
use Rattle.vg_model.specs.declared.routes.Prefix.{Prefix}
use Rattle.vg_model.specs.Route.{ip4, covers_of}
use Rattle.vg_fib.specs.Table.{IsTable}
use Rattle.vg_fib.specs.declared.entries.Entry.{Entry}
use Rattle.vg_fib.specs.declared.entries.Entry.TheVariants.{Leaf, Child}
use Rattle.vg_fib.specs.declared.trie.Levels.{Levels}
use Rattle.vg_fib.specs.Numbers.{SlotsOf, IsBestOf, covers_at, longer_of, routes_in}

-- the number that an entry of the second level gives to an address
abbrev pub number_in : List ℕ → Entry → ℕ → ℕ
number_in third (Leaf number) address = number
number_in third (Child child) address = slice_index_or third (256 * child + address % 256) 0

-- the number that an entry of the first level gives to an address
abbrev pub number_under : List Entry → List ℕ → Entry → ℕ → ℕ
number_under second third (Leaf number) address = number
number_under second third (Child child) address = number_in third (slice_index_or second (256 * child + address / 256 % 256) (Leaf 0)) address

-- the number that three levels give to an address
abbrev pub number_by : List Entry → List Entry → List ℕ → ℕ → ℕ
number_by first second third address = number_under second third (slice_index_or first (address / 65536) (Leaf 0)) address

abbrev pub number_at : Levels → ℕ → ℕ
number_at levels address = number_by levels.first.items levels.second.items levels.third.items address

-- each child of these entries is within a table of so many places, and is the child of one entry alone
pub record HasChildren (entries : List Entry) (places : ℕ) : Type 0 where
  pub within : (i c : ℕ) → slice_index_or entries i (Leaf 0) ≡ Child c → 256 * c + 256 ≤ places
  pub once : (i j c : ℕ) → slice_index_or entries i (Leaf 0) ≡ Child c → slice_index_or entries j (Leaf 0) ≡ Child c → i ≡ j

-- the levels fit each other
pub record AreLevels (first second : List Entry) (third : List ℕ) : Type 0 where
  pub all : length first ≡ 65536
  pub second_whole : length second % 256 ≡ 0
  pub third_whole : length third % 256 ≡ 0
  pub first_children : HasChildren first (length second)
  pub second_children : HasChildren second (length third)

abbrev pub IsLevels : Levels → Type 0
IsLevels levels = AreLevels levels.first.items levels.second.items levels.third.items

-- one more child has a number of 15 bits
abbrev pub Spare : Levels → Type 0
Spare levels = (length levels.second.items < 32768 * 256) × (length levels.third.items < 32768 * 256)

-- numbers at so many places from one on are raised, and the others are what they were
pub record IsRaised (f : ℕ → ℕ) (from count : ℕ) (old new : List ℕ) : Type 0 where
  pub same_length : length new ≡ length old
  pub inside : (k : ℕ) → from ≤ k → k < from + count → slice_index_or new k 0 ≡ f (slice_index_or old k 0)
  pub outside : (k : ℕ) → (from ≤ k → k < from + count → ⊥) → slice_index_or new k 0 ≡ slice_index_or old k 0

-- no entry got a child
abbrev pub HasNoMore : List Entry → List Entry → Type 0
HasNoMore old new = (k c : ℕ) → slice_index_or new k (Leaf 0) ≡ Child c → slice_index_or old k (Leaf 0) ≡ Child c

-- the numbers under so many places of the second level are raised, and the others are what they were
pub record IsRaisedSecond (f : ℕ → ℕ) (from count : ℕ) (old : List Entry) (old_third : List ℕ) (new : List Entry) (new_third : List ℕ) : Type 0 where
  pub same_length : length new ≡ length old
  pub third : length new_third ≡ length old_third
  pub no_more : HasNoMore old new
  pub inside : (k address : ℕ) → from ≤ k → k < from + count
      → number_in new_third (slice_index_or new k (Leaf 0)) address ≡ f (number_in old_third (slice_index_or old k (Leaf 0)) address)
  pub outside : (k address : ℕ) → (from ≤ k → k < from + count → ⊥)
      → number_in new_third (slice_index_or new k (Leaf 0)) address ≡ number_in old_third (slice_index_or old k (Leaf 0)) address

-- the numbers under so many places of the first level are raised, and the others are what they were
pub record AreRaised (f : ℕ → ℕ) (from count : ℕ) (old old_second : List Entry) (old_third : List ℕ) (new new_second : List Entry) (new_third : List ℕ) : Type 0 where
  pub same_length : length new ≡ length old
  pub second : length new_second ≡ length old_second
  pub third : length new_third ≡ length old_third
  pub no_more : HasNoMore old new
  pub no_more_below : HasNoMore old_second new_second
  pub inside : (k address : ℕ) → from ≤ k → k < from + count
      → number_under new_second new_third (slice_index_or new k (Leaf 0)) address ≡ f (number_under old_second old_third (slice_index_or old k (Leaf 0)) address)
  pub outside : (k address : ℕ) → (from ≤ k → k < from + count → ⊥)
      → number_under new_second new_third (slice_index_or new k (Leaf 0)) address ≡ number_under old_second old_third (slice_index_or old k (Leaf 0)) address

abbrev pub IsRaisedFirst : (ℕ → ℕ) → ℕ → ℕ → Levels → Levels → Type 0
IsRaisedFirst f from count old new =
    AreRaised f from count old.first.items old.second.items old.third.items new.first.items new.second.items new.third.items

-- the numbers of these addresses are changed, and no others; at most one child of each level is made
pub record IsChanged (inside : ℕ → Bool) (f : ℕ → ℕ) (old new : Levels) : Type 0 where
  pub shape : IsLevels new
  pub numbers : (address : ℕ) → address < 2 ^ 32
      → number_at new address ≡ (if inside address then f (number_at old address) else number_at old address)
  pub second_grows : length new.second.items ≤ length old.second.items + 256
  pub third_grows : length new.third.items ≤ length old.third.items + 256

-- those of the addresses of a prefix
abbrev pub IsPut : Prefix → (ℕ → ℕ) → Levels → Levels → Type 0
IsPut prefix f old new = IsChanged (covers_of ip4 prefix) f old new

-- those of the addresses of the route in a slot, if there is one, have its number, unless a longer one covers them
abbrev pub IsPutAt : SlotsOf Prefix → ℕ → Levels → Levels → Type 0
IsPutAt slots place old new = IsChanged (covers_at ip4 slots place) (longer_of ip4 slots (place + 1)) old new

-- a place of the first level has this child, and no address's number changed
pub record GivesFirstChild (place child : ℕ) (old new : Levels) : Type 0 where
  pub shape : IsLevels new
  pub is : slice_index_or new.first.items place (Leaf 0) ≡ Child child
  pub numbers : (address : ℕ) → number_at new address ≡ number_at old address
  pub grows : length new.second.items ≤ length old.second.items + 256
  pub same : new.third.items ≡ old.third.items

-- a place of the second level has this child, and no address's number changed
pub record GivesSecondChild (place child : ℕ) (old new : Levels) : Type 0 where
  pub shape : IsLevels new
  pub is : slice_index_or new.second.items place (Leaf 0) ≡ Child child
  pub numbers : (address : ℕ) → number_at new address ≡ number_at old address
  pub grows : length new.third.items ≤ length old.third.items + 256
  pub first : new.first.items ≡ old.first.items
  pub second : length new.second.items ≡ length old.second.items

-- so many more children of each level have a number of 15 bits
pub record HasRoom (more : ℕ) (levels : Levels) : Type 0 where
  pub second : length levels.second.items + 256 * more ≤ 32768 * 256
  pub third : length levels.third.items + 256 * more ≤ 32768 * 256

-- the routes of the first so many slots are put into these levels: each address has its best number among them
pub record HasFirst (slots : SlotsOf Prefix) (known : ℕ) (levels : Levels) : Type 0 where
  pub shape : IsLevels levels
  pub numbers : (address : ℕ) → address < 2 ^ 32 → IsBestOf ip4 slots (λ k. k < known) address (number_at levels address)

-- all routes are put into these levels, and are a table's
pub record IsTrie (slots : SlotsOf Prefix) (levels : Levels) : Type 0 where
  pub table : IsTable ip4 (routes_in slots)
  pub has : HasFirst slots (length slots) levels
