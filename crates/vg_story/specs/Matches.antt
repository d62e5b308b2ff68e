-- The longest prefix that covers an address, with the line that set it (RFC 1812, section 5.2.4.3), and the order in which it is searched.
use Rattle.std.specs.Prelude.{◌≡◌, ℕ, ◌-◌, ◌<◌, ◌≤◌, true, false, List, length, slice_index_or, Contains, Option}
use Rattle.std.specs.List.{filter}
use Rattle.std.specs.List.Sorted.{IsNonDecreasingBy, IsPermutation}
use Rattle.vg_model.specs.declared.routes.Prefix.{Prefix}
use Rattle.vg_model.specs.declared.routes.Prefix6.{Prefix6}
use Rattle.vg_model.specs.Route.{PrefixKind, covers, covers_of, is_same, longest}
use Rattle.vg_fib.specs.Order.{rank}

-- of prefixes with their lines the longest that covers an IPv4 address
abbrev pub matched_in : List (Prefix × ℕ) → ℕ → Option (Prefix × ℕ)
matched_in routes address = longest (λ p. p.len) (filter (λ route. covers 32 route.0.addr route.0.len address) routes)

-- the same for IPv6
abbrev pub matched6_in : List (Prefix6 × ℕ) → ℕ → Option (Prefix6 × ℕ)
matched6_in routes address = longest (λ p. p.len) (filter (λ route. covers 128 route.0.addr route.0.len address) routes)

-- routes of one prefix have one line
abbrev pub HasOneLineEach : {P : Type 0} → PrefixKind P → List (P × ℕ) → Type 0
HasOneLineEach {P} kind routes = (r s : P × ℕ) → Contains routes r → Contains routes s → is_same kind r.0 s.0 ≡ true → r.1 ≡ s.1

-- routes stand by their addresses, and of one address by their lengths
abbrev pub AreByRank : {P : Type 0} → PrefixKind P → List (P × ℕ) → Type 0
AreByRank kind routes = IsNonDecreasingBy (λ route. rank kind route.0) routes

-- of the first so many routes the last whose prefix covers an address is the one of this number, counted from 1; none does where it is 0
pub record IsNearest {P : Type 0} (kind : PrefixKind P) (routes : List (P × ℕ)) (address count number : ℕ) : Type 0 where
  pub within : number ≤ count
  pub covers : (d : P × ℕ) → 0 < number → covers_of kind (slice_index_or routes (number - 1) d).0 address ≡ true
  pub none : (k : ℕ) (d : P × ℕ) → number ≤ k → k < count → covers_of kind (slice_index_or routes k d).0 address ≡ false

-- of each of the first routes, the number of the last one before it whose prefix covers its address
pub record AreAround {P : Type 0} (kind : PrefixKind P) (routes : List (P × ℕ)) (around : List ℕ) : Type 0 where
  pub few : length around ≤ length routes
  pub each : (i : ℕ) (d : P × ℕ) → i < length around
      → IsNearest kind routes (kind.addr (slice_index_or routes i d).0) i (slice_index_or around i 0)

-- how many of the routes begin no later than an address
pub record IsBegun {P : Type 0} (kind : PrefixKind P) (routes : List (P × ℕ)) (address begun : ℕ) : Type 0 where
  pub inside : begun ≤ length routes
  pub begins : (k : ℕ) (d : P × ℕ) → k < begun → kind.addr (slice_index_or routes k d).0 ≤ address
  pub later : (k : ℕ) (d : P × ℕ) → begun ≤ k → k < length routes → address < kind.addr (slice_index_or routes k d).0

-- the first so many of these routes are searched for an address: none of them begins behind it
pub record IsSearched {P : Type 0} (kind : PrefixKind P) (routes : List (P × ℕ)) (around : List ℕ) (begun address : ℕ) : Type 0 where
  pub order : AreByRank kind routes
  pub nested : AreAround kind routes around
  pub within : begun ≤ length around
  pub begins : (k : ℕ) (d : P × ℕ) → k < begun → kind.addr (slice_index_or routes k d).0 ≤ address

-- routes in the form in which they are searched
pub record AreIndexed {P : Type 0} (kind : PrefixKind P) (listed sorted : List (P × ℕ)) (around : List ℕ) : Type 0 where
  pub one_line_each : HasOneLineEach kind listed
  pub moved : IsPermutation listed sorted
  pub order : AreByRank kind sorted
  pub nested : AreAround kind sorted around
  pub all : length around ≡ length sorted
