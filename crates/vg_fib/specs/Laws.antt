-- Laws of the best route, for either kind of prefixes (this project's profile).
use Rattle.std.specs.Prelude.{None, ◌≡◌, ◌↔◌, ℕ, ◌≤◌, false, true, All, Contains, remove, Some, Ok, IsPermutation}
use Rattle.vg_model.specs.declared.routes.RouteTo.{RouteTo}
use Rattle.vg_model.specs.Route.{PrefixKind, RoutesOf, covers_of, best_of}
use Rattle.vg_model.specs.Edit.{most_routes, placed, place_in}
use Rattle.vg_fib.specs.Table.{HasOneEach}

-- these are the routes after the route of a prefix is set
abbrev pub IsSet : {P : Type 0} → PrefixKind P → RoutesOf P → P → RouteTo → RoutesOf P → Type 0
IsSet kind before prefix to after = placed most_routes (place_in kind prefix before) (prefix, to) before ≡ Ok after

-- these are the routes after the route of a prefix is removed
abbrev pub IsRemoved : {P : Type 0} → PrefixKind P → RoutesOf P → P → RoutesOf P → Type 0
IsRemoved kind before prefix after = (place : ℕ) × (place_in kind prefix before ≡ Some place) × (after ≡ remove before place)

-- no prefix of more than so many bits covers the address
abbrev pub NoneIsLonger : {P : Type 0} → PrefixKind P → RoutesOf P → ℕ → ℕ → Type 0
NoneIsLonger kind routes address bits = All (λ route. covers_of kind route.0 address ≡ true → kind.len route.0 ≤ bits) routes

-- a route covers the address, and no longer one does
pub record IsLongestMatch {P : Type 0} (kind : PrefixKind P) (routes : RoutesOf P) (address : ℕ) (route : P × RouteTo) : Type 0 where
  pub inside : Contains routes route
  pub covers : covers_of kind route.0 address ≡ true
  pub longest : NoneIsLonger kind routes address (kind.len route.0)

-- the best route is the longest match
abbrev pub LongestMatchIsBest : {P : Type 0} → PrefixKind P → Type 0
LongestMatchIsBest {P} kind = (routes : RoutesOf P) (address : ℕ) (route : P × RouteTo) → HasOneEach kind routes
    → IsLongestMatch kind routes address route → best_of kind routes address ≡ Some route.1

-- there is no best route exactly where no prefix covers the address
abbrev pub NoMatchIsNone : {P : Type 0} → PrefixKind P → Type 0
NoMatchIsNone {P} kind = (routes : RoutesOf P) (address : ℕ)
    → (best_of kind routes address ≡ None) ↔ All (λ route. covers_of kind route.0 address ≡ false) routes

-- two prefixes of one length that cover an address are one prefix
abbrev pub CoveringPrefixIsUnique : {P : Type 0} → PrefixKind P → Type 0
CoveringPrefixIsUnique {P} kind = (one other : P) (address : ℕ) → covers_of kind one address ≡ true → covers_of kind other address ≡ true
    → kind.len one ≡ kind.len other → one ≡ other

-- the order of the routes doesn't matter
abbrev pub OrderIsFree : {P : Type 0} → PrefixKind P → Type 0
OrderIsFree {P} kind = (routes others : RoutesOf P) (address : ℕ) → HasOneEach kind routes → IsPermutation routes others
    → best_of kind routes address ≡ best_of kind others address

-- a route that was set is found for each address that it covers, unless a longer one covers it
abbrev pub SetRouteIsFound : {P : Type 0} → PrefixKind P → Type 0
SetRouteIsFound {P} kind = (before after : RoutesOf P) (prefix : P) (to : RouteTo) (address : ℕ)
    → HasOneEach kind before → IsSet kind before prefix to after → covers_of kind prefix address ≡ true
    → NoneIsLonger kind before address (kind.len prefix)
    → best_of kind after address ≡ Some to

-- a route that was set changes nothing for an address that it doesn't cover
abbrev pub SetChangesOnlyCovered : {P : Type 0} → PrefixKind P → Type 0
SetChangesOnlyCovered {P} kind = (before after : RoutesOf P) (prefix : P) (to : RouteTo) (address : ℕ)
    → IsSet kind before prefix to after → covers_of kind prefix address ≡ false
    → best_of kind after address ≡ best_of kind before address

-- a route that was removed changes nothing for an address that it doesn't cover
abbrev pub RemoveChangesOnlyCovered : {P : Type 0} → PrefixKind P → Type 0
RemoveChangesOnlyCovered {P} kind = (before after : RoutesOf P) (prefix : P) (address : ℕ)
    → IsRemoved kind before prefix after → covers_of kind prefix address ≡ false
    → best_of kind after address ≡ best_of kind before address
