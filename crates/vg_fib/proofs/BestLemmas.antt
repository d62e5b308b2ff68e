-- For `covering_prefix_is_unique`, `best_route_is_the_longest_match`, `order_is_free`, `set_route_is_found` and the laws beside them:
-- The best route: the one route whose prefix covers the address and is the longest of those.
use Rattle.std.proofs.Common.{◌≡◌, ℕ, ◌<◌, ◌≤◌, ◌⊎◌, inl, inr, Bool, true, false, [], ◌∷◌, ◌++◌, length, get_or, refl, sym, ◌∙◌, ap, arith, append-nil}
use Rattle.std.proofs.lemmas.List.{get_or-set_same}
use Rattle.std.proofs.lemmas.List.Elements.{All-contains, All-filter, All-contains_itself, All-push, All-set, All-weaker, All-from_recursion, recursion_from_All, filter_passes, filter-append, Contains-push}
use Rattle.std.proofs.lemmas.List.Sorted.{All-permutation, Contains-permutation, IsPermutation-map}
use Rattle.std.proofs.lemmas.Map.Keys.{IsDistinct-IsPermutation}
use Rattle.std.proofs.lemmas.Map.Views.{lookup-from_Contains}
use Rattle.std.proofs.Math.ListN.{set, length-set}
use Rattle.std.specs.Prelude.{Some, None, Ok, Err, option_map, remove, nat_le, IsPermutation, if◌then◌else◌}
use Rattle.std.specs.List.{All, Contains, filter}
use Rattle.std.specs.Map.{lookup}
use Rattle.vg_model.specs.declared.routes.RouteTo.{RouteTo}
use Rattle.vg_model.specs.declared.routes.RouteTo.TheVariants.{Local}
use Rattle.vg_model.specs.Route.{longest, PrefixKind, RoutesOf, is_same, covers_of, best_of}
use Rattle.vg_model.specs.Edit.{TooMany, placed, most_routes, place_in}
use Rattle.vg_fib.specs.Table.{HasOneEach}
use Rattle.vg_fib.specs.Laws.{IsSet, CoveringPrefixIsUnique, OrderIsFree, IsLongestMatch, LongestMatchIsBest, NoMatchIsNone, SetRouteIsFound, SetChangesOnlyCovered, RemoveChangesOnlyCovered}
use Rattle.vg_fib.proofs.ListLemmas.{All-from_filter, filter_nothing, filter-set, filter-remove}
use Rattle.vg_fib.proofs.LongestLemmas.{longest_none, longest_passes, longest_most}
use Rattle.vg_fib.proofs.PrefixLemmas.{ArePrefixes, same_equivalence, covering_is_one}
use Rattle.vg_fib.proofs.TableLemmas.{stands_where_found, place_within, one_each_set, one_each_push}

-- a route covers the address
abbrev pub covering : {P : Type 0} → PrefixKind P → ℕ → P × RouteTo → Bool
covering kind address route = covers_of kind route.0 address

-- if a route covers the address, it has at most so many bits
abbrev pub IsAtMost : {P : Type 0} → PrefixKind P → ℕ → ℕ → P × RouteTo → Type 0
IsAtMost kind address bits route = covering kind address route ≡ true → (kind.len route.0) ≤ bits

-- a route doesn't cover the address
abbrev pub IsElsewhere : {P : Type 0} → PrefixKind P → ℕ → P × RouteTo → Type 0
IsElsewhere kind address route = covering kind address route ≡ true → ⊥

module _ {P : Type 0} {kind : PrefixKind P} (are : ArePrefixes kind) where
  -- the longest of those that cover is the best
  longest_is_best : (routes : RoutesOf P) (address : ℕ) (r : P × RouteTo)
      → longest kind.len (filter (covering kind address) routes) ≡ Some r → IsLongestMatch kind routes address r
  longest_is_best routes address r e = record {
    inside = longest_passes (Contains routes) kind.len _ r
        (recursion_from_All (Contains routes) _ (All-filter (covering kind address) (Contains routes) routes (All-contains_itself routes))) e;
    covers = longest_passes (λ route. covering kind address route ≡ true) kind.len _ r
        (recursion_from_All _ _ (filter_passes (covering kind address) routes)) e;
    longest = All-from_filter (covering kind address) (λ route. (kind.len route.0) ≤ (kind.len r.0)) routes (longest_most kind.len _ r e);
  }

  -- where none is the longest, none covers
  none_covers : (routes : RoutesOf P) (address : ℕ) → longest kind.len (filter (covering kind address) routes) ≡ None
      → All (IsElsewhere kind address) routes
  none_covers routes address e =
      let empty : filter (covering kind address) routes ≡ [] = longest_none kind.len _ e in
      All-from_filter (covering kind address) (λ _. ⊥) routes (All-from_recursion (λ _. ⊥) _ (rw empty tt))

  -- two routes of a table with one prefix lead to one target
  one_target : (routes : RoutesOf P) (r s : P × RouteTo) → HasOneEach kind routes → Contains routes r → Contains routes s
      → is_same kind r.0 s.0 ≡ true → r.1 ≡ s.1
  one_target routes r s distinct here there same =
      let first : lookup (is_same kind r.0) routes ≡ Some r.1 = lookup-from_Contains (same_equivalence are) r.0 r.1 routes distinct here in
      let second : lookup (is_same kind s.0) routes ≡ Some s.1 = lookup-from_Contains (same_equivalence are) s.0 s.1 routes distinct there in
      let one : r.0 ≡ s.0 = are.one r.0 s.0 same in
      let both : lookup (is_same kind r.0) routes ≡ lookup (is_same kind s.0) routes = ap (λ p. lookup (is_same kind p) routes) one in
      cc

  -- two best routes lead to one target
  one_best : (routes : RoutesOf P) (address : ℕ) (r s : P × RouteTo) → HasOneEach kind routes → IsLongestMatch kind routes address r → IsLongestMatch kind routes address s → r.1 ≡ s.1
  one_best routes address r s distinct best other =
      let below : (kind.len r.0) ≤ (kind.len s.0) = All-contains (IsAtMost kind address (kind.len s.0)) routes r other.longest best.inside best.covers in
      let above : (kind.len s.0) ≤ (kind.len r.0) = All-contains (IsAtMost kind address (kind.len r.0)) routes s best.longest other.inside other.covers in
      one_target routes r s distinct best.inside other.inside (covering_is_one are r.0 s.0 address best.covers other.covers (omega arith))

  -- the answer where there is a best route
  pub longest_match_is_best : LongestMatchIsBest kind
  longest_match_is_best routes address r distinct best =
      elim (longest kind.len (filter (covering kind address) routes)) as
      (λ o. longest kind.len (filter (covering kind address) routes) ≡ o → option_map {U = RouteTo} (λ route. route.1) o ≡ Some r.1) [
        | None ↦ λ e. absurd (All-contains (IsElsewhere kind address) routes r (none_covers routes address e) best.inside best.covers)
        | Some s ↦ λ e. ap (λ to. Some to) (one_best routes address s r distinct (longest_is_best routes address s e) best)
      ] refl

  -- the answer where no route covers
  pub no_answer : (routes : RoutesOf P) (address : ℕ) → All (IsElsewhere kind address) routes → best_of kind routes address ≡ None
  no_answer routes address none = ap (λ rs. option_map (λ route. route.1) (longest kind.len rs)) (filter_nothing (covering kind address) routes (recursion_from_All _ _ none))

  -- a test that isn't true is false
  false_from_not_true : (b : Bool) → (b ≡ true → ⊥) → b ≡ false
  false_from_not_true true not = absurd (not refl)
  false_from_not_true false not = refl

  -- where there is no best route, none covers the address
  none_from_no_answer : (routes : RoutesOf P) (address : ℕ) → best_of kind routes address ≡ None → All (IsElsewhere kind address) routes
  none_from_no_answer routes address is =
      elim (longest kind.len (filter (covering kind address) routes)) as
      (λ o. longest kind.len (filter (covering kind address) routes) ≡ o → option_map {U = RouteTo} (λ route. route.1) o ≡ None
      → All (IsElsewhere kind address) routes) [
        | None ↦ λ e none. none_covers routes address e
        | Some s ↦ λ e some. absurd (let bad : ⊥ = cc in bad)
      ] refl is

  -- there is no best route exactly where no prefix covers the address
  pub no_match_is_none : NoMatchIsNone kind
  no_match_is_none routes address = (
    (λ is. All-weaker (IsElsewhere kind address) (λ route. covering kind address route ≡ false) (λ route. false_from_not_true (covering kind address route)) routes
        (none_from_no_answer routes address is)),
    (λ none. no_answer routes address
        (All-weaker (λ route. covering kind address route ≡ false) (IsElsewhere kind address) (λ route no yes. let bad : ⊥ = cc in bad) routes none)),
  )

  -- the longest match is so in another order too
  best_elsewhere : (routes others : RoutesOf P) (address : ℕ) (r : P × RouteTo) → IsPermutation routes others → IsLongestMatch kind routes address r → IsLongestMatch kind others address r
  best_elsewhere routes others address r moved best = record {
    inside = Contains-permutation routes others r moved best.inside;
    covers = best.covers;
    longest = All-permutation (IsAtMost kind address (kind.len r.0)) routes others moved best.longest;
  }

  -- two prefixes of one length that cover an address are one prefix
  pub covering_prefix_is_unique : CoveringPrefixIsUnique kind
  covering_prefix_is_unique one other address over under len = are.one one other (covering_is_one are one other address over under len)

  -- the order of the routes doesn't matter
  pub order_is_free : OrderIsFree kind
  order_is_free routes others address distinct moved =
      let still : HasOneEach kind others =
      IsDistinct-IsPermutation (is_same kind) (same_equivalence are).symm _ _ (IsPermutation-map (λ route. route.0) routes others moved) distinct in
      elim (longest kind.len (filter (covering kind address) routes)) as
      (λ o. longest kind.len (filter (covering kind address) routes) ≡ o → option_map {U = RouteTo} (λ route. route.1) o ≡ best_of kind others address) [
        | None ↦ λ e. sym (no_answer others address (All-permutation (IsElsewhere kind address) routes others moved (none_covers routes address e)))
        | Some s ↦ λ e. sym (longest_match_is_best others address s still (best_elsewhere routes others address s moved (longest_is_best routes address s e)))
      ] refl

  -- the two ways in which a route is set
  set_cases : (before after : RoutesOf P) (prefix : P) (to : RouteTo) → IsSet kind before prefix to after
      → ((place : ℕ) × (place_in kind prefix before ≡ Some place) × (after ≡ set before place (prefix, to)))
      ⊎ ((place_in kind prefix before ≡ None) × (after ≡ before ++ (prefix, to) ∷ []))
  set_cases before after prefix to is =
      elim (place_in kind prefix before) as (λ o. place_in kind prefix before ≡ o → placed most_routes o (prefix, to) before ≡ Ok after
      → ((place : ℕ) × (place_in kind prefix before ≡ Some place) × (after ≡ set before place (prefix, to)))
      ⊎ ((place_in kind prefix before ≡ None) × (after ≡ before ++ (prefix, to) ∷ []))) [
        | Some place ↦ λ e done. inl (place, e, (cc))
        | None ↦ λ e done.
            elim (nat_le most_routes (length before)) as (λ b. (if b then Err TooMany else Ok (before ++ (prefix, to) ∷ [])) ≡ Ok after
            → ((place : ℕ) × (place_in kind prefix before ≡ Some place) × (after ≡ set before place (prefix, to)))
            ⊎ ((place_in kind prefix before ≡ None) × (after ≡ before ++ (prefix, to) ∷ []))) [
              | true ↦ λ refused. absurd (let bad : ⊥ = cc in bad)
              | false ↦ λ pushed. inr (e, (cc))
            ] done
      ] refl is

  -- a route that was set is in the table
  set_inside : (before : RoutesOf P) (place : ℕ) (route : P × RouteTo) → place < length before → Contains (set before place route) route
  set_inside before place route within = (place, rw length-set within, get_or-set_same before place route route within)

  -- a route that was set is found for each address that it covers, unless a longer one covers it
  pub set_route_is_found : SetRouteIsFound kind
  set_route_is_found before after prefix to address distinct is covers most =
      elim (set_cases before after prefix to is) [
        | inl w ↦ rw w.2 (longest_match_is_best (set before w.0 (prefix, to)) address (prefix, to) (one_each_set are prefix to before w.0 distinct w.1) (record {
          inside = set_inside before w.0 (prefix, to) (place_within are prefix before w.0 w.1);
          covers = covers;
          longest = All-set (IsAtMost kind address (kind.len prefix)) before w.0 (prefix, to) (λ _. omega arith) most;
        }))
        | inr w ↦ rw w.1 (longest_match_is_best (before ++ (prefix, to) ∷ []) address (prefix, to) (one_each_push are prefix to before distinct w.0) (record {
          inside = Contains-push before (prefix, to);
          covers = covers;
          longest = All-push (IsAtMost kind address (kind.len prefix)) before (prefix, to) most (λ _. omega arith);
        }))
      ]

  -- lists that keep the same routes for an address have one best route
  same_answer : (routes others : RoutesOf P) (address : ℕ) → filter (covering kind address) routes ≡ filter (covering kind address) others → best_of kind routes address ≡ best_of kind others address
  same_answer routes others address same = ap (λ rs. option_map (λ route. route.1) (longest kind.len rs)) same

  -- the route at the place of a prefix doesn't cover what the prefix doesn't cover
  found_elsewhere : (routes : RoutesOf P) (prefix : P) (place address : ℕ) (d : P × RouteTo)
      → place_in kind prefix routes ≡ Some place → covers_of kind prefix address ≡ false → covering kind address (get_or routes place d) ≡ false
  found_elsewhere routes prefix place address d e elsewhere =
      ap (λ p. covers_of kind p address) (stands_where_found are prefix routes place d e).is ∙ elsewhere

  -- to set a route changes nothing for an address that it doesn't cover
  pub set_changes_only_covered : SetChangesOnlyCovered kind
  set_changes_only_covered before after prefix to address is elsewhere =
      elim (set_cases before after prefix to is) [
        | inl w ↦ rw w.2 (same_answer (set before w.0 (prefix, to)) before address
            (filter-set (covering kind address) before w.0 (prefix, to) (prefix, to) elsewhere (found_elsewhere before prefix w.0 address (prefix, to) w.1 elsewhere)))
        | inr w ↦ rw w.1 (same_answer (before ++ (prefix, to) ∷ []) before address
            (filter-append (covering kind address) before ((prefix, to) ∷ []) ∙ rw (elsewhere, append-nil) refl))
      ]

  -- to remove a route changes nothing for an address that it doesn't cover
  pub remove_changes_only_covered : RemoveChangesOnlyCovered kind
  remove_changes_only_covered before after prefix address removed elsewhere =
      rw removed.2 (same_answer (remove before removed.0) before address
      (filter-remove (covering kind address) before removed.0 (prefix, Local) (place_within are prefix before removed.0 removed.1)
      (found_elsewhere before prefix removed.0 address (prefix, Local) removed.1 elsewhere)))
