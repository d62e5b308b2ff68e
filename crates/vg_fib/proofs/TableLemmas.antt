-- For `new`, `set` and `remove` of `Fib` and `Fib6`, and for the laws of routes:
-- Edits of a table of routes.
use Rattle.std.proofs.Common.{◌≡◌, ℕ, ◌<◌, Bool, true, false, [], ◌∷◌, ◌++◌, map, length, get_or, refl, sym, ◌∙◌, ap, subst, arith, length-append}
use Rattle.std.proofs.Math.ListN.{set, length-set}
use Rattle.std.proofs.Math.Seq.{map-set_same}
use Rattle.std.proofs.lemmas.List.{map-append, get_or_default}
use Rattle.std.proofs.lemmas.List.Sorted.{IsPermutation-remove, IsPermutation-map, length_permutation}
use Rattle.std.proofs.lemmas.Map.Keys.{IsDistinct-push, IsDistinct-tail, IsDistinct-IsPermutation}
use Rattle.std.specs.Prelude.{Option, Some, None, remove, if◌then◌else◌}
use Rattle.std.specs.List.{IsDistinct, AllByRecursion, list_any}
use Rattle.vg_model.specs.declared.routes.RouteTo.{RouteTo}
use Rattle.vg_model.specs.declared.routes.RouteTo.TheVariants.{Local}
use Rattle.vg_model.specs.Edit.{most_routes, place_in}
use Rattle.vg_model.specs.Route.{PrefixKind, RoutesOf, is_same}
use Rattle.vg_fib.specs.Table.{HasOneEach, IsTable}
use Rattle.vg_fib.proofs.ListLemmas.{position_found, position_none}
use Rattle.vg_fib.proofs.PrefixLemmas.{ArePrefixes, same_equivalence}

module _ {P : Type 0} {kind : PrefixKind P} (are : ArePrefixes kind) where
  -- the place of a prefix: a route of this prefix stands there
  pub record StandsAt (prefix : P) (routes : RoutesOf P) (place : ℕ) (d : P × RouteTo) : Type 0 where
    pub within : place < length routes
    pub is : (get_or routes place d).0 ≡ prefix

  -- where a prefix was found, it stands
  pub stands_where_found : (prefix : P) (routes : RoutesOf P) (place : ℕ) (d : P × RouteTo)
      → place_in kind prefix routes ≡ Some place → StandsAt prefix routes place d
  stands_where_found prefix routes place d e =
      let found = position_found (λ route. is_same kind route.0 prefix) 0 routes place d e in
      let index : found.index ≡ place = omega arith in
      record {
        within = omega arith;
        is = subst (λ k. (get_or routes k d).0 ≡ prefix) index (are.one _ _ found.passes);
      }

  -- none of the prefixes is the same as one that passes no test of them
  none_is_same : (prefix : P) (routes : RoutesOf P) → AllByRecursion (λ route. is_same kind route.0 prefix ≡ false) routes
      → list_any (is_same kind prefix) (map (λ route. route.0) routes) ≡ false
  none_is_same prefix [] all = refl
  none_is_same prefix (route ∷ routes) all =
      let other : is_same kind prefix route.0 ≡ false = (same_equivalence are).symm prefix route.0 ∙ all.0 in
      rw (other, none_is_same prefix routes all.1) refl

  -- no route is a table
  pub empty_table : IsTable kind []
  unfolding IsDistinct
  empty_table = record { one_route_each = tt; few = omega arith }

  -- a route changed in its place leaves each prefix with one route
  pub one_each_set : (prefix : P) (to : RouteTo) (routes : RoutesOf P) (place : ℕ)
      → HasOneEach kind routes → place_in kind prefix routes ≡ Some place → HasOneEach kind (set routes place (prefix, to))
  one_each_set prefix to routes place distinct e =
      let stands = stands_where_found prefix routes place (prefix, to) e in
      subst (IsDistinct (is_same kind)) (sym (map-set_same (λ route. route.0) routes place (prefix, to) (prefix, to) (sym stands.is))) distinct

  -- a route changed in its place leaves a table
  pub table_set : (prefix : P) (to : RouteTo) (routes : RoutesOf P) (place : ℕ)
      → IsTable kind routes → place_in kind prefix routes ≡ Some place → IsTable kind (set routes place (prefix, to))
  table_set prefix to routes place table e = record {
    one_route_each = one_each_set prefix to routes place table.one_route_each e;
    few = omega (arith, length-set routes place (prefix, to), table.few);
  }

  -- a new route behind the others leaves each prefix with one route
  pub one_each_push : (prefix : P) (to : RouteTo) (routes : RoutesOf P)
      → HasOneEach kind routes → place_in kind prefix routes ≡ None → HasOneEach kind (routes ++ (prefix, to) ∷ [])
  one_each_push prefix to routes distinct e =
      let new = none_is_same prefix routes (position_none (λ route. is_same kind route.0 prefix) 0 routes e) in
      rw map-append (IsDistinct-push (same_equivalence are) (map (λ route. route.0) routes) prefix distinct new)

  -- a new route behind the others leaves a table, where there is room
  pub table_push : (prefix : P) (to : RouteTo) (routes : RoutesOf P)
      → IsTable kind routes → place_in kind prefix routes ≡ None → length routes < most_routes → IsTable kind (routes ++ (prefix, to) ∷ [])
  table_push prefix to routes table e room = record {
    one_route_each = one_each_push prefix to routes table.one_route_each e;
    few = omega (arith, length-append routes ((prefix, to) ∷ []));
  }

  -- routes of which one is taken out leave a table
  pub table_remove : (routes : RoutesOf P) (place : ℕ) (d : P × RouteTo)
      → IsTable kind routes → place < length routes → IsTable kind (remove routes place)
  table_remove routes place d table within =
      let route : P × RouteTo = get_or routes place d in
      let moved = IsPermutation-remove routes place route within (get_or_default routes place d route within) in
      let distinct = IsDistinct-IsPermutation (is_same kind) (same_equivalence are).symm _ _ (IsPermutation-map (λ route. route.0) _ _ moved) table.one_route_each in
      record {
        one_route_each = IsDistinct-tail (is_same kind) route.0 (map (λ route. route.0) (remove routes place)) distinct;
        few = let shorter : length (route ∷ remove routes place) ≡ length routes = length_permutation _ _ moved in omega (arith, shorter, table.few);
      }

  -- a place that was found is within the table
  pub place_within : (prefix : P) (routes : RoutesOf P) (place : ℕ) → place_in kind prefix routes ≡ Some place → place < length routes
  place_within prefix routes place e = (stands_where_found prefix routes place (prefix, Local) e).within

  -- whichever of two tables
  pub either_table : (b : Bool) (one other : RoutesOf P) → IsTable kind one → IsTable kind other → IsTable kind (if b then one else other)
  either_table true one other here there = here
  either_table false one other here there = there

  -- what was found in the routes that are seen was found in the routes that are kept
  pub found_in : (prefix : P) (kept seen : RoutesOf P) (found place : Option ℕ)
      → kept ≡ seen → found ≡ place_in kind prefix seen → found ≡ place → place_in kind prefix kept ≡ place
  found_in prefix kept seen found place same by is = ap (place_in kind prefix) same ∙ (sym by ∙ is)

  -- a place that was found in the routes that are seen is within the routes that are kept
  pub found_within : (prefix : P) (kept seen : RoutesOf P) (found : Option ℕ) (place : ℕ)
      → kept ≡ seen → found ≡ place_in kind prefix seen → found ≡ Some place → place < length kept
  found_within prefix kept seen found place same by is =
      place_within prefix kept place (found_in prefix kept seen found (Some place) same by is)
