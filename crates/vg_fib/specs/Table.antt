-- Tables of routes (this project's profile).
use Rattle.std.specs.Prelude.{ℕ, ◌≤◌, length, map, Option, Some, None, nat_lt, if◌then◌else◌}
use Rattle.std.specs.List.{IsDistinct}
use Rattle.vg_model.specs.declared.routes.Prefix.{Prefix}
use Rattle.vg_model.specs.declared.routes.Prefix6.{Prefix6}
use Rattle.vg_model.specs.Route.{PrefixKind, RoutesOf, ip4, is_same}
use Rattle.vg_model.specs.Edit.{most_routes}

-- IPv4 routes
abbrev pub Routes : Type 0
Routes = RoutesOf Prefix

-- IPv6 routes
abbrev pub Routes6 : Type 0
Routes6 = RoutesOf Prefix6

-- no prefix stands twice
abbrev pub HasOneEach : {P : Type 0} → PrefixKind P → RoutesOf P → Type 0
HasOneEach kind routes = IsDistinct (is_same kind) (map (λ route. route.0) routes)

abbrev pub HasOneRouteEach : Routes → Type 0
HasOneRouteEach routes = HasOneEach ip4 routes

-- a table of routes: no prefix stands twice, and there are no more than may be
pub record IsTable {P : Type 0} (kind : PrefixKind P) (routes : RoutesOf P) : Type 0 where
  pub one_route_each : HasOneEach kind routes
  pub few : length routes ≤ most_routes

-- the longer of the longest route so far, if there is one, and a route behind it
abbrev pub longer_behind : {P T : Type 0} → (P → ℕ) → Option (P × T) → P × T → P × T
longer_behind len None route = route
longer_behind len (Some other) route = if nat_lt (len other.0) (len route.0) then route else other
