-- Which packets pass a filter.
use Rattle.std.specs.Prelude.{ℕ, Bool, true, false, ◌&&◌, ◌==◌, List, bytes_eq, slice_get, Option, Some, None, option_map}
use Rattle.std.specs.List.{list_any}
use Rattle.vg_model.specs.declared.fates.End.{End}
use Rattle.vg_model.specs.declared.fates.End.TheVariants as ends
use Rattle.vg_model.specs.declared.kinds.DropError.{DropError}
use Rattle.vg_model.specs.Errors.{error_number}
use Rattle.vg_model.specs.Graph.{Graph}
use Rattle.vg_model.specs.Route.{same_prefix, same_prefix6}
use Rattle.vg_story.specs.declared.pieces.Piece.{Piece}
use Rattle.vg_story.specs.declared.pieces.Piece.TheVariants as pieces
use Rattle.vg_story.specs.declared.pieces.Value.{Value}
use Rattle.vg_story.specs.declared.pieces.Value.TheVariants as values
use Rattle.vg_story.specs.declared.pieces.Word.{Word}
use Rattle.vg_story.specs.declared.pieces.Word.TheVariants as words
use Rattle.vg_why.specs.declared.routes.Route.{Route}
use Rattle.vg_why.specs.declared.routes.Route.TheVariants as routes
use Rattle.vg_why.specs.Asked.{Filter, Asked, Packets, All, Counts}

-- the packet was dropped with this error
abbrev pub ends_with : DropError → End → Bool
ends_with error (ends.Dropped node other) = error_number other == error_number error
ends_with error (ends.Tx interface) = false

-- a name is that of what is there
abbrev pub is_name : List ℕ → Option (List ℕ) → Bool
is_name name None = false
is_name name (Some other) = bytes_eq other name

-- the piece is a visit of the node of this name
abbrev pub is_visit : Graph → List ℕ → Piece → Bool
is_visit g name (pieces.Visit node) = is_name name (option_map (λ node. node.name) (slice_get g.nodes node))
is_visit g name piece = false

-- the fact names the neighbor of this name
abbrev pub names_neighbor : Graph → List ℕ → Word → Value → Bool
names_neighbor g name words.Via (values.Neighbor neighbor) = is_name name (option_map (λ adjacency. adjacency.name) (slice_get g.adjacencies neighbor))
names_neighbor g name word value = false

abbrev pub is_via : Graph → List ℕ → Piece → Bool
is_via g name (pieces.Because fact) = names_neighbor g name fact.word fact.value
is_via g name piece = false

-- the value is the prefix of a route
abbrev pub is_prefix : Route → Value → Bool
is_prefix (routes.Ip4 prefix) (values.Prefix other) = same_prefix other prefix
is_prefix (routes.Ip6 prefix) (values.Prefix6 other) = same_prefix6 other prefix
is_prefix route value = false

-- the fact names the route
abbrev pub names_route : Route → Word → Value → Bool
names_route route words.Route value = is_prefix route value
names_route route word value = false

abbrev pub is_route : Route → Piece → Bool
is_route route (pieces.Because fact) = names_route route fact.word fact.value
is_route route piece = false

-- a condition that is there holds
abbrev pub where_given : {X : Type 0} → (X → Bool) → Option X → Bool
where_given p None = true
where_given p (Some x) = p x

-- a packet that ended so, whose way these pieces show, meets each condition of a filter
abbrev pub passes : Graph → Filter → End → List Piece → Bool
passes g f end told =
    where_given (λ error. ends_with error end) f.drop
    && (where_given (λ name. list_any (is_visit g name) told) f.node
    && (where_given (λ name. list_any (is_via g name) told) f.via && where_given (λ route. list_any (is_route route) told) f.route))

-- the same of what is asked for: packets of numbers need meet nothing
abbrev pub meets : Graph → Asked → End → List Piece → Bool
meets g (Packets numbers) end told = true
meets g (All f) end told = passes g f end told
meets g Counts end told = false
