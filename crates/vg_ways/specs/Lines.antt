-- The lines of a script that set routes.
use Rattle.std.specs.Prelude.{ℕ, Bool, false, List, [], ◌∷◌, ◌++◌, map, flat_map, take, if◌then◌else◌}
use Rattle.vg_model.specs.declared.edits.Edit.{Edit}
use Rattle.vg_model.specs.declared.edits.Edit.TheVariants as edits
use Rattle.vg_model.specs.declared.edits.EditLine.{EditLine}
use Rattle.vg_model.specs.declared.routes.Prefix.{Prefix}
use Rattle.vg_model.specs.declared.routes.Prefix6.{Prefix6}
use Rattle.vg_model.specs.declared.routes.RouteTo.{RouteTo}
use Rattle.vg_model.specs.Route.{same_prefix, same_prefix6}
use Rattle.vg_script.specs.declared.scripts.Script.{Script}
use Rattle.vg_script.specs.Events.{events}

-- the edit sets the route of this prefix
abbrev pub sets_route : Prefix → Edit → Bool
sets_route prefix (edits.Route set to) = same_prefix set prefix
sets_route prefix edit = false

abbrev pub sets_route6 : Prefix6 → Edit → Bool
sets_route6 prefix (edits.Route6 set to) = same_prefix6 set prefix
sets_route6 prefix edit = false

-- the line of the last of these edits that sets a route, or else the line from before
abbrev pub line_after : (Edit → Bool) → ℕ → List EditLine → ℕ
line_after sets line [] = line
line_after sets line (edit ∷ edits) = line_after sets (if sets edit.edit then edit.line else line) edits

-- the edits that make a generation, in their order: those outside blocks, and those of the events up to it
abbrev pub edits_to : Script → (generation : ℕ) → List EditLine
edits_to script generation = script.start ++ flat_map (λ event. event.edits) (take generation (events script))

-- the line that set the route of a prefix last, of those that make a generation; 0 where none did
abbrev pub route_line : Script → (generation : ℕ) → Prefix → ℕ
route_line script generation prefix = line_after (sets_route prefix) 0 (edits_to script generation)

abbrev pub route6_line : Script → (generation : ℕ) → Prefix6 → ℕ
route6_line script generation prefix = line_after (sets_route6 prefix) 0 (edits_to script generation)

-- the prefixes of these routes, each with its line
abbrev pub lined : {P : Type 0} → (P → ℕ) → List (P × RouteTo) → List (P × ℕ)
lined line routes = map (λ route. (route.0, line route.0)) routes
