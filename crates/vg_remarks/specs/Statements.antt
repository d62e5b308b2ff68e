-- What the statements of a script say of filters, and of routes to neighbors (this project's profile).
use Rattle.std.specs.Prelude.{ℕ, Bool, false, not, ◌&&◌, List, [], ◌∷◌, ◌++◌, flat_map, bytes_eq, codes, Option, Some, None, option_to_list, if◌then◌else◌}
use Rattle.vg_model.specs.declared.edits.Edit.{Edit}
use Rattle.vg_model.specs.declared.edits.Edit.TheVariants as edits
use Rattle.vg_model.specs.declared.edits.EditLine.{EditLine}
use Rattle.vg_model.specs.declared.routes.Prefix.{Prefix}
use Rattle.vg_model.specs.declared.routes.RouteWord.{RouteWord}
use Rattle.vg_model.specs.declared.routes.RouteWord.TheVariants as words
use Rattle.vg_script.specs.declared.scripts.Block.{Block}
use Rattle.vg_script.specs.declared.scripts.Block.TheVariants.{At, Process}
use Rattle.vg_script.specs.declared.scripts.Script.{Script}

-- the edits of a block, group by group
abbrev pub edits_in : Block → List EditLine
edits_in (At line time group) = group
edits_in (Process line name every count groups) = flat_map (λ (group : List EditLine). group) groups

-- the edits of a script: those outside blocks, and then those of its blocks in their order
abbrev pub statements : Script → List EditLine
statements script = script.start ++ flat_map edits_in script.blocks

-- the interface that all packets come in on
abbrev pub receiving : List ℕ
receiving = codes "pg0"

-- an edit gives an interface a filter that no packet comes to
abbrev pub filters_nothing : Edit → Bool
filters_nothing (edits.Interface name mac mtu up filters) = filters && not (bytes_eq name receiving)
filters_nothing edit = false

-- the line of an edit that does
abbrev pub idle_filter : EditLine → Option ℕ
idle_filter e = if filters_nothing e.edit then Some e.line else None

-- the lines of all of them
abbrev pub idle_filters : List EditLine → List ℕ
idle_filters lines = flat_map (λ e. option_to_list (idle_filter e)) lines

-- the prefix that a route leads to neighbors, where an edit makes one
abbrev pub to_neighbors : RouteWord → Prefix → List Prefix
to_neighbors (words.Via names) prefix = prefix ∷ []
to_neighbors words.Local prefix = []
to_neighbors words.Drop prefix = []

abbrev pub led_by : Edit → List Prefix
led_by (edits.Route prefix to) = to_neighbors to prefix
led_by edit = []

abbrev pub led_on : EditLine → List Prefix
led_on e = led_by e.edit

-- the prefixes that routes lead to neighbors
abbrev pub led : List EditLine → List Prefix
led lines = flat_map led_on lines
