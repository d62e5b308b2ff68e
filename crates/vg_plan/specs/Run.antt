-- Events as the code has them, with their edits behind references.
use Rattle.std.specs.Prelude.{List, map}
use Rattle.vg_model.specs.declared.edits.EditLine.{EditLine}
use Rattle.vg_script.specs.Events.{Event}
use Rattle.vg_plan.specs.declared.events.Run.{Run}

-- the event
abbrev pub seen : Run → Event
seen run = record { time = run.time; line = run.line; occurrence = run.occurrence; edits = run.edits.now }

-- the groups of edits of these runs
abbrev pub groups_of : List Run → List (List EditLine)
groups_of runs = map (λ (e : Event). e.edits) (map seen runs)
