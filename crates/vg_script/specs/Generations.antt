-- The generations of a script's graph (this project's profile).
use Rattle.std.specs.Prelude.{map}
use Rattle.vg_model.specs.Generations.{Graphs, generations}
use Rattle.vg_script.specs.declared.scripts.Script.{Script}
use Rattle.vg_script.specs.Events.{events}

-- generation 0 is the start graph with the edits outside blocks; each later one is the one before it with the edits of an event
abbrev pub generations_of : Script → Graphs
generations_of script = generations script.start (map (λ e. e.edits) (events script))
