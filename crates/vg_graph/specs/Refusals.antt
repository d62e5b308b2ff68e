-- Refused edits.
use Rattle.std.specs.Prelude.{◌≡◌, Option, Some, None, Result, Ok, Err, IsOk, MatchOption, MatchResult}
use Rattle.vg_model.specs.declared.edits.Edit.{Edit}
use Rattle.vg_model.specs.declared.edits.Edit.TheVariants as edits
use Rattle.vg_model.specs.declared.kinds.Adjacency.{Adjacency}
use Rattle.vg_model.specs.Graph.{Graph}
use Rattle.vg_model.specs.Edit.{Cause, Edited, ◌>>=◌, placed, most_adjacencies, adjacency_named}
use Rattle.vg_model.specs.Edit as causes
use Rattle.vg_graph.specs.declared.errors.GraphError.{GraphError}
use Rattle.vg_graph.specs.declared.errors.GraphError.TheVariants as errors

-- the edits that a graph takes: all but those of routes
abbrev pub IsGraphEdit : Edit → Type 0
IsGraphEdit (edits.Route prefix to) = ⊥
IsGraphEdit (edits.Unroute prefix) = ⊥
IsGraphEdit (edits.Route6 prefix to) = ⊥
IsGraphEdit (edits.Unroute6 prefix) = ⊥
IsGraphEdit edit = Unit {0}

-- the cause that each error stands for; want of memory has none
abbrev pub cause_of : GraphError → Option Cause
cause_of errors.DoubleName = Some causes.DoubleName
cause_of errors.UnknownNode = Some causes.UnknownNode
cause_of errors.UnknownSlot = Some causes.UnknownSlot
cause_of errors.BadTarget = Some causes.BadTarget
cause_of errors.Cycle = Some causes.Cycle
cause_of errors.TooMany = Some causes.TooMany
cause_of errors.UnknownInterface = Some causes.UnknownInterface
cause_of errors.Memory = None

-- the error of a refused edit is the cause of the first check that fails; for want of memory none fails
abbrev pub IsRefusedBy : {X : Type 0} → Result X Cause → GraphError → Type 0
IsRefusedBy edited error = MatchOption (cause_of error) (IsOk edited) (λ cause. edited ≡ Err cause)

-- an answer to an edit: this is what comes of it, or it is refused for its cause
abbrev pub Answers : {X : Type 0} → Result X Cause → X → Result (Unit {0}) GraphError → Type 0
Answers edited after result = MatchResult result (λ _. edited ≡ Ok after) (IsRefusedBy edited)

-- an adjacency whose interface is known, new or changed
abbrev pub placed_adjacency : Graph → Adjacency → Edited
placed_adjacency g adjacency = do
  list ← placed most_adjacencies (adjacency_named g adjacency.name) adjacency g.adjacencies
  Ok (record g { adjacencies = list })
