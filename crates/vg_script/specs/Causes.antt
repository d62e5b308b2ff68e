-- Why a script is refused, and the words for it (this project's profile).
use Rattle.std.specs.Prelude.{ℕ, List, codes}
use Rattle.vg_model.specs.Edit.{Cause}
use Rattle.vg_model.specs.Edit as edits
use Rattle.vg_script.specs.declared.errors.ScriptCause.{ScriptCause}
use Rattle.vg_script.specs.declared.errors.ScriptCause.TheVariants as causes

-- the word for a cause, as it is printed; that for want of memory is never printed
abbrev pub cause_word : ScriptCause → List ℕ
cause_word causes.TooLarge = codes "too-large"
cause_word causes.Bytes = codes "bytes"
cause_word causes.Word = codes "word"
cause_word causes.Name = codes "name"
cause_word causes.Number = codes "number"
cause_word causes.Mac = codes "mac"
cause_word causes.Prefix = codes "prefix"
cause_word causes.Kind = codes "kind"
cause_word causes.Block = codes "block"
cause_word causes.TooManyGenerations = codes "too-many-generations"
cause_word causes.DoubleName = codes "double-name"
cause_word causes.UnknownNode = codes "unknown-node"
cause_word causes.UnknownSlot = codes "unknown-slot"
cause_word causes.BadTarget = codes "bad-target"
cause_word causes.Cycle = codes "cycle"
cause_word causes.TooMany = codes "too-many"
cause_word causes.UnknownInterface = codes "unknown-interface"
cause_word causes.UnknownAdjacency = codes "unknown-adjacency"
cause_word causes.NoRoute = codes "no-route"
cause_word causes.Memory = codes "memory"

-- why a script is refused where one of its edits is
abbrev pub cause_of : Cause → ScriptCause
cause_of edits.DoubleName = causes.DoubleName
cause_of edits.UnknownNode = causes.UnknownNode
cause_of edits.UnknownSlot = causes.UnknownSlot
cause_of edits.BadTarget = causes.BadTarget
cause_of edits.Cycle = causes.Cycle
cause_of edits.TooMany = causes.TooMany
cause_of edits.UnknownInterface = causes.UnknownInterface
cause_of edits.UnknownAdjacency = causes.UnknownAdjacency
cause_of edits.NoRoute = causes.NoRoute
