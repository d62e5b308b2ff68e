-- What the code has read of a script, as the definitions see it.
use Rattle.std.specs.Prelude.{◌≡◌, [], ◌∷◌, ◌++◌, Option, Some, None, Result, Ok, Err, MatchResult}
use Rattle.vg_script.specs.declared.errors.ScriptCause.{ScriptCause}
use Rattle.vg_script.specs.declared.errors.ScriptCause.TheVariants as causes
use Rattle.vg_script.specs.declared.reader.OpenBlock.{OpenBlock}
use Rattle.vg_script.specs.declared.reader.OpenBlock.TheVariants.{At, Process}
use Rattle.vg_script.specs.declared.reader.Reader.TheInside.{Inside}
use Rattle.vg_script.specs.declared.scripts.Block.{Block}
use Rattle.vg_script.specs.declared.scripts.Block.TheVariants as blocks
use Rattle.vg_script.specs.Reading.{Reading, Begun, Nothing, AtBlock, ProcessBlock}

-- the block that is begun
abbrev pub begun_of : Option OpenBlock → Begun
begun_of None = Nothing
begun_of (Some (At line time edits)) = AtBlock line time edits.items
begun_of (Some (Process line name every count groups group)) = ProcessBlock line name every count groups.items group.items

-- the block that is begun, once it is closed
abbrev pub closed_block : OpenBlock → Block
closed_block (At line time edits) = blocks.At line time edits.items
closed_block (Process line name every count groups group) = blocks.Process line name every count (groups.items ++ group.items ∷ [])

-- what was read
abbrev pub reading_of : Inside → Reading
reading_of r = record { start = r.start.items; blocks = r.blocks.items; begun = begun_of r.open; events = r.events }

-- this cause, which may be want of memory in place of any answer
abbrev pub Refuses : {X : Type 0} → Result X ScriptCause → ScriptCause → Type 0
Refuses this causes.Memory = Unit {0}
Refuses this cause = this ≡ Err cause

-- what is read then, or the cause of a refusal
abbrev pub Reads : Result Reading ScriptCause → Reading → Result (Unit {0}) ScriptCause → Type 0
Reads this new answer = MatchResult answer (λ done. this ≡ Ok new) (Refuses this)
