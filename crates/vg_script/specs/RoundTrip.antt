-- Reading a script that was printed.
use Rattle.std.specs.Prelude.{◌≡◌, ℕ, suc, ◌+◌, ◌≤◌, List, [], ◌∷◌, length, map, Ok}
use Rattle.vg_model.specs.declared.edits.EditLine.{EditLine}
use Rattle.vg_script.specs.declared.scripts.Block.{Block}
use Rattle.vg_script.specs.declared.scripts.Block.TheVariants as blocks
use Rattle.vg_script.specs.declared.scripts.Script.{Script}
use Rattle.vg_script.specs.Lawful.{IsScript, IsLawful}
use Rattle.vg_script.specs.Plain.{plain, block_lines}
use Rattle.vg_script.specs.Reading.{script_of, largest_script}

-- edits on the lines from a number on
abbrev pub edits_from : ℕ → List EditLine → List EditLine
edits_from line [] = []
edits_from line (l ∷ ls) = record l { line = line } ∷ edits_from (suc line) ls

-- groups on the lines from a number on, each behind a line of its own
abbrev pub groups_from : ℕ → List (List EditLine) → List (List EditLine)
groups_from line [] = []
groups_from line (group ∷ groups) = edits_from (suc line) group ∷ groups_from (suc line + length group) groups

-- a block that begins on a line
abbrev pub block_from : ℕ → Block → Block
block_from line (blocks.At old time group) = blocks.At line time (edits_from (suc line) group)
block_from line (blocks.Process old name every count groups) = blocks.Process line name every count (groups_from line groups)

-- blocks on the lines from a number on
abbrev pub blocks_from : ℕ → List Block → List Block
blocks_from line [] = []
blocks_from line (block ∷ others) = block_from line block ∷ blocks_from (line + length (block_lines block)) others

-- the same script with the lines of its plain text, 1, 2 and so on
abbrev pub renumbered : Script → Script
renumbered script = record { start = edits_from 1 script.start; blocks = blocks_from (suc (length script.start)) script.blocks }

-- a script without line numbers: each is 0
abbrev pub edit_without_line : EditLine → EditLine
edit_without_line l = record l { line = 0 }

abbrev pub edits_without_lines : List EditLine → List EditLine
edits_without_lines lines = map edit_without_line lines

abbrev pub block_without_lines : Block → Block
block_without_lines (blocks.At line time group) = blocks.At 0 time (edits_without_lines group)
block_without_lines (blocks.Process line name every count groups) =
    blocks.Process 0 name every count (map edits_without_lines groups)

abbrev pub without_lines : Script → Script
without_lines script = record {
  start = edits_without_lines script.start;
  blocks = map block_without_lines script.blocks;
}

-- the two scripts say the same, on whatever lines
abbrev pub IsSameButLines : Script → Script → Type 0
IsSameButLines this other = without_lines this ≡ without_lines other

-- a lawful script that was printed is read as the same script with the lines of its text, where that isn't too large
abbrev pub ReadsBack : Type 0
ReadsBack = (script : Script) → IsScript script → IsLawful script → length (plain script) ≤ largest_script
    → (script_of (plain script) ≡ Ok (renumbered script)) × IsSameButLines (renumbered script) script

-- what is read of a text is a lawful script
abbrev pub ReadsLawful : Type 0
ReadsLawful = (text : List ℕ) (script : Script) → script_of text ≡ Ok script → IsScript script × IsLawful script
