-- What the scripts of a load say, and how many generations they make, computed from the definitions.
use Rattle.std.proofs.Common.{◌≡◌, ℕ, ◌+◌, List, [], ◌∷◌, length, refl}
use Rattle.std.specs.Prelude.{codes, Option, Some, None, Ok, Err}
use Rattle.std.proofs.lemmas.Option.{none-some, same_Some}
use Rattle.vg_model.specs.declared.edits.Edit.TheVariants as edits
use Rattle.vg_model.specs.declared.edits.EditLine.{EditLine}
use Rattle.vg_model.specs.declared.kinds.HashKind.TheVariants.{Flow}
use Rattle.vg_model.specs.declared.kinds.Kind.TheVariants as kinds
use Rattle.vg_model.specs.declared.names.Mac.{Mac}
use Rattle.vg_model.specs.declared.routes.RouteWord.TheVariants as targets
use Rattle.vg_model.specs.Graph.{Graph}
use Rattle.vg_model.specs.Generations.{Graphs}
use Rattle.vg_script.specs.declared.scripts.Block.{Block}
use Rattle.vg_script.specs.declared.scripts.Block.TheVariants as blocks
use Rattle.vg_script.specs.declared.scripts.Script.{Script}
use Rattle.vg_script.specs.Classes.{prefix}
use Rattle.vg_script.specs.Generations.{generations_of}
use Rattle.vg_script.specs.Reading.{script_of}
use Rattle.vg_script.specs.Statements.{row_of}
use Rattle.vg_load.specs.declared.TheConstants.{PLAIN, HANDOFF}
use Rattle.vg_load.specs.Scripts.{MakesGenerations}

-- how many generations were made; None where an edit was refused
abbrev count_of : Graphs → Option ℕ
count_of (Ok graphs) = Some (length graphs)
count_of (Err refusal) = None

-- so many were made
made_count : (graphs : Graphs) (count : ℕ) → count_of graphs ≡ Some count → (gs : List Graph) × (graphs ≡ Ok gs) × (length gs ≡ count)
made_count (Ok gs) count e = (gs, refl, same_Some _ _ e)
made_count (Err refusal) count e = absurd (none-some count e)

-- a link-layer address by its last byte
abbrev mac : ℕ → Mac
mac last = record { 0 = 2 ∷ 0 ∷ 0 ∷ 0 ∷ 0 ∷ last ∷ [] }

-- two neighbors, a route over the first, and a process that leads half of it over the second and back, from a line on
abbrev neighbors_from : (line : ℕ) → List EditLine
neighbors_from line =
    record { line = line; edit = edits.Adjacency (codes "a") (codes "pg0") (mac 10) }
    ∷ record { line = line + 1; edit = edits.Adjacency (codes "b") (codes "pg0") (mac 11) }
    ∷ record { line = line + 2; edit = edits.Route (prefix 0x0a000000 8 tt tt) (targets.Via (codes "a" ∷ [])) }
    ∷ []

-- the upper half of the addresses, over this neighbor
abbrev half_over : (line : ℕ) → List ℕ → List EditLine
half_over line neighbor = record { line = line; edit = edits.Route (prefix 0x0a800000 9 tt tt) (targets.Via (neighbor ∷ [])) } ∷ []

-- four changes of it, the block of which begins on this line
abbrev ticks_from : (line : ℕ) → Block
ticks_from line = blocks.Process line (codes "tick") 1000 4 (half_over (line + 1) (codes "b") ∷ half_over (line + 3) (codes "a") ∷ [])

abbrev plain_script : Script
plain_script = record { start = neighbors_from 1; blocks = ticks_from 4 ∷ [] }

abbrev handoff_script : Script
handoff_script = record {
  start =
      record { line = 1; edit = edits.Node (codes "hand") (kinds.WorkerHandoff Flow) }
      ∷ record { line = 2; edit = edits.Arc (codes "hand") (codes "resume") (codes "ethernet-input") }
      ∷ record { line = 3; edit = edits.Arc (codes "pg-input") (codes "out") (codes "hand") }
      ∷ neighbors_from 4;
  blocks = ticks_from 7 ∷ [];
}

plain_is_read : script_of PLAIN.now ≡ Ok plain_script
unfolding row_of
plain_is_read = refl

handoff_is_read : script_of HANDOFF.now ≡ Ok handoff_script
unfolding row_of
handoff_is_read = refl

plain_makes_five : count_of (generations_of plain_script) ≡ Some 5
plain_makes_five = refl

handoff_makes_five : count_of (generations_of handoff_script) ≡ Some 5
handoff_makes_five = refl

-- a script that was read and makes so many
makes : (text : List ℕ) (script : Script) (count : ℕ) → script_of text ≡ Ok script → count_of (generations_of script) ≡ Some count → MakesGenerations text count
makes text script count is e =
    let made = made_count (generations_of script) count e in
    record { script = script; is_script = is; graphs = made.0; are_graphs = made.1; are_so_many = made.2 }

pub plain_is_accepted : MakesGenerations PLAIN.now 5
plain_is_accepted = makes PLAIN.now plain_script 5 plain_is_read plain_makes_five

pub handoff_is_accepted : MakesGenerations HANDOFF.now 5
handoff_is_accepted = makes HANDOFF.now handoff_script 5 handoff_is_read handoff_makes_five
