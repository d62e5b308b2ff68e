-- Lawful scripts (this project's profile).
use Rattle.std.specs.Prelude.{ℕ, ◌^◌, ◌<◌, ◌≤◌, List, length, map, All, sum_by, IsSome}
use Rattle.std.specs.List.{AllByRecursion}
use Rattle.std.specs.List.Sorted.{IsStrictlyIncreasing}
use Rattle.vg_model.specs.declared.edits.Edit.{Edit}
use Rattle.vg_model.specs.declared.edits.Edit.TheVariants as edits
use Rattle.vg_model.specs.declared.edits.EditLine.{EditLine}
use Rattle.vg_model.specs.declared.routes.RouteWord.{RouteWord}
use Rattle.vg_model.specs.declared.routes.RouteWord.TheVariants as targets
use Rattle.vg_model.specs.Graph.{kind_entry}
use Rattle.vg_model.specs.Members.{AreMembers}
use Rattle.vg_model.specs.Name.{IsName}
use Rattle.vg_model.specs.Valid.{IsMac}
use Rattle.vg_script.specs.declared.scripts.Block.{Block}
use Rattle.vg_script.specs.declared.scripts.Block.TheVariants as blocks
use Rattle.vg_script.specs.declared.scripts.Script.{Script}
use Rattle.vg_script.specs.Reading.{most_events}

-- an edit that a script can say: a kind has a word, and a number is in its range
abbrev pub IsLawfulEdit : Edit → Type 0
IsLawfulEdit (edits.Interface name mac mtu up filter) = (68 ≤ mtu) × (mtu ≤ 65535)
IsLawfulEdit (edits.Node name kind) = IsSome (kind_entry kind).word
IsLawfulEdit (edits.Arc from slot to) = Unit {0}
IsLawfulEdit (edits.Adjacency name interface mac) = Unit {0}
IsLawfulEdit (edits.Route prefix to) = Unit {0}
IsLawfulEdit (edits.Unroute prefix) = Unit {0}
IsLawfulEdit (edits.Route6 prefix to) = Unit {0}
IsLawfulEdit (edits.Unroute6 prefix) = Unit {0}

abbrev pub AreLawfulEdits : List EditLine → Type 0
AreLawfulEdits lines = All (λ l. IsLawfulEdit l.edit) lines

-- a block that a script can say: its numbers are in their ranges, and a process has a group
abbrev pub IsLawfulBlock : Block → Type 0
IsLawfulBlock (blocks.At line time group) = (time ≤ 1000000000000) × AreLawfulEdits group
IsLawfulBlock (blocks.Process line name every count groups) =
    (1 ≤ every) × (every ≤ 1000000000000) × (1 ≤ count) × (count ≤ 999) × (1 ≤ length groups) × All AreLawfulEdits groups

-- the line on which a block begins
abbrev pub block_line : Block → ℕ
block_line (blocks.At line time group) = line
block_line (blocks.Process line name every count groups) = line

-- how often the groups of a block are run
abbrev pub block_events : Block → ℕ
block_events (blocks.At line time group) = 1
block_events (blocks.Process line name every count groups) = count

-- a lawful script
pub record IsLawful (script : Script) : Type 0 where
  pub start : AreLawfulEdits script.start
  pub blocks : All IsLawfulBlock script.blocks
  -- the lines of its blocks rise
  pub rising : IsStrictlyIncreasing (map block_line script.blocks)
  -- its events are not too many
  pub events : sum_by block_events script.blocks ≤ most_events

-- what the types keep of an edit: names are names, those of a route are 1 to 16, and addresses have six bytes
abbrev pub IsTarget : RouteWord → Type 0
IsTarget (targets.Via names) = AreMembers names × AllByRecursion IsName names
IsTarget targets.Local = Unit {0}
IsTarget targets.Drop = Unit {0}

abbrev pub IsEdit : Edit → Type 0
IsEdit (edits.Interface name mac mtu up filter) = IsName name × IsMac mac
IsEdit (edits.Node name kind) = IsName name
IsEdit (edits.Arc from slot to) = IsName from × IsName slot × IsName to
IsEdit (edits.Adjacency name interface mac) = IsName name × IsName interface × IsMac mac
IsEdit (edits.Route prefix to) = (prefix.addr < 2 ^ 32) × IsTarget to
IsEdit (edits.Unroute prefix) = prefix.addr < 2 ^ 32
IsEdit (edits.Route6 prefix to) = (prefix.addr < 2 ^ 128) × IsTarget to
IsEdit (edits.Unroute6 prefix) = prefix.addr < 2 ^ 128

abbrev pub AreEdits : List EditLine → Type 0
AreEdits lines = All (λ l. IsEdit l.edit) lines

abbrev pub IsBlock : Block → Type 0
IsBlock (blocks.At line time group) = AreEdits group
IsBlock (blocks.Process line name every count groups) = IsName name × All AreEdits groups

-- what the types keep of a script
pub record IsScript (script : Script) : Type 0 where
  pub start : AreEdits script.start
  pub blocks : All IsBlock script.blocks
