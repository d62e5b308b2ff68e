-- The plain text of a script: just its statements, a line each (this project's profile).
use Rattle.std.specs.Prelude.{ℕ, ◌/◌, ◌%◌, ◌==◌, List, [], ◌∷◌, ◌++◌, map, flat_map, codes, decimal, unwrap_or, if◌then◌else◌}
use Rattle.std.specs.Char.{digit_char}
use Rattle.std.specs.Int.{w32, to_be_bytes}
use Rattle.std.specs.List.{join_with_byte}
use Rattle.vg_model.specs.declared.edits.Edit.{Edit}
use Rattle.vg_model.specs.declared.edits.Edit.TheVariants as edits
use Rattle.vg_model.specs.declared.edits.EditLine.{EditLine}
use Rattle.vg_model.specs.declared.kinds.Kind.{Kind}
use Rattle.vg_model.specs.declared.names.Mac.{Mac}
use Rattle.vg_model.specs.declared.routes.Prefix.{Prefix}
use Rattle.vg_model.specs.declared.routes.Prefix6.{Prefix6}
use Rattle.vg_model.specs.declared.routes.RouteWord.{RouteWord}
use Rattle.vg_model.specs.declared.routes.RouteWord.TheVariants as targets
use Rattle.vg_model.specs.Graph.{kind_entry}
use Rattle.vg_script.specs.Address6.{address_groups}
use Rattle.vg_script.specs.declared.scripts.Block.{Block}
use Rattle.vg_script.specs.declared.scripts.Block.TheVariants as blocks
use Rattle.vg_script.specs.declared.scripts.Script.{Script}
use Rattle.vg_script.specs.Statements.{Words}

-- words are parted by one space, and a line ends with a line feed
abbrev pub line_text : Words → List ℕ
line_text words = join_with_byte 32 words ++ 10 ∷ []

-- a byte as two hexadecimal digits in lower case
abbrev pub pair_text : ℕ → List ℕ
pair_text byte = digit_char (byte / 16) ∷ digit_char (byte % 16) ∷ []

-- a link-layer address: six pairs parted by `:`
abbrev pub mac_text : Mac → List ℕ
mac_text mac = join_with_byte 58 (map pair_text mac.0)

-- an address: four numbers parted by `.`
abbrev pub address_text : ℕ → List ℕ
address_text addr = join_with_byte 46 (map decimal (to_be_bytes w32 addr))

-- a prefix: an address, `/`, and the number of bits
abbrev pub prefix_text : Prefix → List ℕ
prefix_text prefix = address_text prefix.addr ++ 47 ∷ decimal prefix.len

-- digits without zeros in front; the last digit stays
abbrev pub without_zeros : List ℕ → List ℕ
without_zeros [] = []
without_zeros (digit ∷ []) = digit ∷ []
without_zeros (digit ∷ next ∷ digits) = if digit == 48 then without_zeros (next ∷ digits) else digit ∷ next ∷ digits

-- a group: four hexadecimal digits in lower case, without zeros in front
abbrev pub group_text : ℕ → List ℕ
group_text group = without_zeros (pair_text (group / 256) ++ pair_text (group % 256))

-- an IPv6 address: eight groups parted by `:`
abbrev pub address6_text : ℕ → List ℕ
address6_text addr = join_with_byte 58 (map group_text (address_groups addr))

-- an IPv6 prefix: an address, `/`, and the number of bits
abbrev pub prefix6_text : Prefix6 → List ℕ
prefix6_text prefix = address6_text prefix.addr ++ 47 ∷ decimal prefix.len

-- names parted by `,`
abbrev pub names_text : List (List ℕ) → List ℕ
names_text names = join_with_byte 44 names

-- the word for a kind of which scripts make nodes
abbrev pub kind_text : Kind → List ℕ
kind_text kind = unwrap_or (kind_entry kind).word []

-- where a route leads
abbrev pub target_words : RouteWord → Words
target_words (targets.Via names) = codes "via" ∷ names_text names ∷ []
target_words targets.Local = codes "local" ∷ []
target_words targets.Drop = codes "drop" ∷ []

-- the statement of an edit
abbrev pub edit_words : Edit → Words
edit_words (edits.Interface name mac mtu up filter) =
    codes "interface" ∷ name ∷ codes "mac" ∷ mac_text mac ∷ codes "mtu" ∷ decimal mtu
    ∷ (if up then codes "up" else codes "down") ∷ (if filter then codes "filter" ∷ [] else [])
edit_words (edits.Node name kind) = codes "node" ∷ name ∷ codes "kind" ∷ kind_text kind ∷ []
edit_words (edits.Arc from slot to) = codes "arc" ∷ from ∷ slot ∷ to ∷ []
edit_words (edits.Adjacency name interface mac) =
    codes "adjacency" ∷ name ∷ codes "interface" ∷ interface ∷ codes "dst" ∷ mac_text mac ∷ []
edit_words (edits.Route prefix to) = codes "route" ∷ prefix_text prefix ∷ target_words to
edit_words (edits.Unroute prefix) = codes "unroute" ∷ prefix_text prefix ∷ []
edit_words (edits.Route6 prefix to) = codes "route6" ∷ prefix6_text prefix ∷ target_words to
edit_words (edits.Unroute6 prefix) = codes "unroute6" ∷ prefix6_text prefix ∷ []

-- a line for each edit
abbrev pub edit_lines : List EditLine → List Words
edit_lines lines = map (λ l. edit_words l.edit) lines

-- the first group, and each further one behind a `then`
abbrev pub group_lines : List (List EditLine) → List Words
group_lines [] = []
group_lines (group ∷ groups) = edit_lines group ++ flat_map (λ further. (codes "then" ∷ []) ∷ edit_lines further) groups

-- a block, from its first line to its `end`
abbrev pub block_lines : Block → List Words
block_lines (blocks.At line time group) = (codes "at" ∷ decimal time ∷ []) ∷ edit_lines group ++ (codes "end" ∷ []) ∷ []
block_lines (blocks.Process line name every count groups) =
    (codes "process" ∷ name ∷ codes "every" ∷ decimal every ∷ codes "count" ∷ decimal count ∷ [])
    ∷ group_lines groups ++ (codes "end" ∷ []) ∷ []

-- the lines of a script: the edits outside blocks, and then the blocks
abbrev pub script_lines : Script → List Words
script_lines script = edit_lines script.start ++ flat_map block_lines script.blocks

-- the text of a script
abbrev pub plain : Script → List ℕ
plain script = flat_map line_text (script_lines script)
