-- The text of what is shown of packets.
use Rattle.std.specs.Prelude.{ℕ, ◌/◌, ◌%◌, List, [], ◌∷◌, ◌++◌, map, flat_map, drop, slice_get, codes, decimal, option_map, unwrap_or}
use Rattle.std.specs.Int.{w64, to_be_bytes}
use Rattle.std.specs.List.{join_with_byte}
use Rattle.vg_model.specs.Errors.{error_word}
use Rattle.vg_model.specs.Graph.{Graph, kind_entry}
use Rattle.vg_script.specs.Plain.{pair_text, address_text, prefix_text, address6_text, prefix6_text}
use Rattle.vg_story.specs.declared.pieces.Fact.{Fact}
use Rattle.vg_story.specs.declared.pieces.Field.{Field}
use Rattle.vg_story.specs.declared.pieces.Field.TheVariants as fields
use Rattle.vg_story.specs.declared.pieces.Piece.{Piece}
use Rattle.vg_story.specs.declared.pieces.Piece.TheVariants as pieces
use Rattle.vg_story.specs.declared.pieces.Value.{Value}
use Rattle.vg_story.specs.declared.pieces.Value.TheVariants as values
use Rattle.vg_story.specs.declared.pieces.Word.{Word}
use Rattle.vg_story.specs.declared.pieces.Word.TheVariants as words

-- a number as four hexadecimal digits
abbrev pub hex_text : ℕ → List ℕ
hex_text number = codes "0x" ++ (pair_text (number / 256) ++ pair_text (number % 256))

-- a number of 48 bits as a link-layer address: six pairs parted by `:`
abbrev pub link_text : ℕ → List ℕ
link_text number = join_with_byte 58 (map pair_text (drop 2 (to_be_bytes w64 number)))

-- the name of a neighbor, of an interface, and of a node; nothing where the graph doesn't have it
abbrev pub neighbor_name : Graph → ℕ → List ℕ
neighbor_name g n = unwrap_or (option_map (λ a. a.name) (slice_get g.adjacencies n)) []

abbrev pub interface_name : Graph → ℕ → List ℕ
interface_name g n = unwrap_or (option_map (λ i. i.name) (slice_get g.interfaces n)) []

abbrev pub node_name : Graph → ℕ → List ℕ
node_name g n = unwrap_or (option_map (λ node. node.name) (slice_get g.nodes n)) []

-- the name of a node's kind
abbrev pub kind_name : Graph → ℕ → List ℕ
kind_name g n = unwrap_or (option_map (λ node. (kind_entry node.kind).name) (slice_get g.nodes n)) []

-- a value
abbrev pub value_text : Graph → Value → List ℕ
value_text g (values.Number number) = decimal number
value_text g (values.Hex number) = hex_text number
value_text g (values.Address address) = address_text address
value_text g (values.Address6 address) = address6_text address
value_text g (values.Prefix prefix) = prefix_text prefix
value_text g (values.Prefix6 prefix) = prefix6_text prefix
value_text g (values.Link number) = link_text number
value_text g (values.Neighbor number) = neighbor_name g number
value_text g (values.Interface number) = interface_name g number
value_text g (values.Error error) = error_word error

-- the word of a fact
abbrev pub word_text : Word → List ℕ
word_text words.Type = codes "type"
word_text words.Frame = codes "frame-to"
word_text words.Bytes = codes "bytes"
word_text words.Version = codes "version"
word_text words.Header = codes "header"
word_text words.Length = codes "length"
word_text words.Checksum = codes "checksum"
word_text words.Ttl = codes "ttl"
word_text words.Mtu = codes "mtu"
word_text words.To = codes "to"
word_text words.Route = codes "route"
word_text words.Line = codes "line"
word_text words.Via = codes "via"
word_text words.On = codes "on"
word_text words.Hash = codes "hash"
word_text words.Place = codes "place"
word_text words.Of = codes "of"
word_text words.Worker = codes "worker"
word_text words.Tag = codes "vlan"
word_text words.Drop = codes "drop"

-- the word of a field
abbrev pub field_text : Field → List ℕ
field_text fields.Length = codes "length"
field_text fields.Destination = codes "dst"
field_text fields.Source = codes "src"
field_text fields.Vlan = codes "vlan"
field_text fields.Ttl = codes "ttl"
field_text fields.Checksum = codes "checksum"
field_text fields.HopLimit = codes "hop-limit"

-- the number of a field
abbrev pub field_number : Field → ℕ → List ℕ
field_number fields.Length number = decimal number
field_number fields.Destination number = link_text number
field_number fields.Source number = link_text number
field_number fields.Vlan number = decimal number
field_number fields.Ttl number = decimal number
field_number fields.Checksum number = hex_text (number % 65536)
field_number fields.HopLimit number = decimal number

-- a fact
abbrev pub fact_text : Graph → Fact → List ℕ
fact_text g fact = 32 ∷ (word_text fact.word ++ 32 ∷ value_text g fact.value)

-- the line of a change, behind a line feed
abbrev pub change_text : Field → (before after : ℕ) → List ℕ
change_text field before after =
    (10 ∷ codes "      change ") ++ (field_text field ++ (32 ∷ (field_number field before ++ (32 ∷ field_number field after))))

-- the begin of a visit's line, behind a line feed
abbrev pub visit_text : Graph → ℕ → List ℕ
visit_text g node = (10 ∷ codes "    visit ") ++ (node_name g node ++ (32 ∷ kind_name g node))

-- the line of a leg, behind a line feed
abbrev pub leg_text : (worker generation : ℕ) → List ℕ
leg_text worker generation = (10 ∷ codes "  leg worker ") ++ (decimal worker ++ (codes " generation " ++ decimal generation))

-- a piece
abbrev pub piece_text : Graph → Piece → List ℕ
piece_text g (pieces.Leg worker generation) = leg_text worker generation
piece_text g (pieces.Visit node) = visit_text g node
piece_text g (pieces.Because fact) = fact_text g fact
piece_text g (pieces.Change field before after) = change_text field before after

-- pieces, one behind the other
abbrev pub pieces_text : Graph → List Piece → List ℕ
pieces_text g pieces = flat_map (piece_text g) pieces
