-- The fields of a frame's headers (Ethernet; RFC 791, section 3.1; RFC 8200, section 3; IEEE 802.1Q); 0 where the frame ends before them.
use Rattle.std.specs.Prelude.{ℕ, Bool, true, ◌+◌, ◌*◌, ◌/◌, ◌%◌, ◌==◌, List, [], ◌∷◌, slice_index, bit_xor, if◌then◌else◌}
use Rattle.vg_model.specs.Hash.{mixed}
use Rattle.vg_model.specs.Packet.{Packet, fresh}
use Rattle.vg_model.specs.Tag as tags
use Rattle.vg_story.specs.declared.pieces.Field.{Field}
use Rattle.vg_story.specs.declared.pieces.Field.TheVariants as fields
use Rattle.vg_story.specs.Fronts.{Front, number16, number32, number48}

-- the type in the Ethernet header
abbrev pub type_of : Front → ℕ
type_of f = number16 f.bytes 12

-- a packet of these bytes, for what the model says of packets
abbrev pub packet_of : Front → Packet
packet_of f = fresh 0 f.bytes

-- the frame has a whole tag, and the type behind it
abbrev pub is_tagged : Front → Bool
is_tagged f = tags.is_tagged (packet_of f)

-- the VLAN id of the tag; 0 where there is none
abbrev pub vlan : Front → ℕ
vlan f = if is_tagged f then tags.vlan_id (packet_of f) else 0

-- the version of an IP header
abbrev pub version : Front → ℕ
version f = slice_index f.bytes 14 / 16

-- the header length that an IPv4 header says, in bytes
abbrev pub header_len : Front → ℕ
header_len f = slice_index f.bytes 14 % 16 * 4

-- the total length that an IPv4 header says
abbrev pub total_len : Front → ℕ
total_len f = number16 f.bytes 16

-- the time to live of an IPv4 header
abbrev pub time_to_live : Front → ℕ
time_to_live f = slice_index f.bytes 22

-- the checksum of an IPv4 header
abbrev pub checksum : Front → ℕ
checksum f = number16 f.bytes 24

-- the destination of an IPv4 header
abbrev pub destination : Front → ℕ
destination f = number32 f.bytes 30

-- the payload length that an IPv6 header says
abbrev pub payload_len : Front → ℕ
payload_len f = number16 f.bytes 18

-- the hop limit of an IPv6 header
abbrev pub hop_limit : Front → ℕ
hop_limit f = slice_index f.bytes 21

-- the number of 64 bits at a place
abbrev pub number64 : List ℕ → ℕ → ℕ
number64 bytes at = number32 bytes at * 4294967296 + number32 bytes (at + 4)

-- the destination of an IPv6 header
unfoldable pub destination6 : Front → ℕ
destination6 f = number64 f.bytes 38 * 18446744073709551616 + number64 f.bytes 46

-- the hash of the flow of an IPv6 header: that of the exclusive or of the eight words of both addresses
unfoldable pub hash6 : Front → ℕ
hash6 f =
    let word : ℕ → ℕ = number32 f.bytes in
    mixed (bit_xor (bit_xor (bit_xor (bit_xor (bit_xor (bit_xor (bit_xor (word 22) (word 26)) (word 30)) (word 34)) (word 38)) (word 42)) (word 46)) (word 50))

-- the frame shows a field: those of an IP header where its type says so, and not behind a tag
abbrev pub has_field : Front → Field → Bool
has_field f fields.Length = true
has_field f fields.Destination = true
has_field f fields.Source = true
has_field f fields.Vlan = true
has_field f fields.Ttl = type_of f == 0x0800
has_field f fields.Checksum = type_of f == 0x0800
has_field f fields.HopLimit = type_of f == 0x86dd

-- the number of a field
abbrev pub number_of : Front → Field → ℕ
number_of f fields.Length = f.len
number_of f fields.Destination = number48 f.bytes 0
number_of f fields.Source = number48 f.bytes 6
number_of f fields.Vlan = vlan f
number_of f fields.Ttl = time_to_live f
number_of f fields.Checksum = checksum f
number_of f fields.HopLimit = hop_limit f

-- the fields whose changes are shown, in this order
abbrev pub all_fields : List Field
all_fields = fields.Length ∷ fields.Destination ∷ fields.Source ∷ fields.Vlan ∷ fields.Ttl ∷ fields.Checksum ∷ fields.HopLimit ∷ []
