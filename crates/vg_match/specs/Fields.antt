-- The fields of a frame by name, and where they stand (IEEE 802.3, IEEE 802.1Q; RFC 791, section 3.1; RFC 8200, section 3; RFC 768; RFC 9293).
use Rattle.std.specs.Prelude.{ℕ, ◌+◌, Bool, false, ◌&&◌, nat_lt, nat_le, List, [], ◌∷◌, codes, bytes_eq, find, Option, Some, None, option_map, if◌then◌else◌}
use Rattle.std.specs.List.{list_any}
use Rattle.std.specs.Option.{option_map_or}
use Rattle.vg_match.specs.declared.fields.Field.{Field}
use Rattle.vg_match.specs.declared.fields.Field.TheVariants as fields
use Rattle.vg_match.specs.declared.fields.Span.{Span}
use Rattle.vg_match.specs.declared.frames.Carried.{Carried}
use Rattle.vg_match.specs.declared.frames.Carried.TheVariants.{Ip4, Ip6}
use Rattle.vg_match.specs.declared.frames.Layout.{Layout}

-- the fields in their order
abbrev pub all_fields : List Field
all_fields =
    fields.DestinationMac ∷ fields.SourceMac ∷ fields.Type ∷ fields.Vlan ∷ fields.Identification ∷ fields.TimeToLive ∷ fields.Checksum
    ∷ fields.Source ∷ fields.Destination ∷ fields.SourcePort ∷ fields.DestinationPort ∷ []

-- the name of a field
abbrev pub field_name : Field → List ℕ
field_name fields.DestinationMac = codes "destination-mac"
field_name fields.SourceMac = codes "source-mac"
field_name fields.Type = codes "type"
field_name fields.Vlan = codes "vlan"
field_name fields.Identification = codes "identification"
field_name fields.TimeToLive = codes "ttl"
field_name fields.Checksum = codes "checksum"
field_name fields.Source = codes "source"
field_name fields.Destination = codes "destination"
field_name fields.SourcePort = codes "source-port"
field_name fields.DestinationPort = codes "destination-port"

-- the field of a name
abbrev pub field_of : List ℕ → Option Field
field_of word = find (λ field. bytes_eq word (field_name field)) all_fields

-- so many bytes from a place on
abbrev pub span : (at len : ℕ) → Span
span at len = record { at = at; len = len }

-- where a field of an IPv4 or IPv6 header stands, whose header begins at a place
abbrev pub header_span_at : Carried → Field → ℕ → Option Span
header_span_at Ip4 fields.Identification at = Some (span (at + 4) 2)
header_span_at Ip4 fields.TimeToLive at = Some (span (at + 8) 1)
header_span_at Ip4 fields.Checksum at = Some (span (at + 10) 2)
header_span_at Ip4 fields.Source at = Some (span (at + 12) 4)
header_span_at Ip4 fields.Destination at = Some (span (at + 16) 4)
header_span_at Ip6 fields.TimeToLive at = Some (span (at + 7) 1)
header_span_at Ip6 fields.Source at = Some (span (at + 8) 16)
header_span_at Ip6 fields.Destination at = Some (span (at + 24) 16)
header_span_at carried field at = None

abbrev pub header_span_of : Field → Layout → Option Span
header_span_of field layout = header_span_at layout.carried field layout.at

-- where a field stands in a frame of this layout, where the frame has it
abbrev pub span_of : Field → Layout → Option Span
span_of fields.DestinationMac layout = Some (span 0 6)
span_of fields.SourceMac layout = Some (span 6 6)
span_of fields.Type layout = Some (span 12 2)
span_of fields.Vlan layout = if layout.tagged then Some (span 14 2) else None
span_of fields.SourcePort layout = option_map (λ at. span at 2) layout.ports_at
span_of fields.DestinationPort layout = option_map (λ at. span (at + 2) 2) layout.ports_at
span_of field layout = header_span_of field layout

-- a place is in a span
abbrev pub covers : ℕ → Span → Bool
covers place span = nat_le span.at place && nat_lt place (span.at + span.len)

-- a place of a frame of this layout is in a field
abbrev pub has_place : Layout → ℕ → Field → Bool
has_place layout place field = option_map_or (covers place) (span_of field layout) false

-- the field that a place is in
abbrev pub field_at : Layout → ℕ → Option Field
field_at layout place = find (has_place layout place) all_fields

-- a place is in one of these fields
abbrev pub is_in : List Field → Layout → ℕ → Bool
is_in chosen layout place = list_any (has_place layout place) chosen
