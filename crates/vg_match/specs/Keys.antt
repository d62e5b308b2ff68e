-- What frames are compared by.
use Rattle.std.specs.Prelude.{ℕ, suc, ◌+◌, Bool, ◌&&◌, ◌==◌, List, [], ◌∷◌, ◌++◌, take, drop, bytes_eq, Option, Some, None, if◌then◌else◌}
use Rattle.vg_match.specs.declared.fields.Field.{Field}
use Rattle.vg_match.specs.declared.fields.Span.{Span}
use Rattle.vg_match.specs.declared.frames.Carried.{Carried}
use Rattle.vg_match.specs.declared.frames.Carried.TheVariants.{Ip4, Ip6, Other}
use Rattle.vg_match.specs.declared.frames.Layout.{Layout}
use Rattle.vg_match.specs.declared.keys.Likeness.{Likeness}
use Rattle.vg_match.specs.declared.keys.Likeness.TheVariants.{Datagram, Payload, Flow}
use Rattle.vg_match.specs.declared.keys.Parts.{Parts}
use Rattle.vg_match.specs.Frames.{layout_of, front}
use Rattle.vg_match.specs.Fields.{span, is_in}

-- ---- equal packets

-- a byte at a place, or 0 where the place is in a field that is ignored
abbrev pub kept : List Field → Layout → ℕ → ℕ → ℕ
kept ignored layout place byte = if is_in ignored layout place then 0 else byte

-- the bytes from a place on, with 0 in place of those that are ignored
abbrev pub masked : List Field → Layout → ℕ → List ℕ → List ℕ
masked ignored layout place [] = []
masked ignored layout place (byte ∷ bytes) = kept ignored layout place byte ∷ masked ignored layout (suc place) bytes

-- what packets are equal by: all bytes up to the end of the IP datagram, but for the fields that are ignored
abbrev pub compared : List Field → List ℕ → List ℕ
compared ignored frame = masked ignored (layout_of frame) 0 (front frame)

-- ---- packets that are alike

-- the bytes of a span, as far as there are such
abbrev pub cut : List ℕ → Span → List ℕ
cut bytes span = take span.len (drop span.at bytes)

abbrev pub no_span : Span
no_span = span 0 0

-- the bytes from a place on, where there is one
abbrev pub from : List ℕ → Option ℕ → List ℕ
from bytes None = []
from bytes (Some at) = drop at bytes

-- a number for IPv4, IPv6 or others, three spans, and all from a place on
abbrev pub parts : (version : ℕ) → (first second third : Span) → Option ℕ → Parts
parts version first second third rest = record { version = version; first = first; second = second; third = third; rest = rest }

-- the span of the ports, where there are such
abbrev pub ports_span : Option ℕ → Span
ports_span None = no_span
ports_span (Some at) = span at 4

-- the span of the identification, which IPv4 alone has
abbrev pub identification_span : Carried → (at : ℕ) → Span
identification_span Ip4 at = span (at + 4) 2
identification_span carried at = no_span

-- the parts by which datagrams of a version are alike, with the spans of their addresses and of their protocol.
-- As datagrams: addresses, protocol, identification and payload; by payload: addresses and payload; by flow: addresses, protocol and ports
abbrev pub datagram_parts : Likeness → (version : ℕ) → (addresses protocol : Span) → Layout → Parts
datagram_parts Datagram version addresses protocol layout =
    parts version addresses protocol (identification_span layout.carried layout.at) (Some layout.payload_at)
datagram_parts Payload version addresses protocol layout = parts version addresses no_span no_span (Some layout.payload_at)
datagram_parts Flow version addresses protocol layout = parts version addresses protocol (ports_span layout.ports_at) None

-- the parts by which frames are alike that carry no IP datagram: all behind the addresses; as flows, the addresses and the type
abbrev pub other_parts : Likeness → Parts
other_parts Flow = parts 0 (span 0 14) no_span no_span None
other_parts likeness = parts 0 no_span no_span no_span (Some 12)

-- the parts by which frames of this layout are alike
abbrev pub parts_at : Carried → Likeness → Layout → Parts
parts_at Ip4 likeness layout = datagram_parts likeness 4 (span (layout.at + 12) 8) (span (layout.at + 9) 1) layout
parts_at Ip6 likeness layout = datagram_parts likeness 6 (span (layout.at + 8) 32) (span (layout.at + 6) 1) layout
parts_at Other likeness layout = other_parts likeness

abbrev pub parts_of : Likeness → Layout → Parts
parts_of likeness layout = parts_at layout.carried likeness layout

-- the parts, one behind the other
abbrev pub joined : Parts → List ℕ → List ℕ
joined parts bytes = parts.version ∷ [] ++ cut bytes parts.first ++ cut bytes parts.second ++ cut bytes parts.third ++ from bytes parts.rest

-- both are the same in each of their parts
abbrev pub has_parts : Parts → List ℕ → Parts → List ℕ → Bool
has_parts parts bytes others more =
    parts.version == others.version && bytes_eq (cut bytes parts.first) (cut more others.first) && bytes_eq (cut bytes parts.second) (cut more others.second)
    && bytes_eq (cut bytes parts.third) (cut more others.third) && bytes_eq (from bytes parts.rest) (from more others.rest)

-- what frames are alike by, of what they are compared by
abbrev pub likeness_of : Likeness → List Field → List ℕ → List ℕ
likeness_of likeness ignored frame = joined (parts_of likeness (layout_of frame)) (compared ignored frame)
