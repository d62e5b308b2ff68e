-- Where in an Ethernet frame its parts stand (IEEE 802.3, IEEE 802.1Q; RFC 791, section 3.1; RFC 8200, section 3), in bytes from its first.
use Rattle.std.specs.Prelude.{ℕ, ◌+◌, ◌*◌, ◌%◌, ◌≤◌, IfSome, Bool, not, ◌&&◌, ◌||◌, ◌==◌, nat_lt, nat_le, max, List, length, take, slice_index, Option, Some, None, if◌then◌else◌}
use Rattle.vg_model.specs.Bytes.{number16_at}
use Rattle.vg_match.specs.declared.frames.Carried.{Carried}
use Rattle.vg_match.specs.declared.frames.Carried.TheVariants.{Ip4, Ip6, Other}
use Rattle.vg_match.specs.declared.frames.Layout.{Layout}

-- the types that begin a VLAN tag
abbrev pub is_tag_type : ℕ → Bool
is_tag_type kind = kind == 0x8100 || kind == 0x88a8

-- a VLAN tag begins at the place
abbrev pub has_tag_at : List ℕ → ℕ → Bool
has_tag_at frame at = nat_le (at + 2) (length frame) && is_tag_type (number16_at frame at)

-- where the type of what the frame carries stands: behind the addresses and at most two tags
abbrev pub type_at : List ℕ → ℕ
type_at frame = if not (has_tag_at frame 12) then 12 else if not (has_tag_at frame 16) then 16 else 20

-- the frame carries something of this type, with a whole header of so many bytes
abbrev pub carries : (kind header : ℕ) → List ℕ → Bool
carries kind header frame = nat_le (type_at frame + 2 + header) (length frame) && number16_at frame (type_at frame) == kind

-- what the frame carries: IPv4, IPv6, or something else
abbrev pub carried_by : List ℕ → Carried
carried_by frame = if carries 0x0800 20 frame then Ip4 else if carries 0x86dd 40 frame then Ip6 else Other

-- where the payload begins of what is carried from a place on: behind the IPv4 header, whose length is given in words of four bytes, or the
-- IPv6 header
abbrev pub payload_of : Carried → ℕ → List ℕ → ℕ
payload_of Ip4 at frame = at + max 20 (4 * (slice_index frame at % 16))
payload_of Ip6 at frame = at + 40
payload_of Other at frame = at

-- where the frame ends without its padding: where the IPv4 total length or the IPv6 payload length ends; a frame of another type, or with a
-- total length below that of a header, ends with its last byte
abbrev pub end_of : Carried → ℕ → List ℕ → ℕ
end_of Ip4 at frame = let total = number16_at frame (at + 2) in if nat_lt total 20 then length frame else at + total
end_of Ip6 at frame = at + 40 + number16_at frame (at + 4)
end_of Other at frame = length frame

-- the protocols whose payload begins with two ports: TCP, UDP
abbrev pub has_ports : ℕ → Bool
has_ports protocol = protocol == 6 || protocol == 17

-- where the two ports begin: in the first fragment, or the whole, of an IPv4 datagram, and in an IPv6 datagram without extension headers
abbrev pub ports_of : Carried → ℕ → List ℕ → Option ℕ
ports_of Ip4 at frame =
    if has_ports (slice_index frame (at + 9)) && number16_at frame (at + 6) % 8192 == 0 then Some (payload_of Ip4 at frame) else None
ports_of Ip6 at frame = if has_ports (slice_index frame (at + 6)) then Some (at + 40) else None
ports_of Other at frame = None

-- where the parts of the frame stand
abbrev pub layout_of : List ℕ → Layout
layout_of frame =
    let kind = carried_by frame in
    let at = type_at frame + 2 in
    record {
      tagged = has_tag_at frame 12;
      carried = kind;
      at = at;
      payload_at = payload_of kind at frame;
      ports_at = ports_of kind at frame;
      end = end_of kind at frame;
    }

-- the frame without its padding
abbrev pub front : List ℕ → List ℕ
front frame = take (layout_of frame).end frame

-- what is carried from a place on has its whole header in the frame
abbrev pub IsWhole : Carried → ℕ → List ℕ → Type 0
IsWhole Ip4 at frame = at + 20 ≤ length frame
IsWhole Ip6 at frame = at + 40 ≤ length frame
IsWhole Other at frame = Unit {0}

-- the parts stand near the frame's begin
pub record IsSmall (layout : Layout) : Type 0 where
  pub at : layout.at ≤ 22
  pub payload : layout.payload_at ≤ 90
  pub ports : IfSome layout.ports_at (λ place. place ≤ 90)
