-- Packets by which hosts find their neighbors (RFC 826; RFC 4861, section 4).
use Rattle.std.specs.Prelude.{ℕ, ◌+◌, Bool, false, ◌&&◌, ◌||◌, ◌==◌, nat_le, List, length, slice_index}
use Rattle.vg_match.specs.declared.frames.Carried.{Carried}
use Rattle.vg_match.specs.declared.frames.Carried.TheVariants.{Ip6}
use Rattle.vg_match.specs.Frames.{carries, layout_of}

-- ICMPv6 from a place on, of a type from router solicitation to redirect
abbrev pub is_discovery_at : Carried → ℕ → List ℕ → Bool
is_discovery_at Ip6 at frame =
    nat_le (at + 41) (length frame) && slice_index frame (at + 6) == 58
    && nat_le 133 (slice_index frame (at + 40)) && nat_le (slice_index frame (at + 40)) 137
is_discovery_at carried at frame = false

-- neighbor discovery of IPv6
abbrev pub is_discovery : List ℕ → Bool
is_discovery frame = is_discovery_at (layout_of frame).carried (layout_of frame).at frame

-- ARP, or neighbor discovery of IPv6
abbrev pub is_noise : List ℕ → Bool
is_noise frame = carries 0x0806 0 frame || is_discovery frame
