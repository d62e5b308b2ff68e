-- Ranges of addresses, to which a comparison may be limited.
use Rattle.std.specs.Prelude.{ℕ, ◌+◌, Bool, false, ◌&&◌, ◌||◌, ◌==◌, nat_le, List, length, slice_range}
use Rattle.std.specs.Int.{w128, from_be_bytes}
use Rattle.std.specs.List.{list_any}
use Rattle.vg_model.specs.Bytes.{number32_at}
use Rattle.vg_model.specs.Route.{ip4, ip6, covers_of}
use Rattle.vg_match.specs.declared.frames.Carried.{Carried}
use Rattle.vg_match.specs.declared.frames.Carried.TheVariants.{Ip4, Ip6, Other}
use Rattle.vg_match.specs.declared.ranges.Range.{Range}
use Rattle.vg_match.specs.declared.ranges.Range.TheVariants as ranges
use Rattle.vg_match.specs.Frames.{layout_of}

-- the 128-bit number at a place
abbrev pub number128_at : List ℕ → ℕ → ℕ
number128_at bytes at = from_be_bytes w128 (slice_range bytes at (at + 16))

-- an IPv4 address is in a range
abbrev pub has4 : ℕ → Range → Bool
has4 address (ranges.Ip4 prefix) = covers_of ip4 prefix address
has4 address (ranges.Ip6 prefix) = false

-- an IPv6 address is in a range
abbrev pub has6 : ℕ → Range → Bool
has6 address (ranges.Ip4 prefix) = false
has6 address (ranges.Ip6 prefix) = covers_of ip6 prefix address

-- the source or the destination of what is carried from a place on is in a range
abbrev pub touches_at : Carried → ℕ → List ℕ → Range → Bool
touches_at Ip4 at frame range =
    nat_le (at + 20) (length frame) && (has4 (number32_at frame (at + 12)) range || has4 (number32_at frame (at + 16)) range)
touches_at Ip6 at frame range =
    nat_le (at + 40) (length frame) && (has6 (number128_at frame (at + 8)) range || has6 (number128_at frame (at + 24)) range)
touches_at Other at frame range = false

-- the source or the destination of the IP datagram in a frame is in a range
abbrev pub touches : List ℕ → Range → Bool
touches frame range = touches_at (layout_of frame).carried (layout_of frame).at frame range

-- one of the addresses is in one of the ranges; where there is no range, each frame is in reach
abbrev pub is_in_reach : List Range → List ℕ → Bool
is_in_reach all frame = length all == 0 || list_any (touches frame) all
