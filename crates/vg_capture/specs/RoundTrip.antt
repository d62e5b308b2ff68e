-- Reading a savefile that was written.
use Rattle.std.specs.Prelude.{◌≡◌, ℕ, ◌<◌, ◌≤◌, ◌^◌, List, length, map, slice_get, Option, option_map, Ok, All}
use Rattle.std.specs.List.{filter_map}
use Rattle.std.specs.List.Sorted.{IsStrictlyIncreasing}
use Rattle.vg_capture.specs.declared.captures.Capture.{Capture}
use Rattle.vg_capture.specs.declared.captures.Captured.{Captured}
use Rattle.vg_capture.specs.Savefile.{capture_of, savefile, longest_record, largest_file, most_records}

-- a captured packet's numbers have 32 bits
pub record IsCaptured (captured : Captured) : Type 0 where
  pub seconds : captured.seconds < 2 ^ 32
  pub fraction : captured.fraction < 2 ^ 32
  pub original : captured.original < 2 ^ 32

-- a capture's numbers have 32 bits, and there are at most 65,536 packets
pub record IsCapture (capture : Capture) : Type 0 where
  pub snaplen : capture.snaplen < 2 ^ 32
  pub packets : All IsCaptured capture.packets
  pub few : length capture.packets ≤ most_records

-- packets sent of a capture: their numbers rise, and are below the number of captured packets
pub record AreSentOf (capture : Capture) (sent : List (ℕ × List ℕ)) : Type 0 where
  pub rising : IsStrictlyIncreasing (map (λ s. s.0) sent)
  pub within : All (λ s. s.0 < length capture.packets) sent

-- the captured packet with the bytes that were sent
abbrev pub with_bytes : List ℕ → Captured → Captured
with_bytes bytes captured = record captured { bytes = bytes }

-- a packet that was sent, as it is read again
abbrev pub sent_packet : List Captured → ℕ × List ℕ → Option Captured
sent_packet packets sent = option_map (with_bytes sent.1) (slice_get packets sent.0)

-- the packets sent, under the capture's unit of time and snaplen
abbrev pub sent_capture : Capture → List (ℕ × List ℕ) → Capture
sent_capture capture sent = record capture { packets = filter_map (sent_packet capture.packets) sent }

-- a savefile that was written is read as the packets sent, where it and its records aren't too long to be read
abbrev pub ReadsBack : Type 0
ReadsBack = (capture : Capture) (sent : List (ℕ × List ℕ)) → IsCapture capture → AreSentOf capture sent
    → All (λ s. length s.1 ≤ longest_record) sent → length (savefile capture sent) ≤ largest_file
    → capture_of (savefile capture sent) ≡ Ok (sent_capture capture sent)

-- what is read of bytes is a capture
abbrev pub ReadsCaptures : Type 0
ReadsCaptures = (bytes : List ℕ) (capture : Capture) → All (λ b. b < 256) bytes → capture_of bytes ≡ Ok capture → IsCapture capture
