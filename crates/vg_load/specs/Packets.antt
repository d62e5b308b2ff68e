-- The packets of a load: each is made of a word of SplitMix64.
use Rattle.std.specs.Prelude.{◌≡◌, ℕ, zero, suc, ◌+◌, ◌%◌, ◌==◌, false, List, [], ◌∷◌, ◌++◌, slice_index, if◌then◌else◌}
use Rattle.std.specs.Int.{w64, to_le_bytes}
use Rattle.rand_xoshiro.specs.SplitMix64.{mix_u64}
use Rattle.vg_model.specs.Header.{with_checksum}
use Rattle.vg_capture.specs.declared.captures.Captured.{Captured}
use Rattle.vg_capture.specs.declared.captures.Capture.{Capture}

-- the Ethernet header: to the address of the first interface, from 02:00:00:00:00:01, of IPv4
abbrev pub ethernet_header : List ℕ
ethernet_header = 2 ∷ 254 ∷ 0 ∷ 0 ∷ 0 ∷ 0 ∷ 2 ∷ 0 ∷ 0 ∷ 0 ∷ 0 ∷ 1 ∷ 8 ∷ 0 ∷ []

-- a byte of a word, the lowest first
abbrev pub byte_of : ℕ → ℕ → ℕ
byte_of word k = slice_index (to_le_bytes w64 word) k

-- the IPv4 header of a datagram of 46 bytes that carries UDP, with its right checksum: from 198.18.0.0 and the low 16 bits of the word, to
-- 10.0.0.0 and the 24 bits behind them
abbrev pub ip4_header : (ttl word : ℕ) → List ℕ
ip4_header ttl word = with_checksum (69 ∷ 0 ∷ 0 ∷ 46 ∷ 0 ∷ 0 ∷ 0 ∷ 0 ∷ ttl ∷ 17 ∷ 0 ∷ 0
    ∷ 198 ∷ 18 ∷ byte_of word 1 ∷ byte_of word 0 ∷ 10 ∷ byte_of word 4 ∷ byte_of word 3 ∷ byte_of word 2 ∷ [])

-- 26 bytes of zeros
abbrev pub no_data : List ℕ
no_data = 0 ∷ 0 ∷ 0 ∷ 0 ∷ 0 ∷ 0 ∷ 0 ∷ 0 ∷ 0 ∷ 0 ∷ 0 ∷ 0 ∷ 0 ∷ 0 ∷ 0 ∷ 0 ∷ 0 ∷ 0 ∷ 0 ∷ 0 ∷ 0 ∷ 0 ∷ 0 ∷ 0 ∷ 0 ∷ 0 ∷ []

-- a frame of 60 bytes
abbrev pub frame : (ttl word : ℕ) → List ℕ
frame ttl word = ethernet_header ++ ip4_header ttl word ++ no_data

-- every sixteenth packet has the time to live 1, and all others 64
abbrev pub ttl_of : ℕ → ℕ
ttl_of number = if number % 16 == 15 then 1 else 64

-- a packet of this number, made of a word: its time is as many microseconds
abbrev pub load_packet : (number word : ℕ) → Captured
load_packet number word = record { seconds = 0; fraction = number; original = 60; bytes = frame (ttl_of number) word }

-- so many packets from a number on, by the words from this state on
unfoldable pub packets_from : (count number state : ℕ) → List Captured
packets_from zero number state = []
packets_from (suc count) number state = load_packet number (mix_u64 state).0 ∷ packets_from count (suc number) (mix_u64 state).1

-- the packets of a load
abbrev pub load_packets : (seed packets : ℕ) → List Captured
load_packets seed packets = packets_from packets 0 seed

-- the capture of a load: microseconds, and records of up to 262,144 bytes
pub record IsLoad (seed packets : ℕ) (capture : Capture) : Type 0 where
  pub micros : capture.nanos ≡ false
  pub snaplen : capture.snaplen ≡ 262144
  pub made : capture.packets ≡ load_packets seed packets
