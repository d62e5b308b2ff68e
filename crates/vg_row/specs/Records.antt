-- Savefiles, as pcap-savefile(5) has them, little-endian.
use Rattle.std.specs.Prelude.{ℕ, ◌-◌, ◌/◌, ◌%◌, List, [], ◌∷◌, ◌++◌, length, take, replicate}
use Rattle.byteorder.specs.Endian.{little_bytes}
use Rattle.vg_row.specs.declared.records.Marks.{Marks}

-- a savefile's header: microseconds, version 2.4, no correction, no accuracy, at most 262,144 bytes a packet, Ethernet
abbrev pub header : List ℕ
header = little_bytes 4 0xa1b2c3d4 ++ little_bytes 2 2 ++ little_bytes 2 4 ++ little_bytes 4 0 ++ little_bytes 4 0 ++ little_bytes 4 262144 ++ little_bytes 4 1

-- so many of these bytes, and zeros behind them where there are fewer
abbrev pub filled : List ℕ → ℕ → List ℕ
filled bytes len = take len bytes ++ replicate (len - length bytes) 0

-- bytes with a record behind them: seconds, microseconds, captured length, original length, and the frame
abbrev pub with_record : Marks → List ℕ → List ℕ → List ℕ
with_record marks frame bytes =
    bytes ++ little_bytes 4 (marks.time / 1000000) ++ little_bytes 4 (marks.time % 1000000) ++ little_bytes 4 marks.len ++ little_bytes 4 marks.original
    ++ filled frame marks.len
