-- What is printed of a load.
use Rattle.std.specs.Prelude.{ℕ, ◌+◌, ◌-◌, ◌*◌, ◌/◌, List, [], ◌∷◌, ◌++◌, codes, decimal}

-- the length of the savefile of so many packets: its header, and a header and 60 bytes for each packet
abbrev pub savefile_len : ℕ → ℕ
savefile_len packets = 24 + 76 * packets

-- the packets with the time to live 1, which are dropped
abbrev pub dropped : ℕ → ℕ
dropped packets = packets / 16

-- the words of the load: what it was made of
unfoldable pub first_line : (seed packets workers : ℕ) → List ℕ
first_line seed packets workers = codes "load " ++ decimal seed ++ 32 ∷ decimal packets ++ 32 ∷ decimal workers ++ 10 ∷ []

-- the length of its savefile
unfoldable pub capture_line : ℕ → List ℕ
capture_line packets = codes "capture " ++ decimal (savefile_len packets) ++ 10 ∷ []

-- how many packets were transmitted and dropped without handoffs
unfoldable pub plain_line : ℕ → List ℕ
plain_line packets = codes "plain tx " ++ decimal (packets - dropped packets) ++ codes " drop " ++ decimal (dropped packets) ++ 10 ∷ []

-- how many packets came to an end with handoffs
unfoldable pub handoff_line : ℕ → List ℕ
handoff_line ended = codes "handoff ended " ++ decimal ended ++ 10 ∷ []

-- how many buffers were back in the pool then
unfoldable pub buffers_line : ℕ → List ℕ
buffers_line buffers = codes "buffers " ++ decimal buffers ++ 10 ∷ []

-- the whole text, where so many packets came to an end with handoffs, and so many buffers were back
abbrev pub summary_of : (seed packets workers ended buffers : ℕ) → List ℕ
summary_of seed packets workers ended buffers =
    first_line seed packets workers ++ capture_line packets ++ plain_line packets ++ handoff_line ended ++ buffers_line buffers
    ++ codes "end" ++ 10 ∷ []

-- the text of a load: each packet comes to an end, and each of 4,096 buffers comes back
abbrev pub summary : (seed packets workers : ℕ) → List ℕ
summary seed packets workers = summary_of seed packets workers packets 4096
