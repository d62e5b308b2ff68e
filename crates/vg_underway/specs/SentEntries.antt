-- Where the bytes of packets that were sent stand, in lists of bytes.
use Rattle.std.specs.Prelude.{ℕ, ◌+◌, ◌<◌, ◌≤◌, List, [], ◌∷◌, length, map, slice_range, slice_index_or, All}
use Rattle.vg_underway.specs.declared.sent.SentEntry.{SentEntry}

-- number and bytes of a packet that was sent
abbrev pub entry_of : List (List ℕ) → SentEntry → ℕ × List ℕ
entry_of parts e = (e.number, slice_range (slice_index_or parts e.part []) e.start (e.start + e.len))

-- numbers and bytes of all of them
abbrev pub sent_in : List SentEntry → List (List ℕ) → List (ℕ × List ℕ)
sent_in entries parts = map (entry_of parts) entries

-- and in one list
abbrev pub sent_by : List SentEntry → List ℕ → List (ℕ × List ℕ)
sent_by entries bytes = sent_in entries (bytes ∷ [])

-- it has its bytes
abbrev pub IsIn : List (List ℕ) → SentEntry → Type 0
IsIn parts e = (e.part < length parts) × (e.start + e.len ≤ length (slice_index_or parts e.part []))

-- each has
abbrev pub AreIn : List SentEntry → List (List ℕ) → Type 0
AreIn entries parts = All (IsIn parts) entries

abbrev pub AreWithin : List SentEntry → List ℕ → Type 0
AreWithin entries bytes = AreIn entries (bytes ∷ [])

-- its part, so many places further on, is below this one
abbrev pub IsBelow : (most parts : ℕ) → SentEntry → Type 0
IsBelow most parts e = e.part + parts < most

-- with its part so many places further on
abbrev pub moved_on : ℕ → SentEntry → SentEntry
moved_on parts e = record e { part = e.part + parts }

-- how many bytes a packet that was sent has
abbrev pub sent_size : ℕ × List ℕ → ℕ
sent_size packet = length packet.1
