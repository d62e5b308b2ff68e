-- What packets send.
use Rattle.std.specs.Prelude.{ℕ, suc, List, [], ◌∷◌, flat_map}
use Rattle.vg_model.specs.Leg.{Outcome, Sent, Dropped, Handed}
use Rattle.vg_model.specs.Journey.{Course}
use Rattle.vg_capture.specs.declared.captures.Captured.{Captured}
use Rattle.vg_capture.specs.Savefile.{sent_in}

-- a packet with this number and these bytes that ends so is sent in front of these, or isn't
abbrev pub sent_first : ℕ → List ℕ → Outcome → List (ℕ × List ℕ) → List (ℕ × List ℕ)
sent_first number bytes (Sent interface) others = (number, bytes) ∷ others
sent_first number bytes (Dropped node error) others = others
sent_first number bytes (Handed node worker) others = others

-- what packets send that went so, from this number on
abbrev pub sent_from : ℕ → List Course → List (ℕ × List ℕ)
sent_from number [] = []
sent_from number (t ∷ trips) = sent_first number t.packet.bytes t.outcome (sent_from (suc number) trips)

-- the record of a packet with this number that went so, where it was sent
abbrev pub record_in : List Captured → ℕ → Course → List ℕ
record_in packets number t = flat_map (sent_in packets) (sent_first number t.packet.bytes t.outcome [])

-- the records of what packets send that went so, from this number on
abbrev pub records_from : List Captured → ℕ → List Course → List ℕ
records_from packets number trips = flat_map (sent_in packets) (sent_from number trips)
