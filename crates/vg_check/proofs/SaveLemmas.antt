-- For `are_records` and what it calls: savefiles, record by record.
use Rattle.std.proofs.Common.{◌≡◌, ◌≢◌, ◌↔◌, ℕ, suc, ◌+◌, ◌<◌, List, [], ◌∷◌, ◌++◌, length, get_or, drop, Bor, refl, sym, ap, subst, ◌∙◌, arith, append_assoc, append-nil}
use Rattle.std.specs.Prelude.{Option, Some, None, MatchOption, flat_map, option_map, unwrap_or, slice_get}
use Rattle.std.proofs.Math.Seq.{drop-cons}
use Rattle.std.proofs.lemmas.List.{append_cancel_left}
use Rattle.vg_model.specs.Leg.{Outcome, Sent, Dropped, Handed}
use Rattle.vg_model.specs.Journey.{Course}
use Rattle.vg_capture.specs.declared.captures.Captured.{Captured}
use Rattle.vg_capture.specs.declared.captures.Marks.{Marks}
use Rattle.vg_capture.specs.Places.{head_of, marks_of}
use Rattle.vg_capture.specs.Savefile.{record_of, sent_in}
use Rattle.vg_check.specs.Saves.{sent_first, sent_from, record_in, records_from}

-- what stands behind these bytes, where they are at the front
abbrev pub IsBehind : (front bytes : List ℕ) → Option (Bor (List ℕ)) → Type 0
IsBehind front bytes rest = MatchOption rest ((more : List ℕ) → bytes ≢ front ++ more) (λ rest. bytes ≡ front ++ rest.now)

-- bytes behind two fronts, of which the first is there
pub behind_two : (one other bytes middle : List ℕ) (rest : Option (Bor (List ℕ))) → bytes ≡ one ++ middle → IsBehind other middle rest → IsBehind (one ++ other) bytes rest
behind_two one other bytes middle None there none = λ more e. none more (append_cancel_left one middle (other ++ more) (sym there ∙ e ∙ append_assoc one other more))
behind_two one other bytes middle (Some rest) there next = there ∙ ap (λ l. one ++ l) next ∙ sym (append_assoc one other rest.now)

-- where the first isn't there, both aren't
pub behind_none : (one other bytes : List ℕ) → ((more : List ℕ) → bytes ≢ one ++ more) → (more : List ℕ) → bytes ≢ (one ++ other) ++ more
behind_none one other bytes none more e = none (other ++ more) (e ∙ append_assoc one other more)

-- nothing stands behind what isn't there
pub no_rest : (front bytes : List ℕ) (rest : Option (Bor (List ℕ))) → rest ≡ None → ((more : List ℕ) → bytes ≢ front ++ more) → IsBehind front bytes rest
no_rest front bytes rest none h = subst (IsBehind front bytes) (sym none) h

-- the record of a packet that was sent
pub record_sent : (packets : List Captured) (number : ℕ) (t : Course) (interface : ℕ) (marks : Marks) → t.outcome ≡ Sent interface → option_map marks_of (slice_get packets number) ≡ Some marks
    → record_in packets number t ≡ head_of marks (length t.packet.bytes) ++ t.packet.bytes
record_sent packets number t interface marks is found =
    ap (λ o. flat_map (sent_in packets) (sent_first number t.packet.bytes o [])) is ∙ append-nil (sent_in packets (number, t.packet.bytes)) ∙ sym (sent_is t.packet.bytes)
  where
    sent_is : (bytes : List ℕ) → head_of marks (length bytes) ++ bytes ≡ sent_in packets (number, bytes)
    sent_is bytes = by (slice_get packets number) found
      where
        by : (o : Option Captured) → option_map marks_of o ≡ Some marks → head_of marks (length bytes) ++ bytes ≡ unwrap_or (option_map (λ captured. record_of captured bytes) o) []
        by (Some captured) e = let same : marks_of captured ≡ marks = cc in ap (λ m. head_of m (length bytes) ++ bytes) (sym same)
        by None e = absurd (let bad : ⊥ = cc in bad)

-- the records of packets from one on
pub records_step : (packets : List Captured) (trips : List Course) (k : ℕ) (t : Course) → k < length trips → t ≡ get_or trips k t
    → records_from packets k (drop k trips) ≡ record_in packets k t ++ records_from packets (k + 1) (drop (k + 1) trips)
records_step packets trips k t within read =
    let front : drop k trips ≡ t ∷ drop (suc k) trips = drop-cons trips k t within ∙ ap (λ x. x ∷ drop (suc k) trips) (sym read) in
    let next : suc k ≡ k + 1 = omega arith in
    ap (records_from packets k) front ∙ first_record t.outcome (sent_from (suc k) (drop (suc k) trips)) ∙ ap (λ n. record_in packets k t ++ records_from packets n (drop n trips)) next
  where
    first_record : (o : Outcome) (others : List (ℕ × List ℕ))
        → flat_map (sent_in packets) (sent_first k t.packet.bytes o others) ≡ flat_map (sent_in packets) (sent_first k t.packet.bytes o []) ++ flat_map (sent_in packets) others
    first_record (Sent interface) others = ap (λ l. l ++ flat_map (sent_in packets) others) (sym (append-nil (sent_in packets (k, t.packet.bytes))))
    first_record (Dropped node error) others = refl
    first_record (Handed node worker) others = refl

-- the bytes are the records of all packets exactly where these are those of the packets from one on
abbrev pub AreLeft : List Captured → List Course → (bytes rest : List ℕ) → ℕ → Type 0
AreLeft packets trips bytes rest k = (bytes ≡ records_from packets 0 trips) ↔ (rest ≡ records_from packets k (drop k trips))

pub left_next : (packets : List Captured) (trips : List Course) (bytes rest behind : List ℕ) (k : ℕ) (t : Course) → k < length trips → t ≡ get_or trips k t → AreLeft packets trips bytes rest k
    → rest ≡ record_in packets k t ++ behind → AreLeft packets trips bytes behind (k + 1)
left_next packets trips bytes rest behind k t within read so_far is =
    let step = records_step packets trips k t within read in
    let first : List ℕ = record_in packets k t in
    let later : List ℕ = records_from packets (k + 1) (drop (k + 1) trips) in (
      (λ h. append_cancel_left first behind later (sym is ∙ so_far.0 h ∙ step)),
      (λ h. so_far.1 (is ∙ ap (λ l. first ++ l) h ∙ sym step)),
    )

-- another record stands there
pub left_none : (packets : List Captured) (trips : List Course) (bytes rest : List ℕ) (k : ℕ) (t : Course) → k < length trips → t ≡ get_or trips k t → AreLeft packets trips bytes rest k
    → ((more : List ℕ) → rest ≢ record_in packets k t ++ more) → bytes ≢ records_from packets 0 trips
left_none packets trips bytes rest k t within read so_far none e =
    none (records_from packets (k + 1) (drop (k + 1) trips)) (so_far.0 e ∙ records_step packets trips k t within read)
