-- For the clauses of `put_header`, `put_head` and `Savefile::put`, and of `put_record` of vg_savefile: appending a savefile's parts one after the other.
use Rattle.std.proofs.Common.{◌≡◌, ℕ, ◌+◌, ◌<◌, List, [], ◌∷◌, ◌++◌, length, take, get_or, ap, sym, ◌∙◌, append-nil, append_assoc}
use Rattle.std.specs.Prelude.{Some, None, slice_get, flat_map, option_map, unwrap_or}
use Rattle.std.proofs.lemmas.List.{take_more, map-append}
use Rattle.std.proofs.lemmas.Grind.{flat_map-append}
use Rattle.vg_capture.specs.declared.captures.Captured.{Captured}
use Rattle.vg_capture.specs.declared.captures.Marks.{Marks}
use Rattle.vg_capture.specs.declared.captures.Sent.{Sent}
use Rattle.vg_capture.specs.Places.{head_of, marks_of}
use Rattle.vg_capture.specs.Savefile.{sent_in, pairs, record_of}

-- a header's parts, appended one by one
pub header_appended : (a b c d e f g h : List ℕ)
    → ((((((a ++ b) ++ c) ++ d) ++ e) ++ f) ++ g) ++ h ≡ a ++ ((((((b ++ c) ++ d) ++ e) ++ f) ++ g) ++ h)
header_appended a b c d e f g h = simp append_assoc

pub numbers_appended : (a b c d e : List ℕ) → (((a ++ b) ++ c) ++ d) ++ e ≡ a ++ (b ++ (c ++ (d ++ e)))
numbers_appended a b c d e = simp append_assoc

-- the record of a packet with these marks
pub sent_is : (packets : List Captured) (number : ℕ) (bytes : List ℕ) (marks : Marks) → option_map marks_of (slice_get packets number) ≡ Some marks
    → head_of marks (length bytes) ++ bytes ≡ sent_in packets (number, bytes)
sent_is packets number bytes marks found =
    elim (slice_get packets number) as (λ o. option_map marks_of o ≡ Some marks
    → head_of marks (length bytes) ++ bytes ≡ unwrap_or (option_map (λ captured. record_of captured bytes) o) []) [
      | Some captured ↦ λ e. let same : marks_of captured ≡ marks = cc in ap (λ m. head_of m (length bytes) ++ bytes) (sym same)
      | None ↦ λ e. absurd (let bad : ⊥ = cc in bad)
    ] found

-- one more packet's record
pub sent_more : (packets : List Captured) (sent : List Sent) (i : ℕ) (one : Sent) → i < length sent → one ≡ get_or sent i one
    → flat_map (sent_in packets) (pairs (take (i + 1) sent)) ≡ flat_map (sent_in packets) (pairs (take i sent)) ++ sent_in packets (one.number, one.bytes)
sent_more packets sent i one h k =
    ap (λ ss. flat_map (sent_in packets) (pairs ss)) (take_more sent i one h ∙ ap (λ s. take i sent ++ s ∷ []) (sym k))
    ∙ ap (flat_map (sent_in packets)) (map-append _ (take i sent) (one ∷ []))
    ∙ flat_map-append (sent_in packets) (pairs (take i sent)) ((one.number, one.bytes) ∷ [])
    ∙ ap (λ r. flat_map (sent_in packets) (pairs (take i sent)) ++ r) (append-nil _)
