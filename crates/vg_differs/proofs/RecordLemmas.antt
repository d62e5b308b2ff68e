-- For `spot_at`: the records of packets sent, and where they end.
use Rattle.std.proofs.Common.{◌≡◌, ℕ, ◌+◌, ◌<◌, ◌≤◌, List, ◌∷◌, [], ◌++◌, length, get_or, take, sym, ap, ◌∙◌, arith}
use Rattle.std.specs.Prelude.{Some, option_map, slice_get, sum_by}
use Rattle.std.proofs.lemmas.List.{take_all, take_more, get_or-map, length-map}
use Rattle.std.proofs.lemmas.Option.{slice_get-map, slice_get-get_or}
use Rattle.std.proofs.lemmas.List.Sums.{sum_by-append}
use Rattle.vg_capture.specs.declared.captures.Sent.{Sent}
use Rattle.vg_capture.specs.Savefile.{pairs}
use Rattle.vg_differs.specs.Records.{record_len, end_of}

-- the records of one packet more end behind its own
pub next_end : (sent : List Sent) (k : ℕ) (one : Sent) → k < length sent → one ≡ get_or sent k one
    → end_of (take (k + 1) (pairs sent)) ≡ end_of (take k (pairs sent)) + record_len one.bytes
next_end sent k one within read =
    let f : (ℕ × List ℕ) → ℕ = λ s. record_len s.1 in
    let pair : Sent → ℕ × List ℕ = λ s. (s.number, s.bytes) in
    let long : length (pairs sent) ≡ length sent = length-map sent pair in
    let front : take (k + 1) (pairs sent) ≡ take k (pairs sent) ++ get_or (pairs sent) k (pair one) ∷ [] =
    take_more (pairs sent) k (pair one) (omega (arith, long, within)) in
    let last : get_or (pairs sent) k (pair one) ≡ pair one = get_or-map pair sent k one (pair one) within ∙ ap pair (sym read) in
    let both : sum_by f (take (k + 1) (pairs sent)) ≡ sum_by f (take k (pairs sent)) + (0 + record_len one.bytes) =
    ap (sum_by f) (front ∙ ap (λ s. take k (pairs sent) ++ s ∷ []) last) ∙ sum_by-append f (take k (pairs sent)) (pair one ∷ []) in
    omega (arith, both)

-- the packet of a record
pub pair_at : (sent : List Sent) (k : ℕ) (one : Sent) → k < length sent → one ≡ get_or sent k one → slice_get (pairs sent) k ≡ Some (one.number, one.bytes)
pair_at sent k one within read =
    let pair : Sent → ℕ × List ℕ = λ s. (s.number, s.bytes) in
    slice_get-map pair sent k ∙ ap (option_map pair) (slice_get-get_or sent k one within ∙ ap Some (sym read))

-- all records end where the last does
pub all_end : (sent : List Sent) (k : ℕ) → length sent ≤ k → end_of (take k (pairs sent)) ≡ end_of (pairs sent)
all_end sent k within =
    let pair : Sent → ℕ × List ℕ = λ s. (s.number, s.bytes) in
    let long : length (pairs sent) ≡ length sent = length-map sent pair in
    ap end_of (take_all k (pairs sent) (omega (arith, long, within)))
