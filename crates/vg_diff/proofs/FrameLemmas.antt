-- For the clauses of `put_frames`, `frames_of` and `frame_of`: the frame of one packet more, and that of a number.
use Rattle.std.proofs.Common.{◌≡◌, ℕ, ◌+◌, ◌<◌, ◌≤◌, List, [], ◌∷◌, ◌++◌, length, get_or, take, sym, ap, ◌∙◌, append_assoc, Bor}
use Rattle.std.specs.Prelude.{Some, option_map, slice_get}
use Rattle.std.proofs.lemmas.List.{map-append, take_more, length-map, get_or_past}
use Rattle.std.proofs.lemmas.Option.{get_or_from_slice_get, slice_get-map}
use Rattle.vg_capture.specs.declared.captures.Captured.{Captured}
use Rattle.vg_match.specs.Sides.{seen, frame_at}
use Rattle.vg_diff.specs.Run.{packet_bytes}

pub frames_more : (packets : List Captured) (i : ℕ) (front : List (List ℕ)) (before now : List (Bor (List ℕ))) (frame : Bor (List ℕ))
    → i < length packets → option_map (λ (packet : Captured). packet.bytes) (slice_get packets i) ≡ Some frame.now → now ≡ before ++ frame ∷ []
    → seen before ≡ front ++ take i (packet_bytes packets) → seen now ≡ front ++ take (i + 1) (packet_bytes packets)
frames_more packets i front before now frame below is are so_far =
    let bytes : Captured → List ℕ = λ (packet : Captured). packet.bytes in
    let within : i < length (packet_bytes packets) = simp length-map below in
    let there : get_or (packet_bytes packets) i [] ≡ frame.now = get_or_from_slice_get (packet_bytes packets) i frame.now [] (slice_get-map bytes packets i ∙ is) in
    ap seen are
    ∙ map-append (λ (frame : Bor (List ℕ)). frame.now) before (frame ∷ [])
    ∙ ap (λ xs. xs ++ frame.now ∷ []) so_far
    ∙ append_assoc front (take i (packet_bytes packets)) (frame.now ∷ [])
    ∙ ap (λ xs. front ++ xs) (ap (λ y. take i (packet_bytes packets) ++ y ∷ []) (sym there) ∙ sym (take_more (packet_bytes packets) i [] within))

-- the frame of a number
pub frame_there : (packets : List Captured) (i : ℕ) (frame : List ℕ) → option_map (λ (packet : Captured). packet.bytes) (slice_get packets i) ≡ Some frame
    → frame ≡ frame_at (packet_bytes packets) i
frame_there packets i frame is =
    let bytes : Captured → List ℕ = λ (packet : Captured). packet.bytes in
    sym (get_or_from_slice_get (packet_bytes packets) i frame [] (slice_get-map bytes packets i ∙ is))

-- a number that no packet has
pub frame_past : (packets : List Captured) (i : ℕ) → length packets ≤ i → [] ≡ frame_at (packet_bytes packets) i
frame_past packets i over =
    let past : length (packet_bytes packets) ≤ i = simp length-map over in
    sym (get_or_past (packet_bytes packets) i [] past)
