-- For `written`: packets sent, one by one.
use Rattle.std.proofs.Common.{◌≡◌, ℕ, ◌+◌, List, [], ◌∷◌, ◌++◌, take, ap, ◌∙◌}
use Rattle.std.specs.Prelude.{Some, slice_get, flat_map}
use Rattle.std.proofs.lemmas.List.{append-nil, take_more}
use Rattle.std.proofs.lemmas.Option.{slice_get_within, get_or_from_slice_get}
use Rattle.std.proofs.lemmas.Grind.{flat_map-append}
use Rattle.vg_capture.specs.declared.captures.Captured.{Captured}
use Rattle.vg_capture.specs.Savefile.{sent_in}

-- one packet more
pub records_more : (packets : List Captured) (sent : List (ℕ × List ℕ)) (k : ℕ) (packet : ℕ × List ℕ) → slice_get sent k ≡ Some packet
    → flat_map (sent_in packets) (take (k + 1) sent) ≡ flat_map (sent_in packets) (take k sent) ++ sent_in packets packet
records_more packets sent k packet there =
    ap (flat_map (sent_in packets))
    (take_more sent k packet (slice_get_within sent k packet there) ∙ ap (λ p. take k sent ++ p ∷ []) (get_or_from_slice_get sent k packet packet there))
    ∙ flat_map-append (sent_in packets) (take k sent) (packet ∷ [])
    ∙ ap (λ more. flat_map (sent_in packets) (take k sent) ++ more) (append-nil (sent_in packets packet))
