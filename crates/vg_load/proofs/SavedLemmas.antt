-- For `savefiles_have_their_length`: the length of the savefile of a load's packets.
use Rattle.std.proofs.Common.{◌≡◌, ◌∙◌, ℕ, zero, suc, ◌+◌, ◌*◌, List, [], ◌∷◌, ◌++◌, length, drop, refl, sym, ap, arith, length-append}
use Rattle.std.specs.Prelude.{Option, Some, None, option_map, unwrap_or, slice_get, flat_map}
use Rattle.std.proofs.lemmas.List.{drop-drop}
use Rattle.rand_xoshiro.specs.SplitMix64.{mix_u64}
use Rattle.vg_capture.specs.declared.captures.Captured.{Captured}
use Rattle.vg_capture.specs.declared.captures.Capture.{Capture}
use Rattle.vg_capture.specs.Savefile.{file_header, record_of, sent_in}
use Rattle.vg_load.specs.Packets.{IsLoad, load_packet, load_packets, packets_from}
use Rattle.vg_load.specs.Saved.{numbered_from, whole_savefile}
use Rattle.vg_load.specs.Summary.{savefile_len}

-- the header of a file has 24 bytes
length-file_header : (capture : Capture) → length (file_header capture) ≡ 24
length-file_header capture = refl

-- the record of a load's packet has 76
length-load_record : (number word : ℕ) → length (record_of (load_packet number word) (load_packet number word).bytes) ≡ 76
length-load_record number word = refl

-- the packet at a place is the first of those from that place on
slice_get_at : {X : Type 0} (n : ℕ) (xs ys : List X) (x : X) → drop n xs ≡ x ∷ ys → slice_get xs n ≡ Some x
slice_get_at zero xs ys x e = ap (λ l. slice_get l 0) e
slice_get_at (suc n) [] ys x e = cc
slice_get_at (suc n) (y ∷ xs) ys x e = slice_get_at n xs ys x e

-- the records of packets from a number on
length-records : (count number state : ℕ) (all : List Captured) → drop number all ≡ packets_from count number state
    → length (flat_map (sent_in all) (numbered_from number (packets_from count number state))) ≡ 76 * count
unfolding packets_from
length-records zero number state all e = refl
length-records (suc count) number state all e =
    let packet : Captured = load_packet number (mix_u64 state).0 in
    let others : List Captured = packets_from count (suc number) (mix_u64 state).1 in
    let here : slice_get all number ≡ Some packet = slice_get_at number all others packet e in
    let next : suc number ≡ number + 1 = omega arith in
    let behind : drop (suc number) all ≡ others = ap (λ n. drop n all) next ∙ sym (drop-drop 1 number all) ∙ ap (drop 1) e in
    let first : length (sent_in all (number, packet.bytes)) ≡ 76 =
    ap (λ (o : Option Captured). length (unwrap_or (option_map (λ captured. record_of captured packet.bytes) o) [])) here ∙ length-load_record number (mix_u64 state).0 in
    let rest = length-records count (suc number) (mix_u64 state).1 all behind in
    let moved : length (flat_map (sent_in all) (numbered_from (number + 1) others)) ≡ length (flat_map (sent_in all) (numbered_from (suc number) others)) =
    ap (λ n. length (flat_map (sent_in all) (numbered_from n others))) (sym next) in
    length-append (sent_in all (number, packet.bytes)) (flat_map (sent_in all) (numbered_from (number + 1) others)) ∙ omega (arith, first, rest, moved)

-- the whole savefile
pub length-whole_savefile : (seed packets : ℕ) (capture : Capture) → IsLoad seed packets capture → length (whole_savefile capture) ≡ savefile_len packets
length-whole_savefile seed packets capture is =
    let all : List Captured = load_packets seed packets in
    let same : length (flat_map (sent_in capture.packets) (numbered_from 0 capture.packets)) ≡ length (flat_map (sent_in all) (numbered_from 0 all)) =
    ap (λ (ps : List Captured). length (flat_map (sent_in ps) (numbered_from 0 ps))) is.made in
    let records = length-records packets 0 seed all refl in
    let header = length-file_header capture in
    length-append (file_header capture) (flat_map (sent_in capture.packets) (numbered_from 0 capture.packets)) ∙ omega (arith, same, records, header)
