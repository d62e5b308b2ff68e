-- For the clauses of `read_places`, `add`, `Packets::{stretch, bytes, marks}` and `Stretch::bytes`: the places of captured packets in bytes, one more at a
-- time.
use Rattle.std.proofs.Common.{◌≡◌, ℕ, ◌+◌, ◌-◌, ◌<◌, ◌≤◌, ◌^◌, Bool, false, List, [], ◌∷◌, ◌++◌, length, take, drop, get_or, refl, sym, ap, subst, ◌∙◌, arith, length-drop, append_assoc}
use Rattle.std.specs.Prelude.{All, Some, option_map, slice_get}
use Rattle.std.proofs.lemmas.Option.{slice_get_read}
use Rattle.std.proofs.lemmas.List.{drop-drop, map_push, length_push, take-append-le, drop-append-le, take_all, drop_all, length-append, length-map, take-map, drop-map, get_or-map}
use Rattle.std.proofs.lemmas.List.Elements.{All-tail, All-push}
use Rattle.byteorder.specs.Endian.{little_number, little_bytes}
use Rattle.byteorder.specs.Numbers.{little_number-reads_back}
use Rattle.vg_capture.specs.declared.captures.Captured.{Captured}
use Rattle.vg_capture.specs.declared.captures.Marks.{Marks}
use Rattle.vg_capture.specs.declared.captures.Place.{Place}
use Rattle.vg_capture.specs.Places.{number_at, captured_at, captured_in, captured_with, head_of, marks_of, ArePlaces}
use Rattle.vg_capture.specs.Savefile.{IsOrder, Order, number32}
use Rattle.vg_capture.proofs.RecordLemmas.{IsRead, read_start, read_next, captured_as}

-- so far the packets at these places were read, up to a place of the file with this rest from there on
pub record IsSoFar (order : Order) (big : Bool) (file : List ℕ) (place : ℕ) (rest : List ℕ) (places : List Place) : Type 0 where
  pub read : IsRead order (drop 24 file) place rest (captured_in big file places)
  pub behind : rest ≡ drop place file
  pub are : ArePlaces file places

-- no place
pub no_places : (file : List ℕ) → ArePlaces file []
no_places file = record { few = omega arith; within = λ i d h. absurd (omega (arith, h)) }

-- nothing was read yet
pub nothing_read : (order : Order) (big : Bool) (file records : List ℕ) (places : List Place) → records ≡ drop 24 file → places ≡ [] → IsSoFar order big file 24 records places
nothing_read order big file records places behind none =
    subst (λ ps. IsSoFar order big file 24 records ps) (sym none) (subst (λ rs. IsSoFar order big file 24 rs []) (sym behind)
    (record { read = read_start order (drop 24 file); behind = refl; are = no_places file }))

-- one more place within the bytes
pub one_more : (bytes : List ℕ) (places : List Place) (place : Place) → ArePlaces bytes places → length places < 65536 → place.at + 16 + place.len ≤ length bytes
    → ArePlaces bytes (places ++ place ∷ [])
one_more bytes places place are room within = record {
  few = omega (arith, length_push places place, room);
  within = All-push (λ (p : Place). p.at + 16 + p.len ≤ length bytes) places place are.within within;
}

-- the number so far behind a place of the file
number_behind : (order : Order) (big : Bool) (file : List ℕ) (place : ℕ) (rest : List ℕ) (k : ℕ) → IsOrder big order → rest ≡ drop place file → number_at big file (place + k) ≡ number32 order rest k
number_behind order big file place rest k same behind = same file (place + k) ∙ ap (order 4) (sym (ap (drop k) behind ∙ drop-drop k place file))

-- one more packet was read
pub one_read : (order : Order) (big : Bool) (file : List ℕ) (place place' : ℕ) (rest : List ℕ) (places : List Place) (len : ℕ) (body others : List ℕ) (captured : Place) (places' : List Place)
    → IsOrder big order → place' ≡ place + 16 + len → 24 ≤ length file → IsSoFar order big file place rest places → length places < 65536 → 16 ≤ length rest → len ≡ number32 order rest 8 → len ≤ 262144
    → body ≡ drop 16 rest → len ≤ length body → others ≡ drop len body
    → captured.at ≡ place → captured.len ≡ len → places' ≡ places ++ captured ∷ []
    → IsSoFar order big file place' others places'
one_read order big file place place' rest places len body others captured places' same_order at header so_far room whole n short b fits o start size more =
    let count : length (captured_in big file places) ≡ length places = length-map places (captured_at big file) in
    let from : drop 16 rest ≡ drop (place + 16) file = ap (drop 16) so_far.behind ∙ drop-drop 16 place file in
    let bytes : take captured.len (drop (captured.at + 16) file) ≡ take len (drop 16 rest) =
    ap (λ k. take k (drop (captured.at + 16) file)) size ∙ ap (λ k. take len (drop (k + 16) file)) start ∙ ap (take len) (sym from) in
    let first : number_at big file captured.at ≡ number32 order rest 0 =
    ap (number_at big file) (let here : captured.at ≡ place + 0 = omega (arith, start) in here) ∙ number_behind order big file place rest 0 same_order so_far.behind in
    let number : (k : ℕ) → number_at big file (captured.at + k) ≡ number32 order rest k =
    λ k. ap (λ p. number_at big file (p + k)) start ∙ number_behind order big file place rest k same_order so_far.behind in
    let same = captured_as order rest len (captured_at big file captured) first (number 4) (number 12) n bytes in
    let seen : captured_in big file places' ≡ captured_in big file places ++ captured_at big file captured ∷ [] = ap (captured_in big file) more ∙ map_push (captured_at big file) places captured in
    let all : place + length rest ≡ length file = omega (arith, so_far.read.at, length-drop 24 file, header) in
    let room' : length body + 16 ≡ length rest = omega (arith, ap length b, length-drop 16 rest, whole) in
    record {
      read = read_next order (drop 24 file) place place' rest (captured_in big file places) len body others (captured_at big file captured) (captured_in big file places') at so_far.read
          (omega (arith, count, room)) whole n short b fits o same seen;
      behind = o ∙ ap (drop len) b ∙ ap (drop len) from ∙ drop-drop len (place + 16) file ∙ ap (λ k. drop k file) (sym at);
      are = subst (ArePlaces file) (sym more) (one_more file places captured so_far.are room (omega (arith, start, size, all, room', fits)));
    }

-- the first number stays where more is put behind it
number_in_front : (xs more : List ℕ) → 4 ≤ length xs → little_number 4 (xs ++ more) ≡ little_number 4 xs
number_in_front [] more h = absurd (omega (arith, h))
number_in_front (a ∷ []) more h = absurd (omega (arith, h))
number_in_front (a ∷ b ∷ []) more h = absurd (omega (arith, h))
number_in_front (a ∷ b ∷ c ∷ []) more h = absurd (omega (arith, h))
number_in_front (a ∷ b ∷ c ∷ d ∷ xs) more h = refl

-- so does one at a place
number_kept : (bytes more : List ℕ) (place : ℕ) → place + 4 ≤ length bytes → number_at false (bytes ++ more) place ≡ number_at false bytes place
number_kept bytes more place within =
    ap (little_number 4) (drop-append-le place bytes more (omega (arith, within)))
    ∙ number_in_front (drop place bytes) more (omega (arith, within, length-drop place bytes))

-- packets stay where more bytes are put behind
packets_kept : (bytes more : List ℕ) (places : List Place) → All (λ (p : Place). p.at + 16 + p.len ≤ length bytes) places
    → captured_in false (bytes ++ more) places ≡ captured_in false bytes places
packets_kept bytes more [] within = refl
packets_kept bytes more (p ∷ ps) within =
    let here : p.at + 16 + p.len ≤ length bytes = within 0 p (omega arith) in
    let seconds : number_at false (bytes ++ more) p.at ≡ number_at false bytes p.at = number_kept bytes more p.at (omega (arith, here)) in
    let fraction : number_at false (bytes ++ more) (p.at + 4) ≡ number_at false bytes (p.at + 4) = number_kept bytes more (p.at + 4) (omega (arith, here)) in
    let original : number_at false (bytes ++ more) (p.at + 12) ≡ number_at false bytes (p.at + 12) = number_kept bytes more (p.at + 12) (omega (arith, here)) in
    let part : take p.len (drop (p.at + 16) (bytes ++ more)) ≡ take p.len (drop (p.at + 16) bytes) =
    ap (take p.len) (drop-append-le (p.at + 16) bytes more (omega (arith, here))) ∙ take-append-le p.len (drop (p.at + 16) bytes) more (omega (arith, here, length-drop (p.at + 16) bytes)) in
    let first : captured_at false (bytes ++ more) p ≡ captured_at false bytes p =
    λ i. record { seconds = seconds i; fraction = fraction i; original = original i; bytes = part i } in
    let rest = packets_kept bytes more ps (All-tail (λ (p : Place). p.at + 16 + p.len ≤ length bytes) p ps within) in
    ap (λ x. x ∷ captured_in false (bytes ++ more) ps) first ∙ ap (λ xs. captured_at false bytes p ∷ xs) rest

-- a number that was written is read
number_back : (x : ℕ) (rest : List ℕ) → x < 2 ^ 32 → little_number 4 (little_bytes 4 x ++ rest) ≡ x
number_back x rest h = little_number-reads_back 4 x rest h

-- a record that was written behind other bytes is read
pub written_there : (bytes more : List ℕ) (marks : Marks) (len : ℕ) (place : Place) → marks.seconds < 2 ^ 32 → marks.fraction < 2 ^ 32 → marks.original < 2 ^ 32
    → place.at ≡ length bytes → place.len ≡ length more
    → captured_at false (bytes ++ (head_of marks len ++ more)) place ≡ captured_with marks more
written_there bytes more marks len place seconds fraction original at size =
    let record_bytes : List ℕ = head_of marks len ++ more in
    let all : List ℕ = bytes ++ record_bytes in
    let behind : (k : ℕ) → drop (place.at + k) all ≡ drop k record_bytes =
    λ k. ap (λ n. drop (n + k) all) at ∙ sym (drop-drop k (length bytes) all)
    ∙ ap (drop k) (drop-append-le (length bytes) bytes record_bytes (omega arith) ∙ ap (λ xs. xs ++ record_bytes) (drop_all (length bytes) bytes (omega arith))) in
    let first : drop place.at all ≡ record_bytes = ap (λ n. drop n all) (let here : place.at ≡ place.at + 0 = omega arith in here) ∙ behind 0 in
    let one : number_at false all place.at ≡ marks.seconds =
    ap (little_number 4) first ∙ number_back marks.seconds (little_bytes 4 marks.fraction ++ little_bytes 4 len ++ little_bytes 4 marks.original ++ more) seconds in
    let two : number_at false all (place.at + 4) ≡ marks.fraction =
    ap (little_number 4) (behind 4) ∙ number_back marks.fraction (little_bytes 4 len ++ little_bytes 4 marks.original ++ more) fraction in
    let three : number_at false all (place.at + 12) ≡ marks.original =
    ap (little_number 4) (behind 12) ∙ number_back marks.original more original in
    let four : take place.len (drop (place.at + 16) all) ≡ more =
    ap (take place.len) (behind 16) ∙ take_all place.len more (omega (arith, size)) in
    λ i. record { seconds = one i; fraction = two i; original = three i; bytes = four i }

-- one more packet, whose record is put behind the others
pub packet_more : (bytes head more bytes' bytes'' : List ℕ) (places places' : List Place) (marks : Marks) (len : ℕ) (place : Place) → ArePlaces bytes places → length places < 65536
    → marks.seconds < 2 ^ 32 → marks.fraction < 2 ^ 32 → marks.original < 2 ^ 32
    → place.at ≡ length bytes → place.len ≡ length more → head ≡ head_of marks len
    → bytes' ≡ bytes ++ head → bytes'' ≡ bytes' ++ more → places' ≡ places ++ place ∷ []
    → (captured_in false bytes'' places' ≡ captured_in false bytes places ++ captured_with marks more ∷ []) × ArePlaces bytes'' places'
packet_more bytes head more bytes' bytes'' places places' marks len place are room seconds fraction original start size is longer longer' added =
    let record_bytes : List ℕ = head_of marks len ++ more in
    let all : bytes'' ≡ bytes ++ record_bytes =
    longer' ∙ ap (λ bs. bs ++ more) (longer ∙ ap (λ h. bytes ++ h) is) ∙ append_assoc bytes (head_of marks len) more in
    let count : length (head_of marks len ++ more) ≡ 16 + length more = omega arith in
    let long : length (bytes ++ record_bytes) ≡ length bytes + (16 + length more) = length-append bytes record_bytes ∙ ap (λ n. length bytes + n) count in
    let one = written_there bytes more marks len place seconds fraction original start size in
    let kept : ArePlaces (bytes ++ record_bytes) places = record { few = are.few; within = λ i d h. omega (arith, long, are.within i d h) } in (
      ap (λ bs. captured_in false bs places') all ∙ ap (captured_in false (bytes ++ record_bytes)) added ∙ map_push (captured_at false (bytes ++ record_bytes)) places place
          ∙ ap (λ xs. xs ++ captured_at false (bytes ++ record_bytes) place ∷ []) (packets_kept bytes record_bytes places are.within)
          ∙ ap (λ x. captured_in false bytes places ++ x ∷ []) one,
      subst (λ bs. ArePlaces bs places') (sym all)
          (subst (ArePlaces (bytes ++ record_bytes)) (sym added) (one_more (bytes ++ record_bytes) places place kept room (omega (arith, long, start, size)))),
    )

-- there is room for one more packet where there are not as many as may be
pub room_for_one : (big : Bool) (bytes : List ℕ) (places : List Place) (n : ℕ) → ArePlaces bytes places → n ≡ length places → (n ≡ 65536 → ⊥)
    → (length places < 65536) × (length (captured_in big bytes places) < 65536)
room_for_one big bytes places n are size not =
    let count : length (captured_in big bytes places) ≡ length places = length-map places (captured_at big bytes) in
    let few = are.few in
    let less : length places < 65536 = omega arith in
    (less, omega (arith, count, less))

-- the packet at a place that was read
packet_there : (big : Bool) (bytes : List ℕ) (places : List Place) (seen : List Captured) (k : ℕ) (d place : Place) → captured_in big bytes places ≡ seen → k < length seen → place ≡ get_or places k d
    → slice_get seen k ≡ Some (captured_at big bytes place)
packet_there big bytes places seen k d place view inside read =
    let count : length (captured_in big bytes places) ≡ length places = length-map places (captured_at big bytes) in
    let within : k < length places = omega (arith, count, ap length view, inside) in
    let there : captured_at big bytes place ≡ get_or (captured_in big bytes places) k (captured_at big bytes place) =
    ap (captured_at big bytes) read ∙ sym (get_or-map (captured_at big bytes) places k d (captured_at big bytes place) within) in
    ap (λ packets. slice_get packets k) (sym view)
    ∙ slice_get_read (captured_in big bytes places) (length (captured_in big bytes places)) k (captured_at big bytes place) refl (omega (arith, count, within)) there

-- its bytes
pub bytes_there : (big : Bool) (bytes : List ℕ) (places : List Place) (seen : List Captured) (k : ℕ) (d place : Place) → captured_in big bytes places ≡ seen → k < length seen → place ≡ get_or places k d
    → option_map (λ (packet : Captured). packet.bytes) (slice_get seen k) ≡ Some (take (place.at + 16 + place.len - (place.at + 16)) (drop (place.at + 16) bytes))
bytes_there big bytes places seen k d place view inside read =
    let size : place.at + 16 + place.len - (place.at + 16) ≡ place.len = omega arith in
    ap (option_map (λ (packet : Captured). packet.bytes)) (packet_there big bytes places seen k d place view inside read)
    ∙ ap (λ n. Some (take n (drop (place.at + 16) bytes))) (sym size)

-- its marks
pub marks_there : (big : Bool) (bytes : List ℕ) (places : List Place) (seen : List Captured) (k : ℕ) (d place : Place) → captured_in big bytes places ≡ seen → k < length seen → place ≡ get_or places k d
    → option_map marks_of (slice_get seen k) ≡ Some (marks_of (captured_at big bytes place))
marks_there big bytes places seen k d place view inside read = ap (option_map marks_of) (packet_there big bytes places seen k d place view inside read)

-- the packets at some of the places
pub part_seen : (big : Bool) (bytes shown : List ℕ) (places read : List Place) (seen : List Captured) (from count : ℕ) → captured_in big bytes places ≡ seen → shown ≡ bytes → read ≡ places
    → captured_in big shown (take (from + count - from) (drop from read)) ≡ take count (drop from seen)
part_seen big bytes shown places read seen from count view same rows =
    let size : from + count - from ≡ count = omega arith in
    ap (λ n. captured_in big shown (take n (drop from read))) size
    ∙ ap (λ bs. captured_in big bs (take count (drop from read))) same
    ∙ ap (λ ps. captured_in big bytes (take count (drop from ps))) rows
    ∙ sym (take-map (captured_at big bytes) count (drop from places))
    ∙ ap (take count) (sym (drop-map (captured_at big bytes) from places))
    ∙ ap (λ packets. take count (drop from packets)) view
