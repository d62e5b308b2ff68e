-- For `put_header`, `copy`, `move_back` and `put_record`: bytes that are written into a list, one part after the other.
use Rattle.std.proofs.Common.{◌≡◌, ℕ, ◌+◌, ◌-◌, ◌≤◌, List, [], ◌++◌, length, take, drop, refl, sym, ap, ◌∙◌, arith, append_assoc, append-nil, take_all}
use Rattle.std.specs.Prelude.{Some, slice_get, slice_range, option_map}
use Rattle.std.proofs.lemmas.List.{drop-drop, drop_all, take-take, take_at, drop_at, take-append-le, take-append-drop, length-append, length-take-le, length-drop}
use Rattle.vg_capture.specs.declared.captures.Captured.{Captured}
use Rattle.vg_capture.specs.declared.captures.Marks.{Marks}
use Rattle.vg_capture.specs.Places.{head_of, marks_of}
use Rattle.vg_capture.specs.Savefile.{sent_in}
use Rattle.vg_capture.proofs.WriteLemmas.{sent_is}

-- bytes over those from a place on, and then bytes over those behind them
pub behind : (l l1 l2 xs ys : List ℕ) (at p q : ℕ) → p ≡ at + length xs → q ≡ p + length ys → q ≤ length l
    → l1 ≡ take at l ++ (xs ++ drop p l) → l2 ≡ take p l1 ++ (ys ++ drop q l1) → l2 ≡ take at l ++ ((xs ++ ys) ++ drop q l)
behind l l1 l2 xs ys at p q p_is q_is within first second =
    let front : List ℕ = take at l ++ xs in
    let size : length front ≡ p = omega (arith, length-append (take at l) xs, length-take-le at l (omega (arith, p_is, q_is, within)), p_is) in
    let is : l1 ≡ front ++ drop p l = first ∙ sym (append_assoc (take at l) xs (drop p l)) in
    let rest : drop q (front ++ drop p l) ≡ drop q l =
    ap (λ k. drop k (front ++ drop p l)) q_is ∙ sym (drop-drop (length ys) p (front ++ drop p l)) ∙ ap (drop (length ys)) (drop_at front (drop p l) p size)
    ∙ drop-drop (length ys) p l ∙ ap (λ k. drop k l) (sym q_is) in
    second ∙ ap (λ z. take p z ++ (ys ++ drop q z)) is
    ∙ ap (λ z. z ++ (ys ++ drop q (front ++ drop p l))) (take_at front (drop p l) p size)
    ∙ ap (λ z. front ++ (ys ++ z)) rest
    ∙ append_assoc (take at l) xs (ys ++ drop q l)
    ∙ ap (λ z. take at l ++ z) (sym (append_assoc xs ys (drop q l)))

-- bytes over those from a place on, and then bytes over those in front of them
pub in_front : (l l1 l2 head body : List ℕ) (at to end : ℕ) → to ≡ at + length head → end ≡ to + length body → end ≤ length l
    → l1 ≡ take to l ++ (body ++ drop end l) → l2 ≡ take at l1 ++ (head ++ drop to l1) → l2 ≡ take at l ++ ((head ++ body) ++ drop end l)
in_front l l1 l2 head body at to end to_is end_is within first second =
    let size : length (take to l) ≡ to = length-take-le to l (omega (arith, end_is, within)) in
    let front : take at (take to l ++ (body ++ drop end l)) ≡ take at l =
    take-append-le at (take to l) (body ++ drop end l) (omega (arith, size, to_is)) ∙ take-take at to l (omega (arith, to_is)) in
    let rest : drop to (take to l ++ (body ++ drop end l)) ≡ body ++ drop end l = drop_at (take to l) (body ++ drop end l) to size in
    second ∙ ap (λ z. take at z ++ (head ++ drop to z)) first
    ∙ ap (λ z. z ++ (head ++ drop to (take to l ++ (body ++ drop end l)))) front
    ∙ ap (λ z. take at l ++ (head ++ z)) rest
    ∙ ap (λ z. take at l ++ z) (sym (append_assoc head body (drop end l)))

-- the first 32 bytes of a list, and then the last 32, of 32 to 64
pub halves : (to from l1 l2 : List ℕ) (len : ℕ) → length to ≡ len → length from ≡ len → 32 ≤ len → len ≤ 64
    → l1 ≡ take 0 to ++ (slice_range from 0 32 ++ drop 32 to) → l2 ≡ take (len - 32) l1 ++ (slice_range from (len - 32) (len - 32 + 32) ++ drop (len - 32 + 32) l1) → l2 ≡ from
halves to from l1 l2 len to_len from_len least most first second =
    let front : length (take 32 from) ≡ 32 = length-take-le 32 from (omega (arith, from_len, least)) in
    let is : l1 ≡ take 32 from ++ drop 32 to = first in
    let size : length l1 ≡ len = ap length is ∙ length-append (take 32 from) (drop 32 to) ∙ (let rest = length-drop 32 to in let e : length (take 32 from) + length (drop 32 to) ≡ len = omega (arith, front, rest, to_len, least) in e) in
    let low : take (len - 32) l1 ≡ take (len - 32) from =
    ap (take (len - 32)) is ∙ take-append-le (len - 32) (take 32 from) (drop 32 to) (omega (arith, front, most)) ∙ take-take (len - 32) 32 from (omega (arith, most)) in
    let high : slice_range from (len - 32) (len - 32 + 32) ≡ drop (len - 32) from =
    take_all (len - 32 + 32 - (len - 32)) (drop (len - 32) from) (let rest = length-drop (len - 32) from in omega (arith, rest, from_len)) in
    let none : drop (len - 32 + 32) l1 ≡ [] = drop_all (len - 32 + 32) l1 (omega (arith, size)) in
    second ∙ ap (λ xs. xs ++ (slice_range from (len - 32) (len - 32 + 32) ++ drop (len - 32 + 32) l1)) low
    ∙ ap (λ xs. take (len - 32) from ++ (xs ++ drop (len - 32 + 32) l1)) high
    ∙ ap (λ xs. take (len - 32) from ++ (drop (len - 32) from ++ xs)) none
    ∙ ap (λ xs. take (len - 32) from ++ xs) (append-nil (drop (len - 32) from))
    ∙ take-append-drop (len - 32) from

-- four numbers, one behind the other
pub four_behind : (l l1 l2 l3 l4 s f n o : List ℕ) (at : ℕ) → length s ≡ 4 → length f ≡ 4 → length n ≡ 4 → length o ≡ 4 → at + 16 ≤ length l
    → l1 ≡ take at l ++ (s ++ drop (at + 4) l) → l2 ≡ take (at + 4) l1 ++ (f ++ drop (at + 4 + 4) l1) → l3 ≡ take (at + 8) l2 ++ (n ++ drop (at + 8 + 4) l2)
    → l4 ≡ take (at + 12) l3 ++ (o ++ drop (at + 12 + 4) l3) → l4 ≡ take at l ++ ((((s ++ f) ++ n) ++ o) ++ drop (at + 16) l)
four_behind l l1 l2 l3 l4 s f n o at s_len f_len n_len o_len room one two three four =
    let sf = length-append s f in
    let sfn = length-append (s ++ f) n in
    let second : l2 ≡ take at l ++ ((s ++ f) ++ drop (at + 8) l) =
    behind l l1 l2 s f at (at + 4) (at + 4 + 4) (omega (arith, s_len)) (omega (arith, f_len)) (omega (arith, room)) one two
    ∙ ap (λ k. take at l ++ ((s ++ f) ++ drop k l)) (let e : at + 4 + 4 ≡ at + 8 = omega arith in e) in
    let third : l3 ≡ take at l ++ (((s ++ f) ++ n) ++ drop (at + 12) l) =
    behind l l2 l3 (s ++ f) n at (at + 8) (at + 8 + 4) (omega (arith, s_len, f_len, sf)) (omega (arith, n_len)) (omega (arith, room)) second three
    ∙ ap (λ k. take at l ++ (((s ++ f) ++ n) ++ drop k l)) (let e : at + 8 + 4 ≡ at + 12 = omega arith in e) in
    behind l l3 l4 ((s ++ f) ++ n) o at (at + 12) (at + 12 + 4) (omega (arith, s_len, f_len, n_len, sf, sfn)) (omega (arith, o_len)) (omega (arith, room)) third four
    ∙ ap (λ k. take at l ++ ((((s ++ f) ++ n) ++ o) ++ drop k l)) (let e : at + 12 + 4 ≡ at + 16 = omega arith in e)

-- a record's bytes in front of a place, and its header in front of them
pub record_made : (l l1 l2 head body : List ℕ) (len end : ℕ) → length head ≡ 16 → length body ≡ len → len + 16 ≤ end → end ≤ length l
    → l1 ≡ take (end - len) l ++ (body ++ drop (end - len + len) l) → l2 ≡ take (end - len - 16) l1 ++ (head ++ drop (end - len - 16 + 16) l1)
    → l2 ≡ take (end - (len + 16)) l ++ ((head ++ body) ++ drop end l)
record_made l l1 l2 head body len end head_len body_len room within first second =
    in_front l l1 l2 head body (end - len - 16) (end - len) end (omega (arith, head_len, room)) (omega (arith, body_len, room)) within
    (first ∙ ap (λ k. take (end - len) l ++ (body ++ drop k l)) (let e : end - len + len ≡ end = omega (arith, room) in e))
    (second ∙ ap (λ k. take (end - len - 16) l1 ++ (head ++ drop k l1)) (let e : end - len - 16 + 16 ≡ end - len = omega (arith, room) in e))
    ∙ ap (λ k. take k l ++ ((head ++ body) ++ drop end l)) (let e : end - len - 16 ≡ end - (len + 16) = omega (arith, room) in e)

-- the same, as the record of a packet with these marks
pub sent_made : (packets : List Captured) (l l1 l2 body : List ℕ) (marks : Marks) (number len end : ℕ) → option_map marks_of (slice_get packets number) ≡ Some marks → length body ≡ len
    → len + 16 ≤ end → end ≤ length l → l1 ≡ take (end - len) l ++ (body ++ drop (end - len + len) l)
    → l2 ≡ take (end - len - 16) l1 ++ (head_of marks len ++ drop (end - len - 16 + 16) l1) → l2 ≡ take (end - (len + 16)) l ++ (sent_in packets (number, body) ++ drop end l)
sent_made packets l l1 l2 body marks number len end found body_len room within first second =
    record_made l l1 l2 (head_of marks len) body len end refl body_len room within first second
    ∙ ap (λ n. take (end - (len + 16)) l ++ ((head_of marks n ++ body) ++ drop end l)) (sym body_len)
    ∙ ap (λ r. take (end - (len + 16)) l ++ (r ++ drop end l)) (sent_is packets number body marks found)
