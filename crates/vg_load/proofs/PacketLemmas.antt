-- For the clauses of `ones_complement_sum` and `load_capture`: sums of headers from a place on, and packets one more.
use Rattle.std.proofs.Common.{◌≡◌, ◌∙◌, ℕ, suc, ◌+◌, ◌-◌, ◌*◌, ◌<◌, ◌≤◌, refl, sym, ap, ap₂, arith, List, [], ◌∷◌, ◌++◌, length, drop, get_or, drop-cons, add-one, append_assoc, append-nil}
use Rattle.std.specs.Prelude.{slice_index}
use Rattle.vg_model.specs.Header.{header_sum, ones_sum}
use Rattle.rand_xoshiro.specs.SplitMix64.{mix_u64}
use Rattle.vg_capture.specs.declared.captures.Captured.{Captured}
use Rattle.vg_load.specs.Packets.{load_packet, packets_from}

-- the sum from a place on is that of its word and of what stands behind it
pub sum_from : (header : List ℕ) (at : ℕ) → at + 1 < length header
    → header_sum (drop at header) ≡ ones_sum (256 * slice_index header at + slice_index header (at + 1)) (header_sum (drop (at + 2) header))
sum_from header at below =
    let first : drop at header ≡ slice_index header at ∷ drop (suc at) header = drop-cons header at 0 (omega arith) in
    let second : drop (suc at) header ≡ slice_index header (suc at) ∷ drop (suc (suc at)) header = drop-cons header (suc at) 0 (omega arith) in
    let both : drop at header ≡ slice_index header at ∷ slice_index header (suc at) ∷ drop (suc (suc at)) header =
    first ∙ ap (λ l. slice_index header at ∷ l) second in
    let one : suc at ≡ at + 1 = omega arith in
    let two : suc (suc at) ≡ at + 2 = omega arith in
    ap header_sum both
    ∙ ap₂ (λ (i j : ℕ). ones_sum (256 * slice_index header at + slice_index header i) (header_sum (drop j header))) one two

-- the packets from a number on are that packet and those behind it
pub next_packet : (total number state : ℕ) → number < total
    → packets_from (total - number) number state ≡ load_packet number (mix_u64 state).0 ∷ packets_from (total - (number + 1)) (number + 1) (mix_u64 state).1
unfolding packets_from
next_packet total number state below =
    let left : total - number ≡ suc (total - (number + 1)) = omega arith in
    let next : suc number ≡ number + 1 = omega arith in
    ap (λ n. packets_from n number state) left
    ∙ ap (λ n. load_packet number (mix_u64 state).0 ∷ packets_from (total - (number + 1)) n (mix_u64 state).1) next

-- one packet more was made
pub made_more : (made : List Captured) (total number state : ℕ) (packet : Captured) (after : ℕ) → number < total → packet ≡ load_packet number (mix_u64 state).0
    → after ≡ (mix_u64 state).1
    → (made ++ packet ∷ []) ++ packets_from (total - (number + 1)) (number + 1) after ≡ made ++ packets_from (total - number) number state
made_more made total number state packet after below is then =
    append_assoc made (packet ∷ []) (packets_from (total - (number + 1)) (number + 1) after)
    ∙ ap₂ (λ (p : Captured) (s : ℕ). made ++ p ∷ packets_from (total - (number + 1)) (number + 1) s) is then
    ∙ sym (ap (λ l. made ++ l) (next_packet total number state below))

-- no packet is left
pub no_packet : (number state : ℕ) → packets_from 0 number state ≡ []
unfolding packets_from
no_packet number state = refl
