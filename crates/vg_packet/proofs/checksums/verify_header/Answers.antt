use Rattle.std.proofs.Common.{◌≡◌, List, ℕ, ◌+◌, ◌++◌, subst, arith, take-append-drop}
use Rattle.vg_model.specs.Header.{word_sum}
use Rattle.vg_packet.proofs.SumLemmas.{IsAlike, bytes_of_reads, parts_are_alike, verifies_where}
use Rattle.vg_packet.proofs.checksums.verify_header.Goals as goal

pub returns : goal.returns
returns c =
    let h = c.args.header.now in
    let front : List ℕ = c.split_at.result.0.now in
    let behind : List ℕ = c.split_at.result.1.now in
    let whole : front ++ behind ≡ h = cc (c.split_at.ensures.front, c.split_at.ensures.back, take-append-drop 20 h) in
    let sum = c.pair_sum.result + c.from.result in
    verifies_where c.has_all_bits.result h sum (bytes_of_reads h (λ i. omega (arith, c.type_inv.header i)))
    (subst (λ (bytes : List ℕ). IsAlike (word_sum bytes) sum) whole (parts_are_alike front behind sum (omega (arith, c.split_at.ensures.front_len)) (omega (arith, c.pair_sum.ensures.sum, c.word_sum.ensures, c.from.ensures))))
    c.has_all_bits.ensures
