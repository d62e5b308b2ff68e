use Rattle.std.proofs.Common.{◌≡◌, ℕ, ◌-◌, List, length, take, drop, sym, ap, ◌∙◌, arith, length-drop}
use Rattle.vg_model.specs.Visit.{fault_within}
use Rattle.vg_nodes.proofs.HeadLemmas.{head_room, short_fault, datagram_head, fault_of_first}
use Rattle.vg_nodes.proofs.RewriteLemmas.{head_within}
use Rattle.vg_nodes.proofs.heads.fault_of.Goals as goal

pub returns-then-head-lt-ETHERNET_LEN : goal.returns-then-head-lt-ETHERNET_LEN
returns-then-head-lt-ETHERNET_LEN c =
    short_fault c.args.buffer.now c.head-head.ensures.kept c.head-head.result.now c.head-head.ensures.head (omega arith)

pub overflow_sub-len : goal.overflow_sub-len
overflow_sub-len c =
    let size = ap length c.head-head.ensures.head in
    let within = head_within c.args.buffer.now.packet in
    omega (arith, size, within, c.len.ensures)

pub header_fault-requires : goal.header_fault-requires
header_fault-requires c =
    let size : length c.datagram_in.result.now ≡ length c.head-head.result.now - 14 = ap length c.datagram_in.ensures ∙ length-drop 14 c.head-head.result.now in
    omega (arith, size, c.head-head.ensures.long, c.len.ensures)

pub returns : goal.returns
returns c =
    let b = c.args.buffer.now in
    let kept = c.head-head.ensures.kept in
    let big = head_room b kept in
    let m : ℕ = 2112 - b.packet.room - 14 in
    let d : List ℕ = drop 14 b.packet.bytes in
    let behind : c.datagram_in.result.now ≡ take m d = c.datagram_in.ensures ∙ ap (drop 14) c.head-head.ensures.head ∙ datagram_head b kept in
    let size : c.len.result - 14 ≡ length d = ap (λ n. n - 14) c.len.ensures ∙ sym (length-drop 14 b.packet.bytes) in
    c.header_fault.ensures ∙ ap (λ (h : List ℕ). fault_within h (c.len.result - 14)) behind ∙ ap (fault_within (take m d)) size
    ∙ fault_of_first m d (omega (arith, big))
