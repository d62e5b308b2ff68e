use Rattle.std.proofs.Common.{◌≡◌, ℕ, List, take, drop, ap, ◌∙◌, arith}
use Rattle.vg_model.specs.Visit.{header_len}
use Rattle.vg_pool.specs.Contents.{head_of}
use Rattle.vg_nodes.proofs.HeadLemmas.{head_long, header_len_head, header_head}
use Rattle.vg_nodes.proofs.heads.header_of.Goals as goal

pub datagram_in-datagram-requires : goal.datagram_in-datagram-requires
datagram_in-datagram-requires c = head_long c.args.buffer.now c.head.ensures.kept c.head.result.now c.head.ensures.head c.requires

pub returns-clause-header : goal.returns-clause-header
returns-clause-header c =
    let b = c.args.buffer.now in
    let kept = c.head.ensures.kept in
    let d : List ℕ = c.datagram_in-datagram.result.now in
    let n : ℕ = header_len (drop 14 b.packet.bytes) in
    let behind : d ≡ drop 14 (head_of b.packet) = c.datagram_in-datagram.ensures ∙ ap (drop 14) c.head.ensures.head in
    let size : c.header_len.result ≡ n = c.header_len.ensures ∙ ap header_len behind ∙ header_len_head b kept in
    ap (λ k. take k d) size ∙ ap (take n) behind ∙ header_head b kept n (omega arith)
