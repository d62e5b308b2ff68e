use Rattle.std.proofs.Common.{◌≡◌, ℕ, List, length, drop, ap, ◌∙◌, subst, rules}
use Rattle.vg_model.specs.Bytes.{overwritten}
use Rattle.vg_model.specs.Header.{lowered}
use Rattle.vg_model.specs.Visit.{header_fault}
use Rattle.vg_pool.specs.Contents.{Contents}
use Rattle.vg_nodes.proofs.RewriteLemmas.{with_lowered, lowered_in_place}
use Rattle.vg_nodes.proofs.nodes.ip4_rewrite.lower_header.Goals as goal

pub write-requires-clause-sound : goal.write-requires-clause-sound
write-requires-clause-sound c =
    let f : List ℕ = c.args.buffer.now.packet.bytes in
    let w : List ℕ = c.lowered_ttl-lowered.result in
    let four : length w ≡ 4 = search rules in
    let same : overwritten f 22 w ≡ with_lowered f =
    lowered_in_place f w c.requires.passes four (subst (λ h. overwritten h 8 w ≡ lowered h) c.header_of.ensures.header c.lowered_ttl-lowered.ensures) in
    λ _. ap (λ xs. header_fault (drop 14 xs)) same ∙ c.requires.sound

pub returns : goal.returns
returns c =
    let f : List ℕ = c.args.buffer.now.packet.bytes in
    let w : List ℕ = c.lowered_ttl-lowered.result in
    let four : length w ≡ 4 = search rules in
    let same : overwritten f 22 w ≡ with_lowered f =
    lowered_in_place f w c.requires.passes four (subst (λ h. overwritten h 8 w ≡ lowered h) c.header_of.ensures.header c.lowered_ttl-lowered.ensures) in
    let with_bytes : List ℕ → Contents = λ xs. record c.args.buffer.now { packet = record c.args.buffer.now.packet { bytes = xs } } in
    c.write.ensures ∙ ap with_bytes same
