use Rattle.std.proofs.Common.{ℕ, List, take, drop, ap, ◌∙◌}
use Rattle.vg_model.specs.Bytes.{overwritten}
use Rattle.vg_model.specs.Header.{lowered}
use Rattle.vg_model.specs.Visit.{header_len}
use Rattle.vg_packet.proofs.HeaderLemmas.{lowerable_part, with_header, address_len, address_len_behind}
use Rattle.vg_packet.proofs.headers.rewrite.Goals as goal

pub lower_ttl-requires-clause-verified : goal.lower_ttl-requires-clause-verified
lower_ttl-requires-clause-verified c =
    (lowerable_part c.args.frame.now _ _ _ c.requires.sound c.copy_from_slice.ensures.len c.copy_from_slice-2.ensures.len (c.header_len-header.ensures ∙ ap header_len c.datagram.ensures)).verified

pub lower_ttl-requires-clause-versioned : goal.lower_ttl-requires-clause-versioned
lower_ttl-requires-clause-versioned c =
    (lowerable_part c.args.frame.now _ _ _ c.requires.sound c.copy_from_slice.ensures.len c.copy_from_slice-2.ensures.len (c.header_len-header.ensures ∙ ap header_len c.datagram.ensures)).versioned

pub lower_ttl-requires-clause-alive : goal.lower_ttl-requires-clause-alive
lower_ttl-requires-clause-alive c =
    (lowerable_part c.args.frame.now _ _ _ c.requires.sound c.copy_from_slice.ensures.len c.copy_from_slice-2.ensures.len (c.header_len-header.ensures ∙ ap header_len c.datagram.ensures)).alive

pub returns : goal.returns
returns c =
    let f : List ℕ = c.args.frame.now in
    let to : List ℕ = c.copy_from_slice.new.self in
    let six = address_len f to c.requires.sound c.copy_from_slice.ensures.len in
    let six2 = address_len_behind f to c.copy_from_slice-2.new.self c.requires.sound c.copy_from_slice.ensures.len c.copy_from_slice-2.ensures.len in
    with_header f to c.copy_from_slice-2.new.self c.lower_ttl.new.header c.header_len-header.result six six2
    c.requires.sound (c.header_len-header.ensures ∙ ap header_len c.datagram.ensures) c.lower_ttl.ensures
    ∙ ap (λ a. overwritten (overwritten (overwritten f 0 a) 6 c.copy_from_slice-2.new.self) 14 (lowered (take (header_len (drop 14 f)) (drop 14 f)))) c.copy_from_slice.ensures.after
    ∙ ap (λ m. overwritten (overwritten (overwritten f 0 c.args.adjacency.now.mac.0) 6 m) 14 (lowered (take (header_len (drop 14 f)) (drop 14 f)))) c.copy_from_slice-2.ensures.after
