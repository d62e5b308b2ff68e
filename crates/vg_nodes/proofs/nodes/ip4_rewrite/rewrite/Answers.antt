use Rattle.std.proofs.Common.{◌≡◌, length, drop, ap, ◌∙◌, arith}
use Rattle.vg_model.specs.Bytes.{overwritten}
use Rattle.vg_model.specs.Visit.{header_fault}
use Rattle.vg_pool.specs.Contents.{head_of}
use Rattle.vg_nodes.proofs.RewriteLemmas.{IsRewritable, as_long, head_within, with_lowered, both_written, first_passes, both_pass, lowered_passes, rewritten_at_last}
use Rattle.vg_nodes.proofs.nodes.ip4_rewrite.rewrite.Goals as goal

pub write-requires-clause-sound : goal.write-requires-clause-sound
write-requires-clause-sound c =
    let is : IsRewritable c.args.adjacency.now c.args.interface.now c.args.buffer.now.packet =
    record { neighbor = c.requires.neighbor; own = c.requires.own; possible = c.requires.possible; checked = c.requires.checked; alive = c.requires.alive } in
    λ _. first_passes c.args.adjacency.now c.args.interface.now c.args.buffer.now.packet is

pub write-requires-2-clause-sound : goal.write-requires-2-clause-sound
write-requires-2-clause-sound c =
    let is : IsRewritable c.args.adjacency.now c.args.interface.now c.args.buffer.now.packet =
    record { neighbor = c.requires.neighbor; own = c.requires.own; possible = c.requires.possible; checked = c.requires.checked; alive = c.requires.alive } in
    λ _. ap (λ b. header_fault (drop 14 (overwritten b.packet.bytes 6 c.args.interface.now.mac.0))) c.write.ensures
    ∙ both_pass c.args.adjacency.now c.args.interface.now c.args.buffer.now.packet is

pub write-requires-clause-within : goal.write-requires-clause-within
write-requires-clause-within c = let long = c.requires.long in let six = c.requires.neighbor.six in omega (arith, long, six)

pub write-requires-2-clause-within : goal.write-requires-2-clause-within
write-requires-2-clause-within c =
    let p = c.args.buffer.now.packet in
    let long = c.requires.long in
    let six = c.requires.neighbor.six in
    let six2 = c.requires.own.six in
    let within = head_within p in
    let same = as_long p 0 c.args.adjacency.now.mac.0 (omega (arith, six, long, within)) in
    let size : length (head_of c.write.new.self.packet) ≡ length (head_of p) = ap (λ b. length (head_of b.packet)) c.write.ensures ∙ same in
    omega (arith, long, six2, size)

pub lower_header-requires-clause-passes : goal.lower_header-requires-clause-passes
lower_header-requires-clause-passes c =
    let is : IsRewritable c.args.adjacency.now c.args.interface.now c.args.buffer.now.packet =
    record { neighbor = c.requires.neighbor; own = c.requires.own; possible = c.requires.possible; checked = c.requires.checked; alive = c.requires.alive } in
    ap (λ f. header_fault (drop 14 f)) (both_written c.args.adjacency.now c.args.interface.now c.args.buffer.now c.write.new.self c.write-2.new.self c.write.ensures c.write-2.ensures)
    ∙ both_pass c.args.adjacency.now c.args.interface.now c.args.buffer.now.packet is

pub lower_header-requires-clause-sound : goal.lower_header-requires-clause-sound
lower_header-requires-clause-sound c =
    let is : IsRewritable c.args.adjacency.now c.args.interface.now c.args.buffer.now.packet =
    record { neighbor = c.requires.neighbor; own = c.requires.own; possible = c.requires.possible; checked = c.requires.checked; alive = c.requires.alive } in
    ap (λ f. header_fault (drop 14 (with_lowered f))) (both_written c.args.adjacency.now c.args.interface.now c.args.buffer.now c.write.new.self c.write-2.new.self c.write.ensures c.write-2.ensures)
    ∙ lowered_passes c.args.adjacency.now c.args.interface.now c.args.buffer.now.packet is

pub returns : goal.returns
returns c =
    let is : IsRewritable c.args.adjacency.now c.args.interface.now c.args.buffer.now.packet =
    record { neighbor = c.requires.neighbor; own = c.requires.own; possible = c.requires.possible; checked = c.requires.checked; alive = c.requires.alive } in
    rewritten_at_last c.args.adjacency.now c.args.interface.now c.args.buffer.now c.write.new.self c.write-2.new.self c.lower_header.new.buffer is c.write.ensures c.write-2.ensures c.lower_header.ensures
