use Rattle.std.proofs.Common.{◌≡◌, suc, ◌+◌, ◌++◌, ap, ◌∙◌, arith, append_assoc, take}
use Rattle.std.specs.Prelude.{ℕ, List}
use Rattle.vg_model.specs.Packet.{Packet}
use Rattle.vg_pool.specs.Contents.{begins, part}
use Rattle.vg_pool.proofs.PartLemmas.{parts_more, parts_all}
use Rattle.vg_pool.proofs.buffers.Buffer.copy_pieces.Goals as goal

pub loop-k-init : goal.loop-k-init
loop-k-init c =
    let p : Packet = c.args.self.now.packet in
    let first : take 0 p.bytes ++ part p 0 ≡ take (begins p.room 1) p.bytes = parts_more p c.know_contents.ensures.room 0 in
    (c.append.ensures.items ∙ ap (λ (l : List ℕ). c.args.list.now.items ++ l) (c.piece.ensures ∙ first), c.append.ensures.room)

pub loop-k-preserved : goal.loop-k-preserved
loop-k-preserved c =
    let p : Packet = c.args.self.now.packet in
    let k : ℕ = c.loop-k.k in
    let before : List ℕ = take (begins p.room k) p.bytes in
    let next : suc k ≡ k + 1 = omega arith in
    let items =
    c.append-in-loop-k.ensures.items
    ∙ ap (λ (l : List ℕ). l ++ c.piece-in-loop-k.result.now) c.loop-k.invariant.0
    ∙ ap (λ (l : List ℕ). (c.args.list.now.items ++ before) ++ l) c.piece-in-loop-k.ensures
    ∙ append_assoc c.args.list.now.items before (part p k)
    ∙ ap (λ (l : List ℕ). c.args.list.now.items ++ l) (parts_more p c.know_contents.ensures.room k ∙ ap (λ j. take (begins p.room j) p.bytes) next) in
    (items, omega (arith, c.loop-k.invariant.1, c.append-in-loop-k.ensures.room))

pub returns-clause-bytes : goal.returns-clause-bytes
returns-clause-bytes c =
    let p : Packet = c.args.self.now.packet in
    let all : c.loop-k.k ≡ c.args.self.now.pieces = omega arith in
    c.loop-k.invariant.0
    ∙ ap (λ j. c.args.list.now.items ++ take (begins p.room j) p.bytes) all
    ∙ ap (λ (l : List ℕ). c.args.list.now.items ++ l) (parts_all c.args.self.now c.know_contents.ensures)
