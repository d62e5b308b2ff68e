use Rattle.std.proofs.Common.{◌<◌, ℕ, List, length, map, arith}
use Rattle.std.proofs.lemmas.List.{length-map}
use Rattle.vg_workers.proofs.OrderLemmas.{none_in_order, one_more_in_order, all_in_order, number_there}
use Rattle.vg_workers.proofs.gather.are_sent_in_order.Goals as goal

pub loop-k-init : goal.loop-k-init
loop-k-init c = none_in_order (map (λ (packet : ℕ × List ℕ). packet.0) c.args.sent.now) 0

pub loop-k-preserved : goal.loop-k-preserved
loop-k-preserved c =
    let inside : c.loop-k.k < length c.args.sent.now = omega (arith, c.loop-k-test.true, c.len-k-end.ensures) in
    one_more_in_order (map (λ (packet : ℕ × List ℕ). packet.0) c.args.sent.now) c.loop-k.k c.loop-k.least c.get-number.result.0 c.loop-k.invariant
    (number_there c.args.sent.now c.loop-k.k c.get-number.result.0 c.get-number.result.1.now inside c.get-number.ensures) (omega arith)

pub returns : goal.returns
returns c =
    let size = length-map c.args.sent.now (λ (packet : ℕ × List ℕ). packet.0) in
    all_in_order (map (λ (packet : ℕ × List ℕ). packet.0) c.args.sent.now) c.loop-k.k c.loop-k.least c.loop-k.invariant (omega (arith, size, c.len-k-end.ensures))
