-- For the clauses of `is_one_flow`: hashes that differ are those of flows that do.
use Rattle.std.proofs.Common.{refl, sym, ap, ◌∙◌, arith}
use Rattle.vg_diff.specs.Orders.{flow_of}
use Rattle.vg_diff.proofs.OrderLemmas.{apart, together}
use Rattle.vg_diff.proofs.orders.is_one_flow.Goals as goal
use Rattle.vg_diff.proofs.orders.is_one_flow.Goals.{then-one-other-via-then-one-other, then-one-other-via-else-one-other+then-one-other-2}

pub returns-then-one-other-clause-value : goal.returns-then-one-other-clause-value
returns-then-one-other-clause-value c =
    apart c.args.frames.now c.args.one.now c.args.other.now c.requires.one c.requires.other
    (elim c.then-one-other.branch [ then-one-other-via-then-one-other w ↦ (λ file hash. omega arith) | then-one-other-via-else-one-other+then-one-other-2 w ↦ (λ file hash. omega arith) ])

pub returns-then-have_one_flow-clause-value : goal.returns-then-have_one_flow-clause-value
returns-then-have_one_flow-clause-value c =
    together c.args.frames.now c.args.one.now c.args.other.now (omega arith)
    (sym (ap flow_of c.frame_at.ensures) ∙ (c.if-have_one_flow.ensures refl) ∙ ap flow_of c.frame_at-2.ensures)

pub returns-then-have_one_flow-clause-told : goal.returns-then-have_one_flow-clause-told
returns-then-have_one_flow-clause-told c = λ file hash.
    sym (ap flow_of c.frame_at.ensures) ∙ (c.if-have_one_flow.ensures refl) ∙ ap flow_of c.frame_at-2.ensures
