use Rattle.std.proofs.Common.{◌≡◌, suc, ◌+◌, drop, take, sym, ap, ◌∙◌, below_more, arith}
use Rattle.std.specs.Prelude.{Some}
use Rattle.vg_script.specs.Parts.{is_gap_at}
use Rattle.vg_script.proofs.PartLemmas.{gap_at, gap_nowhere}
use Rattle.vg_script.proofs.address6.gap.Goals as goal

pub loop-place-init : goal.loop-place-init
loop-place-init c = λ k h. absurd (omega (arith, h))

pub returns-then-begins_gap : goal.returns-then-begins_gap
returns-then-begins_gap c = (
  omega arith,
  gap_at c.args.text.now c.loop-place.place (omega arith) (sym c.begins_gap.ensures ∙ c.if-begins_gap.true) c.loop-place.invariant
      ∙ ap (λ n. Some (take c.loop-place.place c.args.text.now, drop n c.args.text.now)) (let same : suc (suc c.loop-place.place) ≡ c.loop-place.place + 2 = omega arith in same),
)

pub loop-place-preserved : goal.loop-place-preserved
loop-place-preserved c = below_more (λ k. is_gap_at c.args.text.now k ≡ _) _ c.loop-place.invariant (sym c.begins_gap.ensures ∙ c.if-begins_gap.false)

pub returns : goal.returns
returns c = gap_nowhere c.args.text.now (λ k less. c.loop-place.invariant k (omega (arith, less)))
