-- For `ends_of`: the loop looks at one packet more, and in the end at all.
use Rattle.std.proofs.Common.{◌≡◌, ◌≤◌, ◌+◌, ◌++◌, ◌∙◌, Bool, ap, sym, subst, length, take, arith}
use Rattle.std.specs.Prelude.{Some, slice_get, option_to_list}
use Rattle.std.proofs.lemmas.List.{take_all}
use Rattle.vg_remarks.specs.declared.found.Found.{Found}
use Rattle.vg_remarks.specs.declared.packets.Unforwarded.{Unforwarded}
use Rattle.vg_remarks.specs.Addresses.{destination}
use Rattle.vg_remarks.specs.Found.{IsFound}
use Rattle.vg_remarks.specs.Packets.{congested, is_congested, said_of, told_below}
use Rattle.vg_remarks.proofs.FoundLemmas.{found_same}
use Rattle.vg_remarks.proofs.PacketLemmas.{counted, not_counted, none_of, nothing_told, told_more}
use Rattle.vg_remarks.proofs.packets.ends_of.Goals as goal
use Rattle.vg_remarks.proofs.packets.ends_of.Goals.{then-is_congested, else-is_congested, then-is_remarkable, else-is_remarkable}

pub loop-number-preserved : goal.loop-number-preserved
loop-number-preserved c =
    let packets = c.args.packets.now in
    let lines = c.args.lines.now in
    let number = c.loop-number.number in
    let inv = c.loop-number.invariant in
    let before = c.loop-number.unforwarded in
    let after = c.if-is_remarkable.unforwarded in
    let all : c.if-is_congested.congested ≡ congested (take (number + 1) lines) = elim c.if-is_congested.branch [
      | then-is_congested w ↦
          w.congested-is
          ∙ (ap (λ n. n + 1) inv.counted ∙ sym (counted is_congested lines number (c.is_congested.ensures ∙ ap (λ (b : Bool). Some b) w.if-is_congested.true)))
      | else-is_congested w ↦
          w.congested-is ∙ (inv.counted ∙ sym (not_counted is_congested lines number (c.is_congested.ensures ∙ ap (λ (b : Bool). Some b) w.if-is_congested.false)))
    ] in
    let few : c.if-is_congested.congested ≤ number + 1 = elim c.if-is_congested.branch [ then-is_congested w ↦ omega arith | else-is_congested w ↦ omega arith ] in
    elim c.if-is_remarkable.branch [
      | then-is_remarkable w ↦ record {
        counted = all;
        few = few;
        found = λ led known.
            let so_far = told_below led packets lines number in
            subst (IsFound (told_below led packets lines (number + 1))) (sym w.unforwarded-is)
            (subst (λ l. IsFound l w.with-unforwarded.result)
            (ap (λ one. so_far ++ option_to_list one) (w.told.ensures led known) ∙ sym (told_more led packets lines number))
            (w.with-unforwarded.ensures.found so_far (inv.found led known)));
        found_few = omega (arith, ap (λ (f : Found Unforwarded). f.count) w.unforwarded-is, inv.found_few, w.with-unforwarded.ensures.count);
      }
      | else-is_remarkable w ↦ record {
        counted = all;
        few = few;
        found = λ led known.
            let so_far = told_below led packets lines number in
            let nothing =
            nothing_told led number (slice_get packets number) (slice_get lines number) c.bytes.result.now c.bytes.ensures
            (none_of (said_of led number (destination c.bytes.result.now)) (sym (c.is_remarkable.ensures led known number) ∙ w.if-is_remarkable.false)) in
            subst (IsFound (told_below led packets lines (number + 1))) (sym w.unforwarded-is)
            (subst (λ l. IsFound l before)
            (ap (λ one. so_far ++ option_to_list one) (sym nothing) ∙ sym (told_more led packets lines number))
            (found_same so_far before (inv.found led known)));
        found_few = omega (arith, ap (λ (f : Found Unforwarded). f.count) w.unforwarded-is, inv.found_few);
      }
    ]

pub returns-clause-congested : goal.returns-clause-congested
returns-clause-congested c = c.loop-number.invariant.counted ∙ ap congested (take_all c.loop-number.number c.args.lines.now (omega arith))

pub returns-clause-unforwarded : goal.returns-clause-unforwarded
returns-clause-unforwarded c = λ led known.
    let all : c.loop-number.number ≡ length c.args.lines.now = omega arith in
    subst (λ n. IsFound (told_below led c.args.packets.now c.args.lines.now n) c.loop-number.unforwarded) all (c.loop-number.invariant.found led known)
