-- For `put_in_place`: the next place has the entry of its number, or is filled with it, and in the end each has.
use Rattle.std.proofs.Common.{arith}
use Rattle.std.proofs.lemmas.List.Sorted.{IsPermutation-trans}
use Rattle.vg_fates.specs.declared.logs.LogEntry.{LogEntry}
use Rattle.vg_fates.specs.Logs.{fate_in}
use Rattle.vg_fates.proofs.LogLemmas.{in_place_rise}
use Rattle.vg_fates.proofs.HeldLemmas.{kept_in_place, one_more_in_place}
use Rattle.vg_fates.proofs.logs.put_in_place.Goals as goal

pub loop-place-preserved : goal.loop-place-preserved
loop-place-preserved c =
    let number = λ (entry : LogEntry). (fate_in c.args.others.now entry).number in
    record {
      same = IsPermutation-trans _ _ _ c.loop-place.invariant.same c.fill_place.ensures.same;
      in_place = one_more_in_place number c.loop-place.place _ (kept_in_place number c.loop-place.place _ _ c.loop-place.invariant.in_place c.fill_place.ensures.front) c.if-not-fill_place.ensures.there;
    }

pub returns-then-not-fill_place-clause-same : goal.returns-then-not-fill_place-clause-same
returns-then-not-fill_place-clause-same c = IsPermutation-trans _ _ _ c.loop-place.invariant.same c.fill_place.ensures.same

pub returns-clause-rising : goal.returns-clause-rising
returns-clause-rising c =
    let number = λ (entry : LogEntry). (fate_in c.args.others.now entry).number in
    in_place_rise number c.loop-place.place c.loop-place.entries c.loop-place.invariant.in_place (omega arith)
