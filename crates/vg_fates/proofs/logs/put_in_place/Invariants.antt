-- For `put_in_place`: they are those that there were, and each in front of the next place stands at the place of its number.
use Rattle.std.specs.List.Sorted.{IsPermutation}
use Rattle.vg_fates.specs.declared.logs.LogEntry.{LogEntry}
use Rattle.vg_fates.specs.Logs.{fate_in}
use Rattle.vg_fates.proofs.LogLemmas.{AreInPlace}
use Rattle.vg_fates.proofs.logs.put_in_place.Given as goal

abbrev pub invariant-loop-place : goal.invariant-loop-place
invariant-loop-place l = record {
  same : IsPermutation l.fn.entries l.entries;
  in_place : AreInPlace (λ (entry : LogEntry). (fate_in l.others entry).number) l.place l.entries;
}
