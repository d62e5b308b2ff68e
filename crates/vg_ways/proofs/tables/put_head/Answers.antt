-- For `put_head`: its clause.
use Rattle.std.proofs.Common.{ℕ, List, ◌++◌, decimal, append_assoc}
use Rattle.std.specs.Prelude.{codes, option_map}
use Rattle.std.proofs.lemmas.Result.{on_ok_weaker}
use Rattle.vg_ways.specs.Counts.{last_count}
use Rattle.vg_ways.specs.Events.{event_of, time_of}
use Rattle.vg_ways.specs.Ways.{numbered_if}
use Rattle.vg_ways.proofs.TableLemmas.{four}
use Rattle.vg_ways.proofs.tables.put_head.Goals as goal

pub returns : goal.returns
returns c =
    let script = c.args.stages.now.plan.script in
    let out : List ℕ = c.args.out.now.items in
    let number : List ℕ = codes "generation " ++ decimal c.args.generation in
    let time : List ℕ = codes " time " ++ decimal (time_of script c.args.generation) in
    let line : List ℕ = numbered_if (codes " line ") (option_map (λ event. event.line) (event_of script c.args.generation)) in
    let packets : List ℕ = last_count (codes " packets ") c.args.packets in
    on_ok_weaker c.put_last.result (λ h. cc (
      h,
      c.in_ok-put.ensures,
      c.from.ensures,
      c.in_ok-put_decimal.ensures,
      c.in_ok-put-2.ensures,
      c.time.ensures,
      c.in_ok-put_decimal-2.ensures,
      c.line.ensures,
      c.in_ok-put_line.ensures,
      append_assoc out (codes "generation ") (decimal c.args.generation),
      append_assoc (out ++ number) (codes " time ") (decimal (time_of script c.args.generation)),
      four out number time line packets,
    )) c.put_last.ensures
