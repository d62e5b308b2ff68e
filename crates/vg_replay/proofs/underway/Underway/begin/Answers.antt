use Rattle.std.proofs.Common.{◌≡◌, ◌+◌, ◌<◌, ◌≤◌, ◌++◌, ◌∷◌, [], length, refl, sym, ap, subst, ◌∙◌, arith}
use Rattle.std.proofs.lemmas.Bool.{false≢true}
use Rattle.std.proofs.lemmas.List.{length-replicate, length-set, length_push}
use Rattle.vg_model.specs.Lawful.{StartsAt}
use Rattle.vg_plan.specs.Plan.{first_generation}
use Rattle.vg_report.specs.Seen.{line_seen}
use Rattle.vg_replay.specs.Replays.{task_of}
use Rattle.vg_replay.specs.Trips.{begun}
use Rattle.vg_replay.proofs.BeginLemmas.{first_there, first_below, ends_at_fault, ends_behind_all}
use Rattle.vg_replay.proofs.CourseLemmas.{generations}
use Rattle.vg_replay.proofs.InputLemmas.{with_legs, choice_at, bytes_at, leg_generation, many_generations, task_long}
use Rattle.vg_replay.proofs.TimeLemmas.{book_long}
use Rattle.vg_replay.proofs.UnderwayLemmas.{none_underway, one_underway}
use Rattle.vg_replay.proofs.underway.Underway.begin.Goals as goal

pub packets-init : goal.packets-init
packets-init c = record {
  way = λ visit. none_underway (task_of visit c.args.input.now) c.args.input.now.traced c.args.self.now c.requires.new;
  size = ap length c.requires.new.schedule ∙ length-replicate (length c.args.input.now.plan.now.graphs) [];
  stuck = c.requires.new.stuck;
  count = ap length c.requires.new.trips;
}

pub returns-then-not-starts_at : goal.returns-then-not-starts_at
returns-then-not-starts_at c =
    let input = c.args.input.now in
    let legs = c.as_slice-legs.result.now in
    let long = book_long c.args.input.now.plan.now c.args.input.now.capture.now c.args.book.now c.requires.book in
    let count = c.count-number-end.ensures in
    let within : c.packets.number < length c.args.input.now.capture.now.packets = omega (arith, count) in
    λ visit.
    ends_at_fault (task_of visit c.args.input.now) c.args.input.now.traced c.packets.number c.packets.self (c.packets.invariant.way visit) c.packets.invariant.stuck
    (with_legs c.as_slice-legs.result.now c.get-line.result.congested) (let all = task_long visit c.args.input.now in omega (arith, within, all))
    (choice_at c.args.input.now.lines.now c.packets.number (line_seen c.get-line.result) c.as_slice-legs.result.now c.get-line.ensures c.as_slice-legs.ensures.legs)
    (λ in_time. false≢true (sym c.if-not-starts_at.true ∙ c.starts_at.ensures.1 (subst (λ n. StartsAt n (first_generation c.args.input.now.plan.now.script c.args.input.now.capture.now c.packets.number) (generations c.as_slice-legs.result.now)) (sym long) in_time)))

pub put-requires : goal.put-requires
put-requires c =
    let starts = c.starts_at.ensures.0 c.if-not-starts_at.false in
    let first = first_generation c.args.input.now.plan.now.script c.args.input.now.capture.now c.packets.number in
    let there : 0 < length c.as_slice-legs.result.now = first_there (length c.args.book.now) first c.as_slice-legs.result.now starts in
    let below = first_below (length c.args.book.now) first c.as_slice-legs.result.now _ starts (leg_generation c.as_slice-legs.result.now 0 (record { worker = 0; generation = 0 }) there) in
    let long = book_long c.args.input.now.plan.now c.args.input.now.capture.now c.args.book.now c.requires.book in
    let size = c.packets.invariant.size in
    omega (arith, below, long, size)

pub packets-preserved : goal.packets-preserved
packets-preserved c =
    let starts = c.starts_at.ensures.0 c.if-not-starts_at.false in
    let first = first_generation c.args.input.now.plan.now.script c.args.input.now.capture.now c.packets.number in
    let there : 0 < length c.as_slice-legs.result.now = first_there (length c.args.book.now) first c.as_slice-legs.result.now starts in
    let long = book_long c.args.input.now.plan.now c.args.input.now.capture.now c.args.book.now c.requires.book in
    let number_within = c.count-number-end.ensures in
    let within : c.packets.number < length c.args.input.now.capture.now.packets = omega (arith, number_within) in
    let few = c.as_slice-legs.ensures.few in
    let many = many_generations c.as_slice-legs.result.now in
    let trips : c.begin.new.self ≡ c.packets.self.trips ++ begun c.packets.number ∷ [] = c.in_ok-begin.ensures in
    record {
      way = λ visit.
          one_underway (task_of visit c.args.input.now) c.args.input.now.traced c.packets.number _ c.bytes.result.now (with_legs c.as_slice-legs.result.now c.get-line.result.congested) c.packets.self _
          (c.packets.invariant.way visit) c.packets.invariant.stuck c.packets.invariant.count (let all = task_long visit c.args.input.now in omega (arith, within, all))
          (record {
            is_bytes = bytes_at c.args.input.now.capture.now.packets c.packets.number c.bytes.result.now c.bytes.ensures;
            is_choice = choice_at c.args.input.now.lines.now c.packets.number (line_seen c.get-line.result) c.as_slice-legs.result.now c.get-line.ensures c.as_slice-legs.ensures.legs;
          })
          (subst (λ n. StartsAt n (first_generation c.args.input.now.plan.now.script c.args.input.now.capture.now c.packets.number) (generations c.as_slice-legs.result.now)) long starts)
          c.know_bytes.ensures (omega (arith, few, many)) (leg_generation c.as_slice-legs.result.now 0 (record { worker = 0; generation = 0 }) there) c.in_ok-put.ensures trips refl refl;
      size = ap length c.in_ok-put.ensures ∙ length-set c.packets.self.schedule _ _ ∙ c.packets.invariant.size;
      stuck = refl;
      count = ap length trips ∙ length_push c.packets.self.trips (begun c.packets.number) ∙ ap (λ n. n + 1) c.packets.invariant.count;
    }

pub returns : goal.returns
returns c =
    let count = c.count-number-end.ensures in
    let behind : length c.args.input.now.capture.now.packets ≤ c.packets.number = omega (arith, count) in
    λ visit.
    ends_behind_all (task_of visit c.args.input.now) c.args.input.now.traced c.packets.number c.packets.self (c.packets.invariant.way visit) c.packets.invariant.stuck
    (let all = task_long visit c.args.input.now in omega (arith, behind, all))
