-- For `ways`: its loop, its clause.
use Rattle.std.proofs.Common.{◌≡◌, ℕ, ◌+◌, ◌<◌, List, [], ◌++◌, length, refl, sym, ap, subst, ◌∙◌, arith, append-nil}
use Rattle.std.specs.Prelude.{if◌then◌else◌}
use Rattle.vg_plan.specs.Plan.{Planned}
use Rattle.vg_ways.specs.declared.telling.Place.{Place}
use Rattle.vg_ways.specs.Stories.{IsStory}
use Rattle.vg_ways.specs.Ways.{way_text}
use Rattle.vg_why.specs.declared.ways.Room.{Room}
use Rattle.vg_why.specs.Asked.{Asked, asked_shown, is_asked}
use Rattle.vg_why.specs.Filters.{meets}
use Rattle.vg_why.specs.Journeys.{Gone, IsGone}
use Rattle.vg_why.specs.Printed.{AreWays, IsWayWhere}
use Rattle.vg_why.specs.Trips.{gone_of}
use Rattle.vg_why.proofs.MarkLemmas.{mark_read}
use Rattle.vg_why.proofs.WayLemmas.{IsPlaced, IsNext, index_more, way_is, ways_more}
use Rattle.vg_why.proofs.ways.ways.Goals as goal
use Rattle.vg_why.proofs.ways.ways.Goals.{then-index+in_ok-put_where, else-index, then-is_sent, else-is_sent}

pub loop-number-init : goal.loop-number-init
loop-number-init g c = record {
  plan = c.in_ok-new.ensures.plan;
  first = c.new-clock.ensures.first;
  latest = c.new-clock.ensures.latest;
  few = omega arith;
  text = λ js are. record { ways = c.new.ensures.items; index_is = refl };
}

pub loop-number-preserved : goal.loop-number-preserved
loop-number-preserved g c =
    let visit = g.K.KindSet.meaning in
    let input = c.args.input.now in
    let names = c.args.names.now in
    let asked : Asked = asked_shown c.args.asked.now in
    let number = c.loop-number.number in
    let index = c.loop-number.index in
    let went = c.went_of-went.result in
    let place : Place = record { time = c.time-time.result; index = index } in
    let counted : c.if-is_sent.index ≡ index + (if c.is_sent.result then 1 else 0) =
    elim c.if-is_sent.branch [
      | then-is_sent w ↦ w.index-is ∙ ap (λ b. index + (if b then 1 else 0)) (sym w.if-is_sent.true)
      | else-is_sent w ↦ w.index-is ∙ (let none : index ≡ index + 0 = omega arith in none) ∙ ap (λ b. index + (if b then 1 else 0)) (sym w.if-is_sent.false)
    ] in
    let below : number < length c.args.trips.now = (let count = c.len-number-end.ensures in let test = c.loop-number-test.true in omega (arith, count, test)) in
    let marked : is_asked asked number ≡ c.index.result.now =
    mark_read c.in_ok-marks.ensures (let count = c.len.ensures in omega (arith, below, count)) c.index.ensures in
    record {
      plan = elim c.if-index.branch [
        | then-index+in_ok-put_where w ↦ ap (λ (room : Room). room.stages.plan) w.room-is ∙ w.in_ok-put_where.ensures.plan ∙ c.loop-number.invariant.plan
        | else-index w ↦ ap (λ (room : Room). room.stages.plan) w.room-is ∙ c.loop-number.invariant.plan
      ];
      first = c.time-time.ensures.first ∙ c.loop-number.invariant.first;
      latest = c.time-time.ensures.latest;
      few = grind (arith, c.loop-number.invariant.few);
      text = λ js are.
          let gone : Gone = gone_of visit input js in
          let is : IsGone gone number went = c.went_of-went.ensures.gone visit js are in
          let so_far = c.loop-number.invariant.text js are in
          let placed : IsPlaced gone number went place = record { is = is; place_is = λ i. record { time = c.time-time.ensures.time i; index = so_far.index_is i } } in
          let next : IsNext gone names asked number c.loop-number.room.out.items c.if-index.room.out.items =
          elim c.if-index.branch [
            | then-index+in_ok-put_where w ↦
                let put = w.in_ok-put_where.ensures.way in
                let way : Planned → List ℕ = λ plan. if meets names asked went.end put.0 then way_text plan.script names place went put.0 else [] in
                let story : IsStory visit input.plan.now input.workers went put.0 = subst (λ (plan : Planned). IsStory visit plan input.workers went put.0) c.loop-number.invariant.plan put.1 in
                record {
                  way = way input.plan.now;
                  is_way = subst (λ b. IsWayWhere gone names asked number b (way input.plan.now)) (sym (marked ∙ w.if-index.true)) (way_is input names asked put.0 placed story);
                  after_is = ap (λ (room : Room). room.out.items) w.room-is ∙ put.2 ∙ ap (λ plan. c.loop-number.room.out.items ++ way plan) c.loop-number.invariant.plan;
                }
            | else-index w ↦ record {
              way = [];
              is_way = subst (λ b. IsWayWhere gone names asked number b []) (sym (marked ∙ w.if-index.false)) refl;
              after_is = ap (λ (room : Room). room.out.items) w.room-is ∙ sym (append-nil c.loop-number.room.out.items);
            }
          ] in
          record { ways = ways_more so_far.ways next; index_is = index_more is so_far.index_is c.is_sent.ensures counted };
    }

pub returns : goal.returns
returns g c = λ js are.
    let all : c.loop-number.number ≡ length c.args.trips.now =
    (let most = c.loop-number.auto.number-end in let least = c.loop-number-test.false in let count = c.len-number-end.ensures in omega (arith, most, least, count)) in
    subst (λ n. AreWays (gone_of g.K.KindSet.meaning c.args.input.now js) c.args.names.now (asked_shown c.args.asked.now) n c.loop-number.room.out.items) all
    (c.loop-number.invariant.text js are).ways
