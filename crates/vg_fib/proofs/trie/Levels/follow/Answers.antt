use Rattle.std.proofs.Common.{◌≡◌, ◌<◌, length, refl, sym, ap, ◌∙◌, subst, arith}
use Rattle.std.proofs.Math.ListN.{length-set}
use Rattle.std.specs.Prelude.{Some, None}
use Rattle.vg_fib.specs.Numbers.{HasPrefix}
use Rattle.vg_fib.proofs.PrefixLemmas.{are4}
use Rattle.vg_fib.proofs.HeirLemmas.{followed_begins, followed_empty, followed_gone, followed_kept, followed_ends}
use Rattle.vg_fib.proofs.NumberLemmas.{slot_is}
use Rattle.vg_fib.proofs.FollowLemmas.{levels_kept}
use Rattle.vg_fib.proofs.trie.Levels.follow.Goals as goal
use Rattle.vg_fib.proofs.trie.Levels.follow.Goals.{in-Some+in-Some-get+then-eq, in-Some+in_default+then-removed-lt-MOST_REMOVED+in_ok-take_out, in_default}

pub loop-place-init : goal.loop-place-init
loop-place-init c =
    record {
      same_length = refl;
      followed = followed_begins c.args.routes.now c.args.slots.now.items;
      has = c.requires.has;
      few = omega arith;
      second
          = omega arith;
      third = omega arith;
    }

pub take_out-requires-clause-few : goal.take_out-requires-clause-few
take_out-requires-clause-few c = omega (arith, c.loop-place.invariant.same_length, c.requires.few)

pub take_out-requires-clause-room : goal.take_out-requires-clause-room
take_out-requires-clause-room c =
    let so = c.loop-place.invariant in
    record {
      second = omega (arith, so.second, c.requires.room.second, c.if-removed-lt-MOST_REMOVED.true);
      third = omega (arith, so.third, c.requires.room.third, c.if-removed-lt-MOST_REMOVED.true);
    }

pub take_out-requires-clause-stands : goal.take_out-requires-clause-stands
take_out-requires-clause-stands c =
    let slots = c.loop-place.slots.items in
    let place = c.loop-place.place in
    let inside : place < length slots = omega (arith, c.loop-place-test.true, c.loop-place.invariant.same_length) in
    record {
      to = c.in-Some.field-0-1;
      is = slot_is slots place c.index.result.now (Some (c.in-Some.prefix, c.in-Some.field-0-1)) inside c.index.ensures c.in-Some.is;
    }

pub take_out-requires-clause-has : goal.take_out-requires-clause-has
take_out-requires-clause-has c = c.loop-place.invariant.has

pub loop-place-preserved : goal.loop-place-preserved
loop-place-preserved c =
    let before = c.loop-place.invariant in
    let routes = c.args.routes.now in
    let known = c.loop-place.known in
    let slots = c.loop-place.slots.items in
    let place = c.loop-place.place in
    let inside : place < length slots = omega (arith, c.loop-place-test.true, before.same_length) in
    elim c.match-index.branch [
      | in-Some+in-Some-get+then-eq w ↦
          let route = w.in-Some-get.route.now in
          let prefix = w.in-Some.prefix in
          let same : route.0 ≡ prefix = are4.one route.0 prefix (sym w.eq.ensures ∙ w.if-eq.true) in
          let read : HasPrefix slots place prefix = record {
            to = w.in-Some.field-0-1;
            is = slot_is slots place c.index.result.now (Some (prefix, w.in-Some.field-0-1)) inside c.index.ensures w.in-Some.is;
          } in
          let stands : HasPrefix slots place route.0 = subst (HasPrefix slots place) (sym same) read in
          rw (w.self-is, w.slots-is, w.known-is, w.removed-is) (record {
            same_length = length-set slots place (Some route) ∙ before.same_length;
            followed = followed_kept routes known slots place route inside w.in-Some-get.ensures.lookup.3.0 w.in-Some-get.ensures.lookup.1 before.followed;
            has = levels_kept slots place route c.loop-place.self stands before.has;
            few = before.few;
            second = before.second;
            third = before.third;
          })
      | in-Some+in_default+then-removed-lt-MOST_REMOVED+in_ok-take_out w ↦
          let gone = w.in_ok-take_out.ensures in
          rw (w.self-is, w.slots-is, w.known-is, w.removed-is) (record {
            same_length = ap length gone.empty ∙ (length-set slots place None ∙ before.same_length);
            followed = followed_gone routes known slots w.take_out.new.slots.items place inside gone.empty before.followed;
            has = gone.has;
            few = omega (arith, w.if-removed-lt-MOST_REMOVED.true);
            second = omega (arith, gone.second, before.second);
            third = omega (arith, gone.third, before.third);
          })
      | in_default w ↦
          let empty = slot_is slots place c.index.result.now None inside c.index.ensures w.in_default.is in
          rw (w.self-is, w.slots-is, w.known-is, w.removed-is) (record {
            same_length = before.same_length;
            followed = followed_empty routes known slots place inside empty before.followed;
            has = before.has;
            few = before.few;
            second = before.second;
            third = before.third;
          })
    ]

pub returns-clause-first : goal.returns-clause-first
returns-clause-first c = followed_ends c.args.routes.now c.loop-place.known c.loop-place.slots.items c.loop-place.place (omega
    (arith, c.loop-place-test.false)) c.loop-place.invariant.followed

pub returns-clause-has : goal.returns-clause-has
returns-clause-has c = c.loop-place.invariant.has
