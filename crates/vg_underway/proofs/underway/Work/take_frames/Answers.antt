use Rattle.std.proofs.Common.{◌≡◌, ◌+◌, ◌<◌, ◌^◌, ◌∷◌, [], length, get_or, refl, sym, ap, subst, ◌∙◌, arith}
use Rattle.std.specs.Prelude.{Bool, true, false, vec_len}
use Rattle.std.specs.Bool.{IsTrue}
use Rattle.std.proofs.lemmas.List.{append_cancel_right}
use Rattle.vg_model.specs.PoolBook.{empty_cache}
use Rattle.vg_underway.specs.Queues.{Queue}
use Rattle.vg_underway.specs.Underway.{Setting, stationed}
use Rattle.vg_underway.specs.Taking.{MayTake, MayComeNext, IsWithinLog, IsSmall}
use Rattle.vg_underway.proofs.HandGroupLemmas.{all_at}
use Rattle.vg_underway.proofs.TakingLemmas.{taken_at, tries_nothing, tries_waits, taking_none, taking_pass, taking_more, taking_all, underway_taken}
use Rattle.vg_underway.proofs.underway.Work.take_frames.Goals as goal

not_taken : (b : Bool) → b ≡ false → IsTrue b → ⊥
not_taken b off on = absurd (let k : false ≡ true = sym off ∙ on in cc)

pub places-init : goal.places-init
places-init g c =
    let s : Setting = stationed g.K.KindSet.meaning c.args.fork.now.graph c.args.fork.now.generation c.args.station in
    taking_none s c.args.bounds c.args.tried c.requires.rest.0 c.args.self.now c.args.inputs.now (record { count = 0; bytes = 0 }) c.requires.tried.1 c.requires.rest.1 c.requires.taken refl refl

pub next_frame-requires : goal.next_frame-requires
next_frame-requires g c =
    let inv = c.places.invariant in
    let d : Queue = c.index-inputs-place.result in
    let inside : c.places.place < length c.args.inputs.now = (let test = c.places-test.true in let tried = c.requires.tried.0 in omega (arith, test, tried)) in
    let size = inv.size in
    let here = taken_at c.args.inputs.now c.places.inputs inv.took d (omega (arith, inside, size)) inv.taken in
    let same : get_or c.places.inputs c.places.place d ≡ get_or c.args.inputs.now c.places.place d = ap (λ k. get_or c.places.inputs k d) (sym size) ∙ here ∙ ap (λ k. get_or c.args.inputs.now k d) size in
    let few = all_at (λ (q : Queue). length q.taken < 2 ^ 62) c.args.inputs.now c.places.place d inside c.requires.frames in
    let len = ap (λ (q : Queue). length q.taken) same in
    omega (arith, few, len)

pub places-preserved-in_default : goal.places-preserved-in_default
places-preserved-in_default g c =
    let s : Setting = stationed g.K.KindSet.meaning c.args.fork.now.graph c.args.fork.now.generation c.args.station in
    let inside : c.places.place < length c.args.inputs.now = (let test = c.places-test.true in let tried = c.requires.tried.0 in omega (arith, test, tried)) in
    taking_pass s c.args.bounds c.args.tried c.args.self.now c.args.inputs.now c.places.place c.places.self c.places.inputs c.places.came c.next_frame.new.self c.index-inputs-place.result inside c.next_frame.ensures.ring
    (ap (λ (q : Queue). q.taken) c.in_default.ensures.none.1)
    (tries_nothing (MayComeNext s c.args.bounds (length c.args.self.now.fates.items) (vec_len c.args.self.now.bytes) c.places.came.count c.places.came.bytes) (get_or c.places.inputs c.places.place c.index-inputs-place.result) c.next_frame.new.self
    c.in_default.ensures.none.0 c.in_default.ensures.none.1) c.places.invariant

pub places-preserved-then-not-may_take : goal.places-preserved-then-not-may_take
places-preserved-then-not-may_take g c =
    let s : Setting = stationed g.K.KindSet.meaning c.args.fork.now.graph c.args.fork.now.generation c.args.station in
    let inside : c.places.place < length c.args.inputs.now = (let test = c.places-test.true in let tried = c.requires.tried.0 in omega (arith, test, tried)) in
    taking_pass s c.args.bounds c.args.tried c.args.self.now c.args.inputs.now c.places.place c.places.self c.places.inputs c.places.came c.put_back.new.self c.index-inputs-place.result inside (c.put_back.ensures.ring ∙ c.next_frame.ensures.ring)
    (append_cancel_right c.put_back.new.self.taken (get_or c.places.inputs c.places.place c.index-inputs-place.result).taken (c.in-Some.frame ∷ []) (c.put_back.ensures.taken ∙ ap (λ (q : Queue). q.taken) c.in-Some.ensures.some))
    (tries_waits (MayComeNext s c.args.bounds (length c.args.self.now.fates.items) (vec_len c.args.self.now.bytes) c.places.came.count c.places.came.bytes) (get_or c.places.inputs c.places.place c.index-inputs-place.result) c.put_back.new.self
    c.in-Some.frame c.next_frame.new.self.trail c.put_back.ensures.waits c.put_back.ensures.trail c.in-Some.ensures.comes c.may_take.ensures.kept (λ may. not_taken c.may_take.result c.if-not-may_take.true (c.may_take.ensures.may.1 (may.0, within may.1)))) c.places.invariant
  where
    within : IsWithinLog c.args.bounds c.places.came (length c.args.self.now.fates.items) (vec_len c.args.self.now.bytes) c.in-Some.frame → IsWithinLog c.args.bounds c.places.came c.len-logged.result c.len-kept.result c.in-Some.frame
    within is = subst (λ n. IsWithinLog c.args.bounds c.places.came n c.len-kept.result c.in-Some.frame) (sym c.len-logged.ensures)
        (subst (λ n. IsWithinLog c.args.bounds c.places.came (length c.args.self.now.fates.items) n c.in-Some.frame) (sym c.len-kept.ensures) is)

pub take_frame-requires-clause-underway : goal.take_frame-requires-clause-underway
take_frame-requires-clause-underway g c =
    let s : Setting = stationed g.K.KindSet.meaning c.args.fork.now.graph c.args.fork.now.generation c.args.station in
    let few = c.requires.tried.1 in
    let may : MayTake c.args.fork.now.graph c.args.fork.now.generation c.in-Some.frame = (c.may_take.ensures.may.0 c.if-not-may_take.false).0 in
    let within : IsWithinLog c.args.bounds c.places.came (length c.args.self.now.fates.items) (vec_len c.args.self.now.bytes) c.in-Some.frame =
    subst (λ n. IsWithinLog c.args.bounds c.places.came n (vec_len c.args.self.now.bytes) c.in-Some.frame) c.len-logged.ensures
    (subst (λ n. IsWithinLog c.args.bounds c.places.came c.len-logged.result n c.in-Some.frame) c.len-kept.ensures (c.may_take.ensures.may.0 c.if-not-may_take.false).1) in
    let small : IsSmall c.args.tried empty_cache = record { len = omega (arith, few); allocated = omega arith; freed = omega arith } in (
      empty_cache,
      underway_taken s c.args.bounds c.args.tried c.requires.rest.0 c.args.self.now c.args.inputs.now c.places.place c.places.self c.places.inputs c.places.came c.in-Some.frame empty_cache few c.places-test.true c.requires.rest.1 may.kept within small c.places.invariant,
    )

pub places-preserved : goal.places-preserved
places-preserved g c =
    let s : Setting = stationed g.K.KindSet.meaning c.args.fork.now.graph c.args.fork.now.generation c.args.station in
    let inside : c.places.place < length c.args.inputs.now = (let test = c.places-test.true in let tried = c.requires.tried.0 in omega (arith, test, tried)) in
    let may : MayTake c.args.fork.now.graph c.args.fork.now.generation c.in-Some.frame = (c.may_take.ensures.may.0 c.if-not-may_take.false).0 in
    let within : IsWithinLog c.args.bounds c.places.came (length c.args.self.now.fates.items) (vec_len c.args.self.now.bytes) c.in-Some.frame =
    subst (λ n. IsWithinLog c.args.bounds c.places.came n (vec_len c.args.self.now.bytes) c.in-Some.frame) c.len-logged.ensures
    (subst (λ n. IsWithinLog c.args.bounds c.places.came c.len-logged.result n c.in-Some.frame) c.len-kept.ensures (c.may_take.ensures.may.0 c.if-not-may_take.false).1) in
    taking_more s c.args.bounds c.args.tried c.args.self.now c.args.inputs.now c.places.place c.places.self c.take_frame.new.self c.places.inputs c.places.came
    (record { count = c.places.came.count + c.count_packets.result; bytes = c.places.came.bytes + c.count_bytes.result }) c.next_frame.new.self c.index-inputs-place.result c.in-Some.frame inside c.next_frame.ensures.ring
    (ap (λ (q : Queue). q.taken) c.in-Some.ensures.some) may within (ap (λ n. c.places.came.count + n) c.count_packets.ensures.count) (ap (λ n. c.places.came.bytes + n) c.count_bytes.ensures)
    c.in-Some.ensures.comes (ap (λ (q : Queue). q.waits) c.in-Some.ensures.some) c.places.invariant
    (λ cache small. c.take_frame.ensures.taken cache
    (underway_taken s c.args.bounds c.args.tried c.requires.rest.0 c.args.self.now c.args.inputs.now c.places.place c.places.self c.places.inputs c.places.came c.in-Some.frame cache c.requires.tried.1 c.places-test.true c.requires.rest.1 may.kept within small c.places.invariant))

pub returns : goal.returns
returns g c =
    let s : Setting = stationed g.K.KindSet.meaning c.args.fork.now.graph c.args.fork.now.generation c.args.station in
    taking_all s c.args.bounds c.args.tried c.args.self.now c.args.inputs.now c.places.place c.places.self c.places.inputs c.places.came (omega arith) c.places.invariant
