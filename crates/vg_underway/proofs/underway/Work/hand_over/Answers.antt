use Rattle.std.proofs.Common.{◌≡◌, ◌+◌, ◌++◌, ◌∷◌, [], ℕ, List, length, map, refl, sym, ap, subst, ◌∙◌, arith, append_assoc, length-append}
use Rattle.std.specs.List.{AllByRecursion}
use Rattle.std.proofs.lemmas.List.{append-nil}
use Rattle.vg_model.specs.PoolBook.{CacheBook}
use Rattle.vg_pool.specs.Contents.{Contents}
use Rattle.vg_hands.specs.Handed.{IsHanded, IsHandFrame}
use Rattle.vg_underway.specs.Underway.{Setting, stationed}
use Rattle.vg_underway.specs.Works.{IsSteady}
use Rattle.vg_steps.specs.Trails.{found}
use Rattle.vg_steps.specs.declared.notes.Found.{Found}
use Rattle.vg_ring.specs.Ends.{tx_trail}
use Rattle.vg_ring.specs.WordPlaces.{tail_word}
use Rattle.vg_journeys.specs.Accounts.{HandoffFrame}
use Rattle.vg_underway.specs.declared.underway.Work.{Work}
use Rattle.vg_underway.specs.Works.{TakesAll}
use Rattle.std.proofs.lemmas.List.Sums.{sum_by-append, sum_by-cons}
use Rattle.vg_underway.specs.Hands.{HasFewLegs, handed_to, refusal, all_chains}
use Rattle.vg_underway.specs.Outlets.{outlet_of, most_in_round, Accepted, CameBack}
use Rattle.vg_underway.proofs.PushLemmas.{refused_log}
use Rattle.vg_underway.proofs.HandAllLemmas.{IsLifting, Lifts, RefusesAll, refuses_more, lifting_none, lifting_live, lifting_more, lifting_all, handed_accepted, handed_refused, can_refuse, one_more, none_more}
use Rattle.vg_underway.proofs.underway.Work.hand_over.Goals as goal

pub lifted-init : goal.lifted-init
lifted-init g c =
    let s : Setting = stationed g.K.KindSet.meaning c.args.fork.now.graph c.args.fork.now.generation c.args.station in
    let all : IsLifting s c.args.node c.args.to c.args.self.now c.as_slice-index-items.result.now 0 [] c.args.self.now =
    lifting_none s c.args.node c.args.to c.args.self.now c.as_slice-index-items.result.now (subst (AllByRecursion (HasFewLegs c.args.self.now.memory)) (sym c.as_slice-index-items.ensures.indexes) c.requires.few) in
    subst (λ cs. IsLifting s c.args.node c.args.to c.args.self.now c.as_slice-index-items.result.now 0 cs c.args.self.now) (sym c.new-packets.ensures) all

pub lift-requires : goal.lift-requires
lift-requires g c =
    let s : Setting = stationed g.K.KindSet.meaning c.args.fork.now.graph c.args.fork.now.generation c.args.station in
    lifting_live s c.args.node c.args.to c.args.self.now c.as_slice-index-items.result.now c.lifted.index-index c.lifted.packets c.lifted.self _ c.requires.hand.0 c.lifted-test.true refl c.lifted.invariant
    (subst (λ js. IsSteady s c.args.node c.args.self.now (handed_to c.args.to js ++ c.requires.hand.0)) (sym c.as_slice-index-items.ensures.indexes) c.requires.hand.1)

pub push-requires : goal.push-requires
push-requires g c = let size = c.lifted.invariant.size in let inside = c.lifted-test.true in let few = c.as_slice-index-items.ensures.few in omega (arith, size, inside, few)

pub lifted-preserved : goal.lifted-preserved
lifted-preserved g c =
    let s : Setting = stationed g.K.KindSet.meaning c.args.fork.now.graph c.args.fork.now.generation c.args.station in
    lifting_more s c.args.node c.args.to c.args.self.now c.as_slice-index-items.result.now c.lifted.index-index c.lifted.packets c.lifted.self _ c.lift.result c.lift.new.self c.push.new.self c.requires.hand.0 c.requires.other.0 c.requires.other.1
    c.lifted-test.true refl c.lifted.invariant
    (subst (λ js. IsSteady s c.args.node c.args.self.now (handed_to c.args.to js ++ c.requires.hand.0)) (sym c.as_slice-index-items.ensures.indexes) c.requires.hand.1)
    c.lift.ensures.buffer c.lift.ensures.lifted c.lift.ensures.count c.push.ensures

pub new-frame-requires : goal.new-frame-requires
new-frame-requires g c =
    let size = c.lifted.invariant.size in
    let past = c.lifted-test.false in
    let items = ap length c.as_slice-index-items.ensures.indexes in
    let few = c.as_slice-index-items.ensures.few in
    let end = c.lifted.auto.index-index-end in
    let some = c.requires.some in
    record {
      some = omega (arith, size, past, items, some);
      few = omega (arith, size, end, few);
      each = subst (λ n. AllByRecursion (IsHanded n) c.lifted.packets) (sym c.generation.ensures) c.lifted.invariant.each;
    }

pub refused-init : goal.refused-init
refused-init g c = record {
  done = [];
  split = refl;
  all = refl;
  cache = none_more c.args.cache.now;
}

pub refuse-requires : goal.refuse-requires
refuse-requires g c =
    let s : Setting = stationed g.K.KindSet.meaning c.args.fork.now.graph c.args.fork.now.generation c.args.station in
    let items : List ℕ = c.as_slice-index-items.result.now in
    let lifts : Lifts c.args.self.now.memory items c.lifted.packets c.lifted.self.memory =
    lifting_all s c.args.node c.args.to c.args.self.now items c.lifted.index-index c.lifted.packets c.lifted.self c.lifted-test.false c.lifted.invariant in
    let refused_is : c.unpack-refused.result ≡ c.lifted.packets = c.unpack-refused.ensures ∙ c.into_packets.ensures.packets ∙ ap (λ f. f.packets) (c.in-Err.ensures.full.0 ∙ c.new-frame.ensures.frame) in
    let split : c.lifted.packets ≡ c.refused.invariant.done ++ c.in-Some.buffer ∷ c.take_first.new.self =
    sym refused_is ∙ c.refused.invariant.split ∙ ap (λ cs. c.refused.invariant.done ++ cs) c.in-Some.ensures in
    can_refuse s c.args.node c.args.to c.in-Err.full.accepted c.args.self.now c.lifted.self c.refused.self c.args.cache.now c.refused.cache c.requires.hand.0 items c.lifted.packets c.refused.invariant.done c.take_first.new.self c.in-Some.buffer
    c.requires.setting c.requires.target c.requires.other.0 c.requires.other.1 c.lifted.invariant.same lifts split c.refused.invariant.all
    (subst (λ js. IsSteady s c.args.node c.args.self.now (handed_to c.args.to js ++ c.requires.hand.0)) (sym c.as_slice-index-items.ensures.indexes) c.requires.hand.1)
    (subst (AllByRecursion (HasFewLegs c.args.self.now.memory)) (sym c.as_slice-index-items.ensures.indexes) c.requires.few)
    (subst (λ js. TakesAll s c.args.node c.args.self.now (handed_to c.args.to js ++ c.requires.hand.0) c.args.cache.now) (sym c.as_slice-index-items.ensures.indexes) c.requires.hand.2) c.refused.invariant.cache

pub refused-smaller : goal.refused-smaller
refused-smaller g c = let e = ap length c.in-Some.ensures in omega (arith, e)

pub refused-preserved : goal.refused-preserved
refused-preserved g c =
    let done : List Contents = c.refused.invariant.done in
    let start : CacheBook = c.args.cache.now in
    let more : all_chains (done ++ c.in-Some.buffer ∷ []) ≡ all_chains done + c.in-Some.buffer.pieces =
    omega (arith, sum_by-append (λ (x : Contents). x.pieces) done (c.in-Some.buffer ∷ []), sum_by-cons (λ (x : Contents). x.pieces) c.in-Some.buffer []) in
    let book : ℕ → CacheBook = λ n. record start { len = start.len + n; freed = start.freed + n } in
    record {
      done = done ++ c.in-Some.buffer ∷ [];
      split = c.refused.invariant.split ∙ ap (λ cs. done ++ cs) c.in-Some.ensures ∙ sym (append_assoc done (c.in-Some.buffer ∷ []) c.take_first.new.self);
      all = refuses_more c.args.node c.in-Err.full.accepted done c.in-Some.buffer c.lifted.self c.refused.self c.refuse.new.self c.refused.invariant.all c.refuse.ensures.refused;
      cache = c.refuse.ensures.cache ∙ ap (λ (x : CacheBook). record x { len = x.len + c.in-Some.buffer.pieces; freed = x.freed + c.in-Some.buffer.pieces }) c.refused.invariant.cache ∙ one_more start (all_chains done) c.in-Some.buffer.pieces ∙ ap book (sym more);
    }

pub returns-in_default-take_first-clause-handed : goal.returns-in_default-take_first-clause-handed
returns-in_default-take_first-clause-handed g c =
    let s : Setting = stationed g.K.KindSet.meaning c.args.fork.now.graph c.args.fork.now.generation c.args.station in
    let items : List ℕ = c.as_slice-index-items.result.now in
    let lifts : Lifts c.args.self.now.memory items c.lifted.packets c.lifted.self.memory =
    lifting_all s c.args.node c.args.to c.args.self.now items c.lifted.index-index c.lifted.packets c.lifted.self c.lifted-test.false c.lifted.invariant in
    let named : Lifts c.args.self.now.memory c.args.indexes.now c.lifted.packets c.lifted.self.memory =
    subst (λ js. Lifts c.args.self.now.memory js c.lifted.packets c.lifted.self.memory) c.as_slice-index-items.ensures.indexes lifts in
    let refused_is : c.unpack-refused.result ≡ c.lifted.packets = c.unpack-refused.ensures ∙ c.into_packets.ensures.packets ∙ ap (λ f. f.packets) (c.in-Err.ensures.full.0 ∙ c.new-frame.ensures.frame) in
    let done_is : c.refused.invariant.done ≡ c.lifted.packets =
    sym (append-nil c.refused.invariant.done) ∙ ap (λ cs. c.refused.invariant.done ++ cs) (sym c.in_default-take_first.ensures.0) ∙ sym c.refused.invariant.split ∙ refused_is in
    λ rest steady takes.
    handed_refused s c.args.node c.args.to (g.H.Handoff.slots c.args.output.now) c.in-Err.full.accepted g.H.Handoff.LOSSLESS c.args.self.now c.lifted.self c.refused.self c.args.cache.now c.refused.cache (g.H.Handoff.accepted c.args.output.now)
    (g.H.Handoff.accepted c.push-2.new.self) rest c.args.indexes.now c.lifted.packets c.requires.setting c.requires.target c.requires.other.0 c.requires.other.1 c.lifted.invariant.same named
    (subst (λ cs. RefusesAll c.args.node c.in-Err.full.accepted cs c.lifted.self c.refused.self) done_is c.refused.invariant.all) steady c.requires.few takes
    (c.refused.invariant.cache ∙ ap (λ cs. record c.args.cache.now { len = c.args.cache.now.len + all_chains cs; freed = c.args.cache.now.freed + all_chains cs }) done_is)
    c.in-Err.ensures.same.0 c.in-Err.ensures.full.1 c.in-Err.ensures.full.2 c.in-Err.ensures.full.3

pub returns-in_default-clause-handed : goal.returns-in_default-clause-handed
returns-in_default-clause-handed g c =
    let s : Setting = stationed g.K.KindSet.meaning c.args.fork.now.graph c.args.fork.now.generation c.args.station in
    let items : List ℕ = c.as_slice-index-items.result.now in
    let lifts : Lifts c.args.self.now.memory items c.lifted.packets c.lifted.self.memory =
    lifting_all s c.args.node c.args.to c.args.self.now items c.lifted.index-index c.lifted.packets c.lifted.self c.lifted-test.false c.lifted.invariant in
    let named : Lifts c.args.self.now.memory c.args.indexes.now c.lifted.packets c.lifted.self.memory =
    subst (λ js. Lifts c.args.self.now.memory js c.lifted.packets c.lifted.self.memory) c.as_slice-index-items.ensures.indexes lifts in
    λ rest steady takes.
    handed_accepted s c.args.node c.args.to (g.H.Handoff.slots c.args.output.now) g.H.Handoff.LOSSLESS c.generation.result c.args.self.now c.lifted.self c.args.cache.now (g.H.Handoff.accepted c.args.output.now)
    (g.H.Handoff.accepted c.push-2.new.self) rest c.args.indexes.now c.lifted.packets c.requires.other.0 c.requires.other.1 c.lifted.invariant.same named steady c.requires.few takes
    (c.in_default.ensures.ok ∙ ap (λ f. g.H.Handoff.accepted c.args.output.now ++ f ∷ []) c.new-frame.ensures.frame) c.requires.some

pub returns-in_default-clause-room : goal.returns-in_default-clause-room
returns-in_default-clause-room g c =
    let size = c.lifted.invariant.size in
    let end = c.lifted.auto.index-index-end in
    let items = ap length c.as_slice-index-items.ensures.indexes in
    let frame : length c.new-frame.result.packets ≡ length c.lifted.packets = ap (λ f. length f.packets) c.new-frame.ensures.frame in
    let after = c.in_default.ensures.room_after in
    omega (arith, size, end, items, frame, after)

pub returns-in_default-take_first-clause-pushed : goal.returns-in_default-take_first-clause-pushed
returns-in_default-take_first-clause-pushed g c =
    let frame : HandoffFrame = record { node = c.args.node; generation = c.generation.result; packets = c.lifted.packets } in
    let refused_is : c.unpack-refused.result ≡ c.lifted.packets = c.unpack-refused.ensures ∙ c.into_packets.ensures.packets ∙ ap (λ f. f.packets) (c.in-Err.ensures.full.0 ∙ c.new-frame.ensures.frame) in
    let done_is : c.refused.invariant.done ≡ c.lifted.packets =
    sym (append-nil c.refused.invariant.done) ∙ ap (λ cs. c.refused.invariant.done ++ cs) (sym c.in_default-take_first.ensures.0) ∙ sym c.refused.invariant.split ∙ refused_is in
    let before = c.in-Err.ensures.same.1 in let after = c.push-2.ensures.room_most in
    let kept : IsHandFrame frame = subst IsHandFrame c.new-frame.ensures.frame c.new-frame.ensures.kept in (
      CameBack frame c.in-Err.full.accepted,
      (
        outlet_of g.H.Handoff.end g.H.Handoff.refusals g.H.Handoff.waiting g.H.Handoff.free_room g.H.Handoff.closes (most_in_round c.args.station.workers) c.push-2.new.self,
        record {
          kept = kept;
          lossy = c.in-Err.ensures.full.3;
          refused = c.in-Err.ensures.full_refusals ∙ ap (λ f. g.H.Handoff.refusals c.args.output.now ++ f ∷ []) c.new-frame.ensures.frame;
          held = c.in-Err.ensures.same_waiting;
          count_is = c.in-Err.ensures.full.1;
          full = c.in-Err.ensures.full_by_the_head;
          read = c.in-Err.ensures.full_read;
          head_rises = c.push-2.ensures.head_rises;
          room = omega (arith, before, after);
          gate = c.push-2.ensures.gate (most_in_round c.args.station.workers);
        },
        (c.in-Err.ensures.same.0, refl),
      ),
      refused_log c.args.node c.in-Err.full.accepted c.lifted.packets c.lifted.self c.refused.self (subst (λ cs. RefusesAll c.args.node c.in-Err.full.accepted cs c.lifted.self c.refused.self) done_is c.refused.invariant.all)
          ∙ ap (λ (w : Work). w.fates.items ++ map (refusal c.args.node c.in-Err.full.accepted) c.lifted.packets) c.lifted.invariant.same,
    )

pub returns-in_default-clause-pushed : goal.returns-in_default-clause-pushed
returns-in_default-clause-pushed g c =
    let frame : HandoffFrame = record { node = c.args.node; generation = c.generation.result; packets = c.lifted.packets } in
    let accepted : g.H.Handoff.accepted c.push-2.new.self ≡ g.H.Handoff.accepted c.args.output.now ++ frame ∷ [] = c.in_default.ensures.ok ∙ ap (λ f. g.H.Handoff.accepted c.args.output.now ++ f ∷ []) c.new-frame.ensures.frame in
    let size = length-append (g.H.Handoff.accepted c.args.output.now) (frame ∷ []) in
    let len = ap length accepted in
    let packets : length c.new-frame.result.packets ≡ length c.lifted.packets = ap (λ f. length f.packets) c.new-frame.ensures.frame in
    let after = c.in_default.ensures.room_after in
    let kept : IsHandFrame frame = subst IsHandFrame c.new-frame.ensures.frame c.new-frame.ensures.kept in (
      Accepted frame,
      (
        outlet_of g.H.Handoff.end g.H.Handoff.refusals g.H.Handoff.waiting g.H.Handoff.free_room g.H.Handoff.closes (most_in_round c.args.station.workers) c.push-2.new.self,
        record {
          kept = kept;
          head_rises = c.push-2.ensures.head_rises;
          steps = c.push-2.ensures.steps;
          refused = c.in_default.ensures.ok_refusals;
          held = c.in_default.ensures.ok_waiting;
          written = λ lossy. subst (λ n. (first : Found) × (tx_trail (g.H.Handoff.end c.push-2.new.self) ≡ found tail_word n ∷ first ∷ tx_trail (g.H.Handoff.end c.args.output.now))) (len ∙ size) (c.in_default.ensures.ok_written lossy);
          room = (c.push-2.ensures.room_most, omega (arith, after, packets));
          gate = c.push-2.ensures.gate (most_in_round c.args.station.workers);
        },
        (accepted, refl),
      ),
      ap (λ (w : Work). w.fates.items) c.lifted.invariant.same ∙ sym (append-nil c.args.self.now.fates.items),
    )
