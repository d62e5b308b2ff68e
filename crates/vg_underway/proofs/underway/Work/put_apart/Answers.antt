use Rattle.std.proofs.Common.{◌≡◌, ℕ, ◌+◌, List, ◌++◌, length, map, drop, get_or, refl, sym, ap, subst, ◌∙◌, arith}
use Rattle.std.proofs.lemmas.List.{length-append, length-map}
use Rattle.vg_model.specs.declared.kinds.Step.{Step}
use Rattle.vg_model.specs.declared.kinds.DropError.TheVariants.{Short}
use Rattle.vg_model.specs.declared.fates.End.TheVariants.{Tx, Dropped}
use Rattle.vg_underway.specs.Underway.{Setting, stationed}
use Rattle.vg_nodes.specs.Runs.{over_slot}
use Rattle.vg_underway.specs.Works.{IsHeld, IsPutAway, hand_of, without_next, without_tx, without_drops, next_step, tx_step, drop_step}
use Rattle.vg_underway.proofs.OwedLemmas.{target_within}
use Rattle.vg_underway.proofs.AwayLemmas.{put_each_room, run_first, hand_parts, hand_first, hand_last, away_none, away_put_each, put_within, can_finish, away_finish, next_slot, tx_interface}
use Rattle.vg_underway.proofs.underway.Work.put_apart.Goals as goal

pub next-init : goal.next-init
next-init g c =
    let s : Setting = stationed g.K.KindSet.meaning c.args.fork.now.graph c.args.fork.now.generation c.args.station in
    let none = away_none s c.args.node c.args.self.now c.args.cache.now (hand_of c.args.sorted.now) c.requires.steady c.requires.takes in
    subst (λ going. IsPutAway s c.args.node c.args.self.now c.args.cache.now (hand_of c.args.sorted.now) c.args.self.now c.args.cache.now (map next_step going ++ without_next c.args.sorted.now))
    (sym c.runs-going.ensures) none

pub arc-requires-clause-node : goal.arc-requires-clause-node
arc-requires-clause-node g c = target_within c.args.fork.now.graph c.args.node c.requires.target

pub arc-requires-clause-slot : goal.arc-requires-clause-slot
arc-requires-clause-slot g c =
    let s : Setting = stationed g.K.KindSet.meaning c.args.fork.now.graph c.args.fork.now.generation c.args.station in
    let run : List ℕ = c.in-Some.run'.now in
    let rest : List (ℕ × Step) = map next_step c.next-in-next.new.self ++ without_next c.args.sorted.now in
    let parts = hand_parts c.next.going (over_slot c.in-Some.slot run) c.next-in-next.new.self (without_next c.args.sorted.now) c.in-Some.ensures.1 in
    let away = subst (IsPutAway s c.args.node c.args.self.now c.args.cache.now (hand_of c.args.sorted.now) c.next.self c.args.cache.now) parts c.next.invariant in
    let first = run_first c.in-Some.slot run rest c.in-Some.ensures.0 in
    next_slot s c.args.node first.0 c.in-Some.slot c.next.self first.1 (subst (IsHeld s c.args.node c.next.self) first.2 away.steady.held)

pub put_each-requires-clause-node : goal.put_each-requires-clause-node
put_each-requires-clause-node g c =
    put_within (stationed g.K.KindSet.meaning c.args.fork.now.graph c.args.fork.now.generation c.args.station) c.args.node c.args.self.now c.args.cache.now (hand_of c.args.sorted.now) c.next.self c.args.cache.now _ _ c.arc.result
    c.requires.setting c.arc.ensures c.next.invariant

pub put_each-requires-clause-room : goal.put_each-requires-clause-room
put_each-requires-clause-room g c =
    let s : Setting = stationed g.K.KindSet.meaning c.args.fork.now.graph c.args.fork.now.generation c.args.station in
    let run : List ℕ = c.in-Some.run'.now in
    let rest : List (ℕ × Step) = map next_step c.next-in-next.new.self ++ without_next c.args.sorted.now in
    let parts = hand_parts c.next.going (over_slot c.in-Some.slot run) c.next-in-next.new.self (without_next c.args.sorted.now) c.in-Some.ensures.1 in
    let away = subst (IsPutAway s c.args.node c.args.self.now c.args.cache.now (hand_of c.args.sorted.now) c.next.self c.args.cache.now) parts c.next.invariant in
    put_each_room s c.args.node c.next.self c.in-Some.slot run rest away.steady.held

pub next-smaller : goal.next-smaller
next-smaller g c =
    let all = ap length c.in-Some.ensures.1 ∙ length-append (over_slot c.in-Some.slot c.in-Some.run'.now) c.next-in-next.new.self in
    let some : length (over_slot c.in-Some.slot c.in-Some.run'.now) ≡ length c.in-Some.run'.now = length-map c.in-Some.run'.now (λ (index : ℕ). (index, c.in-Some.slot)) in
    omega (arith, all, some, c.in-Some.ensures.0)

pub next-preserved : goal.next-preserved
next-preserved g c =
    let s : Setting = stationed g.K.KindSet.meaning c.args.fork.now.graph c.args.fork.now.generation c.args.station in
    let run : List ℕ = c.in-Some.run'.now in
    let rest : List (ℕ × Step) = map next_step c.next-in-next.new.self ++ without_next c.args.sorted.now in
    let parts = hand_parts c.next.going (over_slot c.in-Some.slot run) c.next-in-next.new.self (without_next c.args.sorted.now) c.in-Some.ensures.1 in
    let away = subst (IsPutAway s c.args.node c.args.self.now c.args.cache.now (hand_of c.args.sorted.now) c.next.self c.args.cache.now) parts c.next.invariant in
    away_put_each s c.args.node c.args.self.now c.args.cache.now (hand_of c.args.sorted.now) c.next.self c.args.cache.now run rest
    c.in-Some.slot c.arc.result c.put_each.new.self c.requires.setting c.arc.ensures c.put_each.ensures away

pub sent-init : goal.sent-init
sent-init g c =
    let s : Setting = stationed g.K.KindSet.meaning c.args.fork.now.graph c.args.fork.now.generation c.args.station in
    subst (λ going. IsPutAway s c.args.node c.args.self.now c.args.cache.now (hand_of c.args.sorted.now) c.next.self c.args.cache.now (map next_step going ++ without_next c.args.sorted.now))
    c.in_default.ensures.0 c.next.invariant

pub finish-requires : goal.finish-requires
finish-requires g c =
    let s : Setting = stationed g.K.KindSet.meaning c.args.fork.now.graph c.args.fork.now.generation c.args.station in
    let first = hand_first tx_step c.args.sorted.now.tx c.as_slice-entry-items.result.now c.sent.entry-index (0, 0) (without_tx c.args.sorted.now) c.as_slice-entry-items.ensures.entries c.sent-test.true in
    let away = subst (IsPutAway s c.args.node c.args.self.now c.args.cache.now (hand_of c.args.sorted.now) c.sent.self c.sent.cache) first c.sent.invariant in
    can_finish s c.args.node c.args.self.now c.args.cache.now (hand_of c.args.sorted.now) c.sent.self c.sent.cache
    (tx_step (get_or c.as_slice-entry-items.result.now c.sent.entry-index (0, 0))) (map tx_step (drop (c.sent.entry-index + 1) c.args.sorted.now.tx) ++ without_tx c.args.sorted.now)
    (Tx (get_or c.as_slice-entry-items.result.now c.sent.entry-index (0, 0)).1) c.requires.setting (tx_interface s c.args.node _ _ c.sent.self _ c.requires.target away.steady.held) refl away

pub sent-preserved : goal.sent-preserved
sent-preserved g c =
    let s : Setting = stationed g.K.KindSet.meaning c.args.fork.now.graph c.args.fork.now.generation c.args.station in
    let first = hand_first tx_step c.args.sorted.now.tx c.as_slice-entry-items.result.now c.sent.entry-index (0, 0) (without_tx c.args.sorted.now) c.as_slice-entry-items.ensures.entries c.sent-test.true in
    let away = subst (IsPutAway s c.args.node c.args.self.now c.args.cache.now (hand_of c.args.sorted.now) c.sent.self c.sent.cache) first c.sent.invariant in
    away_finish s c.args.node c.args.self.now c.args.cache.now (hand_of c.args.sorted.now) c.sent.self c.sent.cache
    (tx_step (get_or c.as_slice-entry-items.result.now c.sent.entry-index (0, 0))) (map tx_step (drop (c.sent.entry-index + 1) c.args.sorted.now.tx) ++ without_tx c.args.sorted.now)
    (Tx (get_or c.as_slice-entry-items.result.now c.sent.entry-index (0, 0)).1) c.finish.new.self c.finish.new.cache c.requires.setting (tx_interface s c.args.node _ _ c.sent.self _ c.requires.target away.steady.held) refl
    c.finish.ensures.finished c.finish.ensures.cache away

pub dropped-init : goal.dropped-init
dropped-init g c =
    let s : Setting = stationed g.K.KindSet.meaning c.args.fork.now.graph c.args.fork.now.generation c.args.station in
    let last = hand_last tx_step c.args.sorted.now.tx c.as_slice-entry-items.result.now c.sent.entry-index (without_tx c.args.sorted.now) c.as_slice-entry-items.ensures.entries c.sent-test.false in
    subst (IsPutAway s c.args.node c.args.self.now c.args.cache.now (hand_of c.args.sorted.now) c.sent.self c.sent.cache) last c.sent.invariant

pub finish-requires-in-dropped : goal.finish-requires-in-dropped
finish-requires-in-dropped g c =
    let s : Setting = stationed g.K.KindSet.meaning c.args.fork.now.graph c.args.fork.now.generation c.args.station in
    let first = hand_first drop_step c.args.sorted.now.drops c.as_slice-entry-items-2.result.now c.dropped.entry-index (0, Short) (without_drops c.args.sorted.now) c.as_slice-entry-items-2.ensures.entries c.dropped-test.true in
    let away = subst (IsPutAway s c.args.node c.args.self.now c.args.cache.now (hand_of c.args.sorted.now) c.dropped.self c.dropped.cache) first c.dropped.invariant in
    can_finish s c.args.node c.args.self.now c.args.cache.now (hand_of c.args.sorted.now) c.dropped.self c.dropped.cache
    (drop_step (get_or c.as_slice-entry-items-2.result.now c.dropped.entry-index (0, Short))) (map drop_step (drop (c.dropped.entry-index + 1) c.args.sorted.now.drops) ++ without_drops c.args.sorted.now)
    (Dropped c.args.node (get_or c.as_slice-entry-items-2.result.now c.dropped.entry-index (0, Short)).1) c.requires.setting (target_within c.args.fork.now.graph c.args.node c.requires.target) refl away

pub dropped-preserved : goal.dropped-preserved
dropped-preserved g c =
    let s : Setting = stationed g.K.KindSet.meaning c.args.fork.now.graph c.args.fork.now.generation c.args.station in
    let first = hand_first drop_step c.args.sorted.now.drops c.as_slice-entry-items-2.result.now c.dropped.entry-index (0, Short) (without_drops c.args.sorted.now) c.as_slice-entry-items-2.ensures.entries c.dropped-test.true in
    let away = subst (IsPutAway s c.args.node c.args.self.now c.args.cache.now (hand_of c.args.sorted.now) c.dropped.self c.dropped.cache) first c.dropped.invariant in
    away_finish s c.args.node c.args.self.now c.args.cache.now (hand_of c.args.sorted.now) c.dropped.self c.dropped.cache
    (drop_step (get_or c.as_slice-entry-items-2.result.now c.dropped.entry-index (0, Short))) (map drop_step (drop (c.dropped.entry-index + 1) c.args.sorted.now.drops) ++ without_drops c.args.sorted.now)
    (Dropped c.args.node (get_or c.as_slice-entry-items-2.result.now c.dropped.entry-index (0, Short)).1) c.finish-in-dropped.new.self c.finish-in-dropped.new.cache c.requires.setting
    (target_within c.args.fork.now.graph c.args.node c.requires.target) refl c.finish-in-dropped.ensures.finished c.finish-in-dropped.ensures.cache away

pub returns : goal.returns
returns g c =
    let s : Setting = stationed g.K.KindSet.meaning c.args.fork.now.graph c.args.fork.now.generation c.args.station in
    let last = hand_last drop_step c.args.sorted.now.drops c.as_slice-entry-items-2.result.now c.dropped.entry-index (without_drops c.args.sorted.now) c.as_slice-entry-items-2.ensures.entries c.dropped-test.false in
    subst (IsPutAway s c.args.node c.args.self.now c.args.cache.now (hand_of c.args.sorted.now) c.dropped.self c.dropped.cache) last c.dropped.invariant
