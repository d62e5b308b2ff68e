use Rattle.std.proofs.Common.{◌≡◌, ℕ, ◌≤◌, ◌%◌, ◌+◌, ◌<◌, ◌≢◌, [], ◌∷◌, ◌++◌, length, map, drop, refl, sym, ap, subst, ◌∙◌, arith}
use Rattle.std.specs.Prelude.{slice_index_or, slice_set}
use Rattle.std.proofs.Math.Nat.{mod-lt}
use Rattle.vg_underway.specs.declared.underway.Work.{Work}
use Rattle.vg_underway.specs.Works.{CanFinish, Finishes, hand_step}
use Rattle.vg_underway.specs.Hands.{IsGrouping, grouped}
use Rattle.vg_model.specs.declared.kinds.DropError.TheVariants.{HandoffLimit}
use Rattle.vg_model.specs.declared.fates.End.TheVariants.{Dropped}
use Rattle.vg_model.specs.Hash.{target_worker}
use Rattle.vg_underway.specs.Underway.{Setting, stationed, contents_at}
use Rattle.vg_underway.proofs.OwedLemmas.{target_within}
use Rattle.vg_underway.proofs.GroupLemmas.{grouping_none, grouping_first, grouping_put, grouping_over, grouping_pushed, grouping_all, one_few, own_target, last_leg}
use Rattle.vg_underway.proofs.AwayLemmas.{away_put, away_finish, put_room, put_within, can_finish, hand_slot}
use Rattle.vg_underway.proofs.WorkLemmas.{live_in_hand}
use Rattle.vg_underway.proofs.underway.Work.group.Goals as goal

pub hands-init : goal.hands-init
hands-init g c =
    let s : Setting = stationed g.K.KindSet.meaning c.args.fork.now.graph c.args.fork.now.generation c.args.station in
    grouping_none s c.args.node c.args.self.now c.args.cache.now c.args.hands.now c.args.groups.now c.requires.steady c.requires.takes c.requires.empty

pub arc-requires-clause-node : goal.arc-requires-clause-node
arc-requires-clause-node g c = target_within c.args.fork.now.graph c.args.node c.requires.target

pub arc-requires-clause-slot : goal.arc-requires-clause-slot
arc-requires-clause-slot g c =
    let s : Setting = stationed g.K.KindSet.meaning c.args.fork.now.graph c.args.fork.now.generation c.args.station in
    let first = grouping_first s c.args.node c.args.self.now c.args.cache.now c.args.hands.now c.hands.entry-index c.hands.self c.hands.cache c.hands.groups c.hands-test.true c.hands.invariant in
    hand_slot s c.args.node _ _ c.hands.self _ first.steady.held

pub put-requires-clause-node : goal.put-requires-clause-node
put-requires-clause-node g c =
    let s : Setting = stationed g.K.KindSet.meaning c.args.fork.now.graph c.args.fork.now.generation c.args.station in
    let first = grouping_first s c.args.node c.args.self.now c.args.cache.now c.args.hands.now c.hands.entry-index c.hands.self c.hands.cache c.hands.groups c.hands-test.true c.hands.invariant in
    put_within s c.args.node c.args.self.now c.args.cache.now _ c.hands.self c.hands.cache _ _ c.arc.result c.requires.setting c.arc.ensures first

pub put-requires-clause-room : goal.put-requires-clause-room
put-requires-clause-room g c =
    let s : Setting = stationed g.K.KindSet.meaning c.args.fork.now.graph c.args.fork.now.generation c.args.station in
    let first = grouping_first s c.args.node c.args.self.now c.args.cache.now c.args.hands.now c.hands.entry-index c.hands.self c.hands.cache c.hands.groups c.hands-test.true c.hands.invariant in
    put_room s c.args.node c.hands.self _ _ first.steady.held

pub hands-preserved-then-to-from : goal.hands-preserved-then-to-from
hands-preserved-then-to-from g c =
    let s : Setting = stationed g.K.KindSet.meaning c.args.fork.now.graph c.args.fork.now.generation c.args.station in
    let first = grouping_first s c.args.node c.args.self.now c.args.cache.now c.args.hands.now c.hands.entry-index c.hands.self c.hands.cache c.hands.groups c.hands-test.true c.hands.invariant in
    let to : ((slice_index_or c.args.hands.now c.hands.entry-index (0, 0)).1 % c.from.result) ≡ target_worker c.args.station.workers (slice_index_or c.args.hands.now c.hands.entry-index (0, 0)).1 = ap (λ n. (slice_index_or c.args.hands.now c.hands.entry-index (0, 0)).1 % n) c.from.ensures in
    grouping_put s c.args.node c.args.self.now c.args.cache.now c.args.hands.now c.hands.entry-index c.hands.self (record c.hands.self { pending = c.put.new.self }) c.hands.cache c.hands.cache c.hands.groups refl c.hands.invariant
    (away_put s c.args.node c.args.self.now c.args.cache.now (map hand_step c.args.hands.now) c.hands.self c.hands.cache (hand_step (slice_index_or c.args.hands.now c.hands.entry-index (0, 0))) (map hand_step (drop (c.hands.entry-index + 1) c.args.hands.now) ++ grouped 0 c.hands.groups)
    0 c.arc.result c.put.new.self c.requires.setting (own_target s c.args.node (slice_index_or c.args.hands.now c.hands.entry-index (0, 0)).1
    (contents_at c.hands.self.memory (slice_index_or c.args.hands.now c.hands.entry-index (0, 0)).0) (sym to ∙ c.if-to-from.true ∙ c.from-in-hands.ensures)) c.arc.ensures c.put.ensures first)

pub count_legs-requires : goal.count_legs-requires
count_legs-requires g c =
    let s : Setting = stationed g.K.KindSet.meaning c.args.fork.now.graph c.args.fork.now.generation c.args.station in
    let first = grouping_first s c.args.node c.args.self.now c.args.cache.now c.args.hands.now c.hands.entry-index c.hands.self c.hands.cache c.hands.groups c.hands-test.true c.hands.invariant in
    live_in_hand s c.args.node c.hands.self _ _ first.steady.held

pub finish-requires : goal.finish-requires
finish-requires g c =
    let s : Setting = stationed g.K.KindSet.meaning c.args.fork.now.graph c.args.fork.now.generation c.args.station in
    let first = grouping_first s c.args.node c.args.self.now c.args.cache.now c.args.hands.now c.hands.entry-index c.hands.self c.hands.cache c.hands.groups c.hands-test.true c.hands.invariant in
    let to : ((slice_index_or c.args.hands.now c.hands.entry-index (0, 0)).1 % c.from.result) ≡ target_worker c.args.station.workers (slice_index_or c.args.hands.now c.hands.entry-index (0, 0)).1 = ap (λ n. (slice_index_or c.args.hands.now c.hands.entry-index (0, 0)).1 % n) c.from.ensures in
    let other : target_worker c.args.station.workers (slice_index_or c.args.hands.now c.hands.entry-index (0, 0)).1 ≢ c.args.station.worker = λ e. c.if-to-from.false (to ∙ e ∙ sym c.from-in-hands.ensures) in
    let four : length (contents_at c.hands.self.memory (slice_index_or c.args.hands.now c.hands.entry-index (0, 0)).0).legs ≡ 4 = sym c.count_legs.ensures.legs ∙ c.if-count_legs-eq-MOST_LEGS.true in
    subst (λ (x : Work). CanFinish (slice_index_or c.args.hands.now c.hands.entry-index (0, 0)).0 (Dropped c.args.node HandoffLimit) x c.hands.cache) (sym c.count_legs.ensures.same)
    (can_finish s c.args.node c.args.self.now c.args.cache.now (map hand_step c.args.hands.now) c.hands.self c.hands.cache (hand_step (slice_index_or c.args.hands.now c.hands.entry-index (0, 0)))
    (map hand_step (drop (c.hands.entry-index + 1) c.args.hands.now) ++ grouped 0 c.hands.groups) (Dropped c.args.node HandoffLimit) c.requires.setting
    (target_within c.args.fork.now.graph c.args.node c.requires.target) (last_leg s c.args.node (slice_index_or c.args.hands.now c.hands.entry-index (0, 0)).1 (contents_at c.hands.self.memory (slice_index_or c.args.hands.now c.hands.entry-index (0, 0)).0) other four) first)

pub hands-preserved-then-count_legs-eq-MOST_LEGS : goal.hands-preserved-then-count_legs-eq-MOST_LEGS
hands-preserved-then-count_legs-eq-MOST_LEGS g c =
    let s : Setting = stationed g.K.KindSet.meaning c.args.fork.now.graph c.args.fork.now.generation c.args.station in
    let first = grouping_first s c.args.node c.args.self.now c.args.cache.now c.args.hands.now c.hands.entry-index c.hands.self c.hands.cache c.hands.groups c.hands-test.true c.hands.invariant in
    let to : ((slice_index_or c.args.hands.now c.hands.entry-index (0, 0)).1 % c.from.result) ≡ target_worker c.args.station.workers (slice_index_or c.args.hands.now c.hands.entry-index (0, 0)).1 = ap (λ n. (slice_index_or c.args.hands.now c.hands.entry-index (0, 0)).1 % n) c.from.ensures in
    let other : target_worker c.args.station.workers (slice_index_or c.args.hands.now c.hands.entry-index (0, 0)).1 ≢ c.args.station.worker = λ e. c.if-to-from.false (to ∙ e ∙ sym c.from-in-hands.ensures) in
    let four : length (contents_at c.hands.self.memory (slice_index_or c.args.hands.now c.hands.entry-index (0, 0)).0).legs ≡ 4 = sym c.count_legs.ensures.legs ∙ c.if-count_legs-eq-MOST_LEGS.true in
    let finished : Finishes (slice_index_or c.args.hands.now c.hands.entry-index (0, 0)).0 (Dropped c.args.node HandoffLimit) c.hands.self c.finish.new.self = subst
    (λ (x : Work). Finishes (slice_index_or c.args.hands.now c.hands.entry-index (0, 0)).0 (Dropped c.args.node HandoffLimit) x c.finish.new.self) c.count_legs.ensures.same c.finish.ensures.finished in
    let pieces : Work → ℕ = λ (x : Work). (contents_at x.memory (slice_index_or c.args.hands.now c.hands.entry-index (0, 0)).0).pieces in
    let back : c.finish.new.cache ≡ record c.hands.cache { len = c.hands.cache.len + pieces c.hands.self; freed = c.hands.cache.freed + pieces c.hands.self } = subst
    (λ (x : Work). c.finish.new.cache ≡ record c.hands.cache { len = c.hands.cache.len + pieces x; freed = c.hands.cache.freed + pieces x }) c.count_legs.ensures.same c.finish.ensures.cache in
    grouping_over s c.args.node c.args.self.now c.args.cache.now c.args.hands.now c.hands.entry-index c.hands.self c.finish.new.self c.hands.cache c.finish.new.cache c.hands.groups (slice_index_or c.args.hands.now c.hands.entry-index (0, 0)).0 finished.memory c.hands.invariant
    (away_finish s c.args.node c.args.self.now c.args.cache.now (map hand_step c.args.hands.now) c.hands.self c.hands.cache (hand_step (slice_index_or c.args.hands.now c.hands.entry-index (0, 0)))
    (map hand_step (drop (c.hands.entry-index + 1) c.args.hands.now) ++ grouped 0 c.hands.groups) (Dropped c.args.node HandoffLimit) c.finish.new.self c.finish.new.cache c.requires.setting
    (target_within c.args.fork.now.graph c.args.node c.requires.target)
    (last_leg s c.args.node (slice_index_or c.args.hands.now c.hands.entry-index (0, 0)).1 (contents_at c.hands.self.memory (slice_index_or c.args.hands.now c.hands.entry-index (0, 0)).0) other four) finished back first)

pub returns : goal.returns
returns g c =
    let s : Setting = stationed g.K.KindSet.meaning c.args.fork.now.graph c.args.fork.now.generation c.args.station in
    grouping_all s c.args.node c.args.self.now c.args.cache.now c.args.hands.now c.hands.entry-index c.hands.self c.hands.cache c.hands.groups c.hands-test.false
    (let end = c.hands.auto.entry-index-end in let few = c.requires.few in omega (arith, end, few)) c.hands.invariant

pub push-requires : goal.push-requires
push-requires g c =
    let to : ((slice_index_or c.args.hands.now c.hands.entry-index (0, 0)).1 % c.from.result) ≡ target_worker c.args.station.workers (slice_index_or c.args.hands.now c.hands.entry-index (0, 0)).1 = ap (λ n. (slice_index_or c.args.hands.now c.hands.entry-index (0, 0)).1 % n) c.from.ensures in
    let within : ((slice_index_or c.args.hands.now c.hands.entry-index (0, 0)).1 % c.from.result) < c.args.station.workers = (let some : 0 < c.args.station.workers = (let h = c.requires.station in omega (arith, h)) in
    let most = mod-lt (slice_index_or c.args.hands.now c.hands.entry-index (0, 0)).1 some in omega (arith, to, most)) in
    let size = c.hands.invariant.size in
    let few = one_few c.hands.groups ((slice_index_or c.args.hands.now c.hands.entry-index (0, 0)).1 % c.from.result) c.hands.entry-index c.index-groups-to.result (omega (arith, within, size)) c.hands.invariant.few in
    let inside = c.hands-test.true in
    let most = c.requires.few in
    omega (arith, few, inside, most)

pub hands-preserved : goal.hands-preserved
hands-preserved g c =
    let s : Setting = stationed g.K.KindSet.meaning c.args.fork.now.graph c.args.fork.now.generation c.args.station in
    let first = grouping_first s c.args.node c.args.self.now c.args.cache.now c.args.hands.now c.hands.entry-index c.hands.self c.hands.cache c.hands.groups c.hands-test.true c.hands.invariant in
    let to : ((slice_index_or c.args.hands.now c.hands.entry-index (0, 0)).1 % c.from.result) ≡ target_worker c.args.station.workers (slice_index_or c.args.hands.now c.hands.entry-index (0, 0)).1 = ap (λ n. (slice_index_or c.args.hands.now c.hands.entry-index (0, 0)).1 % n) c.from.ensures in
    let within : ((slice_index_or c.args.hands.now c.hands.entry-index (0, 0)).1 % c.from.result) < c.args.station.workers = (let some : 0 < c.args.station.workers = (let h = c.requires.station in omega (arith, h)) in
    let most = mod-lt (slice_index_or c.args.hands.now c.hands.entry-index (0, 0)).1 some in omega (arith, to, most)) in
    let other : ((slice_index_or c.args.hands.now c.hands.entry-index (0, 0)).1 % c.from.result) ≢ c.args.station.worker = λ e. c.if-to-from.false (e ∙ sym c.from-in-hands.ensures) in
    let few : length (contents_at c.hands.self.memory (slice_index_or c.args.hands.now c.hands.entry-index (0, 0)).0).legs ≤ 3 =
    (let most = (first.steady.held.sound (slice_index_or c.args.hands.now c.hands.entry-index (0, 0)).0).few_legs in let legs = c.count_legs.ensures.legs in let not_four = c.if-count_legs-eq-MOST_LEGS.false in omega (arith, most, legs, not_four)) in
    subst (λ (x : Work). IsGrouping s c.args.node c.args.self.now c.args.cache.now c.args.hands.now (c.hands.entry-index + 1) x c.hands.cache (slice_set c.hands.groups ((slice_index_or c.args.hands.now c.hands.entry-index (0, 0)).1 % c.from.result) c.push.new.self)) (sym c.count_legs.ensures.same)
    (grouping_pushed s c.args.node c.args.self.now c.args.cache.now c.args.hands.now c.hands.entry-index c.hands.self c.hands.cache c.hands.groups ((slice_index_or c.args.hands.now c.hands.entry-index (0, 0)).1 % c.from.result) c.index-groups-to.result c.push.new.self c.hands-test.true to within
    other few c.index-groups-to.is (c.push.ensures ∙ ap (λ group. group ++ (slice_index_or c.args.hands.now c.hands.entry-index (0, 0)).0 ∷ []) (sym c.index-groups-to.is)) c.hands.invariant)
