use Rattle.std.proofs.Common.{◌≡◌, ◌++◌, ◌∷◌, [], length, map, sym, ap, subst, ◌∙◌, arith}
use Rattle.std.specs.List.{AllByRecursion}
use Rattle.std.proofs.lemmas.List.{append-nil}
use Rattle.vg_journeys.specs.Trips.{Taken}
use Rattle.vg_hands.specs.Handed.{IsHanded}
use Rattle.vg_underway.specs.Underway.{Setting, stationed}
use Rattle.vg_underway.specs.Draws.{IsHandoff, IsEntered}
use Rattle.vg_underway.proofs.TakeLemmas.{can_take, taken_more, done_more}
use Rattle.vg_underway.proofs.underway.Work.take_frame.Goals as goal

pub packets-init : goal.packets-init
packets-init g c =
    let s : Setting = stationed g.K.KindSet.meaning c.args.fork.now.graph c.args.fork.now.generation c.args.station in
    record {
      done = [];
      split = sym (c.unpack-packets.ensures ∙ c.into_packets.ensures.packets);
      node = c.node-node.ensures;
      each = subst (AllByRecursion (IsHanded c.args.frame.generation)) (sym (c.unpack-packets.ensures ∙ c.into_packets.ensures.packets)) c.into_packets.ensures.kept.each;
      entered = λ cache from. subst (λ es. IsEntered s es from.start from.start_cache c.args.self.now cache) (sym (append-nil from.before)) from.entered;
    }

pub take-requires-clause-few : goal.take-requires-clause-few
take-requires-clause-few g c =
    let entered = c.packets.invariant.entered c.requires.underway.0 c.requires.underway.1 in
    let few = c.requires.setting.few_nodes in
    let size = entered.held.nodes in
    omega (arith, few, size)

pub take-requires-clause-from : goal.take-requires-clause-from
take-requires-clause-from g c = subst (IsHandoff c.args.fork.now.graph) (sym c.node-node.ensures) c.requires.from

pub take-requires-clause-legs : goal.take-requires-clause-legs
take-requires-clause-legs g c =
    let first : IsHanded c.args.frame.generation c.in-Some.buffer = (subst (AllByRecursion (IsHanded c.args.frame.generation)) c.in-Some.ensures c.packets.invariant.each).0 in
    first.few

pub take-requires-clause-can : goal.take-requires-clause-can
take-requires-clause-can g c =
    let s : Setting = stationed g.K.KindSet.meaning c.args.fork.now.graph c.args.fork.now.generation c.args.station in
    can_take s c.args.station.worker c.args.frame c.packets.invariant.done c.take_first.new.self c.in-Some.buffer c.args.self.now c.packets.self c.requires.underway.0 c.requires.setting c.requires.underway.1
    (c.packets.invariant.split ∙ ap (λ cs. c.packets.invariant.done ++ cs) c.in-Some.ensures) (c.packets.invariant.entered c.requires.underway.0 c.requires.underway.1)

pub packets-smaller : goal.packets-smaller
packets-smaller g c = let e = ap length c.in-Some.ensures in omega (arith, e)

pub packets-preserved : goal.packets-preserved
packets-preserved g c =
    let s : Setting = stationed g.K.KindSet.meaning c.args.fork.now.graph c.args.fork.now.generation c.args.station in
    let each : AllByRecursion (IsHanded c.args.frame.generation) (c.in-Some.buffer ∷ c.take_first.new.self) = subst (AllByRecursion (IsHanded c.args.frame.generation)) c.in-Some.ensures c.packets.invariant.each in
    let split : c.args.frame.packets ≡ c.packets.invariant.done ++ c.in-Some.buffer ∷ c.take_first.new.self = c.packets.invariant.split ∙ ap (λ cs. c.packets.invariant.done ++ cs) c.in-Some.ensures in
    record {
      done = c.packets.invariant.done ++ c.in-Some.buffer ∷ [];
      split = split ∙ done_more c.packets.invariant.done c.take_first.new.self c.in-Some.buffer;
      node = c.node-node.ensures;
      each = each.1;
      entered = λ cache from.
          taken_more s c.args.station.worker c.args.frame c.packets.invariant.done c.take_first.new.self c.in-Some.buffer c.args.leg c.node-node.result c.args.self.now c.packets.self c.take.new.self cache c.requires.setting from split
          (c.packets.invariant.entered cache from) c.requires.from c.node-node.ensures c.requires.leg each.0 c.take.ensures.sound c.take.ensures.enters;
    }

pub returns : goal.returns
returns g c =
    let s : Setting = stationed g.K.KindSet.meaning c.args.fork.now.graph c.args.fork.now.generation c.args.station in
    record {
      taken = λ cache from.
          subst (λ cs. IsEntered s (from.before ++ map (Taken c.args.station.worker c.args.frame.node) cs) from.start from.start_cache c.packets.self cache)
          (sym (c.packets.invariant.split ∙ ap (λ cs. c.packets.invariant.done ++ cs) c.in_default.ensures.0 ∙ append-nil c.packets.invariant.done)) (c.packets.invariant.entered cache from);
    }
