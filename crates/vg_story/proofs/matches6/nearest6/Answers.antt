-- For `nearest6`: its loop.
use Rattle.std.proofs.Common.{◌≡◌, ◌∙◌, false, ap, sym, ℕ}
use Rattle.vg_model.specs.declared.routes.Prefix6.{Prefix6}
use Rattle.vg_model.specs.Route.{covers_of, ip6}
use Rattle.vg_fib.proofs.PrefixLemmas.{are6}
use Rattle.vg_story.proofs.MatchLemmas.{around_before, elsewhere_more, AreElsewhere}
use Rattle.vg_story.proofs.matches6.nearest6.Goals as goal

pub loop-number-smaller : goal.loop-number-smaller
loop-number-smaller c =
    around_before are6 c.args.sorted.now c.args.around.now c.args.begun c.args.address c.requires c.loop-number.number c.index-sorted-number.result
    c.loop-number-test.true c.loop-number.invariant.within

pub loop-number-preserved : goal.loop-number-preserved
loop-number-preserved c =
    let address = c.args.address in
    let route = c.index-sorted-number.result in
    let so_far : AreElsewhere are6 c.args.sorted.now c.args.around.now c.args.begun address c.requires c.loop-number.number =
    record { within = c.loop-number.invariant.within; none = c.loop-number.invariant.none } in
    let not : covers_of ip6 route.0 address ≡ false =
    ap (λ (r : Prefix6 × ℕ). covers_of ip6 r.0 address) c.index-sorted-number.is ∙ (sym c.covers6.ensures ∙ c.if-covers6.false) in
    let more = elsewhere_more are6 c.args.sorted.now c.args.around.now c.args.begun address c.requires c.loop-number.number so_far
    c.loop-number-test.true route c.index-sorted-number.is not in
    record { within = more.within; none = more.none }
