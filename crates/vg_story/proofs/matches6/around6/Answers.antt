-- For `around6`: its loop, what a call requires.
use Rattle.std.proofs.Common.{◌≡◌, ◌∙◌, ◌+◌, ◌<◌, ◌∷◌, [], ap, arith, get_or, length, length-append, subst, sym}
use Rattle.vg_model.specs.Route.{ip6}
use Rattle.vg_fib.proofs.PrefixLemmas.{are6}
use Rattle.vg_story.specs.Matches.{AreAround, IsNearest, IsSearched}
use Rattle.vg_story.proofs.MatchLemmas.{around_more, searched_before}
use Rattle.vg_story.proofs.matches6.around6.Goals as goal

pub nearest6-number-requires : goal.nearest6-number-requires
nearest6-number-requires c =
    let sorted = c.args.sorted.now in
    let around = c.loop-route.around.items in
    let route = c.route-item.result in
    let count = c.loop-route.invariant.count in
    let more : length around < length sorted = omega (arith, count, c.loop-route-test.true) in
    let read : route ≡ get_or sorted (length around) route = subst (λ n. route ≡ get_or sorted n route) (sym count) c.route-item.is in
    let all : length around ≡ c.len.result = omega arith in
    subst (λ ns. IsSearched ip6 sorted ns c.len.result route.0.addr) (sym c.as_slice.ensures.value)
    (subst (λ n. IsSearched ip6 sorted around n route.0.addr) all (searched_before are6 sorted around c.loop-route.invariant.nested more route c.requires read))

pub loop-route-preserved : goal.loop-route-preserved
loop-route-preserved c =
    let sorted = c.args.sorted.now in
    let around = c.loop-route.around.items in
    let route = c.route-item.result in
    let number = c.nearest6-number.result in
    let count = c.loop-route.invariant.count in
    let more : length around < length sorted = omega (arith, count, c.loop-route-test.true) in
    let read : route ≡ get_or sorted (length around) route = subst (λ n. route ≡ get_or sorted n route) (sym count) c.route-item.is in
    let all : c.len.result ≡ length around = omega arith in
    let nearest : IsNearest ip6 sorted route.0.addr (length around) number = subst (λ n. IsNearest ip6 sorted route.0.addr n number) all c.nearest6-number.ensures in
    let pushed = c.in_ok-push.ensures.items in
    let long : length c.push.new.self.items ≡ length around + 1 = ap length pushed ∙ length-append around (number ∷ []) in
    record {
      nested = subst (AreAround ip6 sorted) (sym pushed) (around_more are6 sorted around c.loop-route.invariant.nested more route number read nearest);
      count = omega (arith, long, count);
    }
