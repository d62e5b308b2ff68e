-- For `RouteIndex6::longest`: what calls require, its clause.
use Rattle.std.proofs.Common.{◌≢◌, ◌∙◌, ◌<◌, ap, arith, rules, subst, sym}
use Rattle.vg_model.specs.Route.{ip6}
use Rattle.vg_fib.proofs.PrefixLemmas.{are6}
use Rattle.vg_story.specs.Matches.{matched6_in, AreByRank, AreIndexed}
use Rattle.vg_story.proofs.MatchLemmas.{begun_searched, found, found_none}
use Rattle.vg_story.proofs.matches6.RouteIndex6.longest.Goals as goal

pub begun6-begun-requires : goal.begun6-begun-requires
begun6-begun-requires c = subst (AreByRank ip6) (sym c.as_slice-sorted.ensures.value) c.self.invariant.order

pub nearest6-requires : goal.nearest6-requires
nearest6-requires c =
    let listed = c.self.inside.listed.items in
    let sorted = c.as_slice-sorted.result.now in
    let around = c.as_slice.result.now in
    let is : AreIndexed ip6 listed sorted around = subst (λ rs. AreIndexed ip6 listed rs around) (sym c.as_slice-sorted.ensures.value)
    (subst (AreIndexed ip6 listed c.self.inside.sorted.items) (sym c.as_slice.ensures.value) c.self.invariant) in
    begun_searched are6 listed sorted around c.args.address c.begun6-begun.result is c.begun6-begun.ensures

pub returns-in-0 : goal.returns-in-0
returns-in-0 c =
    let listed = c.self.inside.listed.items in
    let sorted = c.as_slice-sorted.result.now in
    let around = c.as_slice.result.now in
    let is : AreIndexed ip6 listed sorted around = subst (λ rs. AreIndexed ip6 listed rs around) (sym c.as_slice-sorted.ensures.value)
    (subst (AreIndexed ip6 listed c.self.inside.sorted.items) (sym c.as_slice.ensures.value) c.self.invariant) in
    found_none are6 listed sorted around is c.args.address c.begun6-begun.result c.nearest6.result c.begun6-begun.ensures c.nearest6.ensures c.in-0.is
    ∙ ap (λ rs. matched6_in rs c.args.address) c.self.view_is

pub returns-in_default : goal.returns-in_default
returns-in_default c =
    let listed = c.self.inside.listed.items in
    let sorted = c.as_slice-sorted.result.now in
    let around = c.as_slice.result.now in
    let is : AreIndexed ip6 listed sorted around = subst (λ rs. AreIndexed ip6 listed rs around) (sym c.as_slice-sorted.ensures.value)
    (subst (AreIndexed ip6 listed c.self.inside.sorted.items) (sym c.as_slice.ensures.value) c.self.invariant) in
    let not : c.nearest6.result ≢ 0 = search rules in
    let some : 0 < c.nearest6.result = omega (arith, not) in
    found are6 listed sorted around is c.args.address c.begun6-begun.result c.nearest6.result c.begun6-begun.ensures c.nearest6.ensures
    c.index-sorted-number.result some c.index-sorted-number.is
    ∙ ap (λ rs. matched6_in rs c.args.address) c.self.view_is
