-- For `RouteIndex::longest`: what calls require, its clause.
use Rattle.std.proofs.Common.{◌≢◌, ◌∙◌, ◌<◌, ap, arith, rules, subst, sym}
use Rattle.vg_model.specs.Route.{ip4}
use Rattle.vg_fib.proofs.PrefixLemmas.{are4}
use Rattle.vg_story.specs.Matches.{matched_in, AreByRank, AreIndexed}
use Rattle.vg_story.proofs.MatchLemmas.{begun_searched, found, found_none}
use Rattle.vg_story.proofs.matches.RouteIndex.longest.Goals as goal

pub begun4-begun-requires : goal.begun4-begun-requires
begun4-begun-requires c = subst (AreByRank ip4) (sym c.as_slice-sorted.ensures.value) c.self.invariant.order

pub nearest4-requires : goal.nearest4-requires
nearest4-requires c =
    let listed = c.self.inside.listed.items in
    let sorted = c.as_slice-sorted.result.now in
    let around = c.as_slice.result.now in
    let is : AreIndexed ip4 listed sorted around = subst (λ rs. AreIndexed ip4 listed rs around) (sym c.as_slice-sorted.ensures.value)
    (subst (AreIndexed ip4 listed c.self.inside.sorted.items) (sym c.as_slice.ensures.value) c.self.invariant) in
    begun_searched are4 listed sorted around c.args.address c.begun4-begun.result is c.begun4-begun.ensures

pub returns-in-0 : goal.returns-in-0
returns-in-0 c =
    let listed = c.self.inside.listed.items in
    let sorted = c.as_slice-sorted.result.now in
    let around = c.as_slice.result.now in
    let is : AreIndexed ip4 listed sorted around = subst (λ rs. AreIndexed ip4 listed rs around) (sym c.as_slice-sorted.ensures.value)
    (subst (AreIndexed ip4 listed c.self.inside.sorted.items) (sym c.as_slice.ensures.value) c.self.invariant) in
    found_none are4 listed sorted around is c.args.address c.begun4-begun.result c.nearest4.result c.begun4-begun.ensures c.nearest4.ensures c.in-0.is
    ∙ ap (λ rs. matched_in rs c.args.address) c.self.view_is

pub returns-in_default : goal.returns-in_default
returns-in_default c =
    let listed = c.self.inside.listed.items in
    let sorted = c.as_slice-sorted.result.now in
    let around = c.as_slice.result.now in
    let is : AreIndexed ip4 listed sorted around = subst (λ rs. AreIndexed ip4 listed rs around) (sym c.as_slice-sorted.ensures.value)
    (subst (AreIndexed ip4 listed c.self.inside.sorted.items) (sym c.as_slice.ensures.value) c.self.invariant) in
    let not : c.nearest4.result ≢ 0 = search rules in
    let some : 0 < c.nearest4.result = omega (arith, not) in
    found are4 listed sorted around is c.args.address c.begun4-begun.result c.nearest4.result c.begun4-begun.ensures c.nearest4.ensures
    c.index-sorted-number.result some c.index-sorted-number.is
    ∙ ap (λ rs. matched_in rs c.args.address) c.self.view_is
