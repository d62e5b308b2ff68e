use Rattle.std.proofs.Common.{◌≡◌, ◌≢◌, sym, ap, subst, ◌∙◌, arith, rules}
use Rattle.std.specs.Prelude.{option_map}
use Rattle.vg_model.specs.Route.{best_route}
use Rattle.vg_fib.specs.Numbers.{routes_in, target_of}
use Rattle.vg_fib.proofs.PrefixLemmas.{are4}
use Rattle.vg_fib.proofs.NumberLemmas.{best_is_route, best_within, read_slot}
use Rattle.vg_fib.proofs.trie.Mtrie.target.Goals as goal

pub returns-in-0 : goal.returns-in-0
returns-in-0 c =
    let slots = c.self.inside.slots.items in
    let best = c.self.invariant.has.numbers c.args.address (search rules) in
    let is = best_is_route are4 slots c.args.address _ c.self.invariant.table.one_route_each best in
    subst (λ number. target_of slots number ≡ best_route (routes_in slots) c.args.address) (sym c.number.ensures ∙ c.in-0.is) is
    ∙ ap (λ rs. best_route rs c.args.address) c.self.view_is

pub returns-in-Some : goal.returns-in-Some
returns-in-Some c =
    let slots = c.self.inside.slots.items in
    let best = c.self.invariant.has.numbers c.args.address (search rules) in
    let few = best_within are4 slots _ c.args.address _ best in
    let is = best_is_route are4 slots c.args.address _ c.self.invariant.table.one_route_each best in
    let some : c.number.result ≢ 0 = search rules in
    let target = read_slot are4 slots c.number.result c.index.result.now some (omega (arith, few, c.number.ensures)) c.index.ensures in
    sym (target ∙ ap (option_map (λ r. r.1)) c.in-Some.is)
    ∙ (subst (λ number. target_of slots number ≡ best_route (routes_in slots) c.args.address) (sym c.number.ensures) is
    ∙ ap (λ rs. best_route rs c.args.address) c.self.view_is)

pub returns-in-None : goal.returns-in-None
returns-in-None c =
    let slots = c.self.inside.slots.items in
    let best = c.self.invariant.has.numbers c.args.address (search rules) in
    let few = best_within are4 slots _ c.args.address _ best in
    let is = best_is_route are4 slots c.args.address _ c.self.invariant.table.one_route_each best in
    let some : c.number.result ≢ 0 = search rules in
    let target = read_slot are4 slots c.number.result c.index.result.now some (omega (arith, few, c.number.ensures)) c.index.ensures in
    sym (target ∙ ap (option_map (λ r. r.1)) c.in-None.is)
    ∙ (subst (λ number. target_of slots number ≡ best_route (routes_in slots) c.args.address) (sym c.number.ensures) is
    ∙ ap (λ rs. best_route rs c.args.address) c.self.view_is)
