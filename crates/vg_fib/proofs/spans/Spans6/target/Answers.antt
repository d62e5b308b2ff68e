use Rattle.std.proofs.Common.{◌≡◌, ◌≢◌, ◌<◌, ◌≤◌, ◌^◌, length, sym, ap, subst, ◌∙◌, arith, rules}
use Rattle.std.specs.Prelude.{option_map}
use Rattle.vg_model.specs.Route.{best_route6}
use Rattle.vg_fib.specs.Numbers.{routes_in, target_of}
use Rattle.vg_fib.proofs.PrefixLemmas.{are6}
use Rattle.vg_fib.proofs.NumberLemmas.{best_is_route, best_within, read_slot}
use Rattle.vg_fib.proofs.CutLemmas.{best_read}
use Rattle.vg_fib.proofs.spans.Spans6.target.Goals as goal

pub index-requires-in_default : goal.index-requires-in_default
index-requires-in_default c =
    let slots = c.self.inside.slots.items in
    let bound : c.args.address < 2 ^ 128 = search rules in
    let best = best_read slots c.self.inside.spans c.args.address c.place-place.result c.index.result.now c.self.invariant bound c.place-place.ensures
    c.index.ensures in
    let few : c.index.result.now ≤ length slots = best_within are6 slots (λ k. k < length slots) c.args.address c.index.result.now best in
    let some : c.index.result.now ≢ 0 = search rules in
    omega (arith, few, some, c.self.inside.slots.ok)

pub returns-in-0 : goal.returns-in-0
returns-in-0 c =
    let slots = c.self.inside.slots.items in
    let bound : c.args.address < 2 ^ 128 = search rules in
    let best = best_read slots c.self.inside.spans c.args.address c.place-place.result c.index.result.now c.self.invariant bound c.place-place.ensures
    c.index.ensures in
    let is = best_is_route are6 slots c.args.address c.index.result.now c.self.invariant.table.one_route_each best in
    subst (λ number. target_of slots number ≡ best_route6 (routes_in slots) c.args.address) c.in-0.is is
    ∙ ap (λ rs. best_route6 rs c.args.address) c.self.view_is

pub returns-in-Some : goal.returns-in-Some
returns-in-Some c =
    let slots = c.self.inside.slots.items in
    let bound : c.args.address < 2 ^ 128 = search rules in
    let best = best_read slots c.self.inside.spans c.args.address c.place-place.result c.index.result.now c.self.invariant bound c.place-place.ensures
    c.index.ensures in
    let few : c.index.result.now ≤ length slots = best_within are6 slots (λ k. k < length slots) c.args.address c.index.result.now best in
    let is = best_is_route are6 slots c.args.address c.index.result.now c.self.invariant.table.one_route_each best in
    let some : c.index.result.now ≢ 0 = search rules in
    let target = read_slot are6 slots c.index.result.now c.index-in_default.result.now some few c.index-in_default.ensures in
    sym (target ∙ ap (option_map (λ r. r.1)) c.in-Some.is) ∙ (is ∙ ap (λ rs. best_route6 rs c.args.address) c.self.view_is)

pub returns-in-None : goal.returns-in-None
returns-in-None c =
    let slots = c.self.inside.slots.items in
    let bound : c.args.address < 2 ^ 128 = search rules in
    let best = best_read slots c.self.inside.spans c.args.address c.place-place.result c.index.result.now c.self.invariant bound c.place-place.ensures
    c.index.ensures in
    let few : c.index.result.now ≤ length slots = best_within are6 slots (λ k. k < length slots) c.args.address c.index.result.now best in
    let is = best_is_route are6 slots c.args.address c.index.result.now c.self.invariant.table.one_route_each best in
    let some : c.index.result.now ≢ 0 = search rules in
    let target = read_slot are6 slots c.index.result.now c.index-in_default.result.now some few c.index-in_default.ensures in
    sym (target ∙ ap (option_map (λ r. r.1)) c.in-None.is) ∙ (is ∙ ap (λ rs. best_route6 rs c.args.address) c.self.view_is)
