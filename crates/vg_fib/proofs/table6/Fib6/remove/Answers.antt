use Rattle.std.proofs.Common.{◌≡◌, length, refl, sym, ◌∙◌, ap, arith}
use Rattle.std.specs.Prelude.{map, remove}
use Rattle.vg_model.specs.Route.{ip6}
use Rattle.vg_model.specs.Edit.{place_in}
use Rattle.vg_fib.specs.Order.{moved_down}
use Rattle.vg_fib.proofs.PrefixLemmas.{are6}
use Rattle.vg_fib.proofs.OrderLemmas.{place_read, taken, written}
use Rattle.vg_fib.proofs.table6.Fib6.remove.Goals as goal

pub remove-requires : goal.remove-requires
remove-requires c =
    let found = place_read are6 c.args.prefix c.args.self.now c.self.inside.routes.items c.as_slice.result.now c.self.inside.order.items c.as_slice-2.result.now c.in-Ok.at _ _
    c.self.view_is c.as_slice.ensures.value c.as_slice-2.ensures.value c.in-Ok.ensures c.remove-place.ensures.value c.from.ensures in
    omega (arith, found.within, c.self.inside.routes.ok)

pub invariant_of-self : goal.invariant_of-self
invariant_of-self c =
    let found = place_read are6 c.args.prefix c.args.self.now c.self.inside.routes.items c.as_slice.result.now c.self.inside.order.items c.as_slice-2.result.now c.in-Ok.at _ _
    c.self.view_is c.as_slice.ensures.value c.as_slice-2.ensures.value c.in-Ok.ensures c.remove-place.ensures.value c.from.ensures in
    let long : length c.close_gap.new.order ≡ c.remove-place.new.self.len = omega (arith, c.close_gap.auto.order, c.as_mut_slice.ensures.len, c.remove-place.new.self.ok) in
    let all = written c.remove-place.new.self.len c.close_gap.new.order c.remove-place.new.self.items long (omega (arith, c.remove-place.new.self.ok)) in
    rw all (taken are6 c.args.prefix c.args.self.now c.self.inside.routes.items c.remove.new.self.items c.self.inside.order.items c.remove-place.new.self.items c.close_gap.new.order
    c.in-Ok.at c.remove-place.result c.from.result c.self.invariant found c.from.ensures c.remove.ensures.items c.remove-place.ensures.items
    (c.close_gap.ensures ∙ ap (λ xs. map (moved_down c.remove-place.result) xs) c.as_mut_slice.ensures.value))

pub returns-in_default : goal.returns-in_default
returns-in_default c =
    let none = ap (place_in ip6 c.args.prefix) (sym c.self.view_is) ∙ ap (place_in ip6 c.args.prefix) (sym c.as_slice.ensures.value) ∙ c.in_default.ensures.0 in
    rw none (refl, refl)

pub returns : goal.returns
returns c =
    let found = place_read are6 c.args.prefix c.args.self.now c.self.inside.routes.items c.as_slice.result.now c.self.inside.order.items c.as_slice-2.result.now c.in-Ok.at _ _
    c.self.view_is c.as_slice.ensures.value c.as_slice-2.ensures.value c.in-Ok.ensures c.remove-place.ensures.value c.from.ensures in
    rw found.of_seen (refl, c.remove.ensures.items ∙ ap (λ xs. remove xs c.from.result) c.self.view_is)
