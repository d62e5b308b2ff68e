use Rattle.std.proofs.Common.{◌<◌, length, refl, sym, subst, ◌∙◌, ap, arith, inl, inr}
use Rattle.std.proofs.lemmas.Bool.{cases_lt, iff_false}
use Rattle.std.specs.List.{insert}
use Rattle.vg_model.specs.Route.{ip4}
use Rattle.vg_model.specs.Edit.{place_in}
use Rattle.vg_fib.proofs.PrefixLemmas.{are4}
use Rattle.vg_fib.proofs.TableLemmas.{table_set}
use Rattle.vg_fib.proofs.OrderLemmas.{place_read, order_set, pushed}
use Rattle.vg_fib.proofs.table.Fib.set.Goals as goal

pub index_mut-requires : goal.index_mut-requires
index_mut-requires c =
    let found = place_read are4 c.args.prefix c.args.self.now c.self.inside.routes.items c.as_slice.result.now c.self.inside.order.items c.as_slice-2.result.now c.in-Ok.at _ _
    c.self.view_is c.as_slice.ensures.value c.as_slice-2.ensures.value c.in-Ok.ensures c.index.ensures c.from-place.ensures in
    omega (arith, found.within, c.self.inside.routes.ok)

pub invariant_of-self : goal.invariant_of-self
invariant_of-self c =
    let found = place_read are4 c.args.prefix c.args.self.now c.self.inside.routes.items c.as_slice.result.now c.self.inside.order.items c.as_slice-2.result.now c.in-Ok.at _ _
    c.self.view_is c.as_slice.ensures.value c.as_slice-2.ensures.value c.in-Ok.ensures c.index.ensures c.from-place.ensures in (
      table_set are4 c.args.prefix c.args.to _ _ c.self.invariant.0 found.of_kept,
      order_set are4 c.args.prefix c.args.to c.self.inside.routes.items c.self.inside.order.items c.from-place.result c.self.invariant.1 found.of_kept,
    )

pub invariant_of-self-in-Err-2 : goal.invariant_of-self-in-Err-2
invariant_of-self-in-Err-2 c =
    let room : length c.self.inside.routes.items < 4096 = subst (λ n. n < 4096) (ap length (sym c.self.view_is)) (elim (cases_lt (length c.args.self.now) 4096) [
      | inl few ↦ few
      | inr many ↦ absurd (iff_false c.is_full.ensures c.if-is_full.false many)
    ]) in
    pushed are4 c.args.prefix c.args.to c.self.inside.routes.items c.as_slice.result.now c.add.new.routes.items c.self.inside.order.items c.as_slice-2.result.now c.add.new.order.items
    c.in-Err-2.at c.self.invariant c.as_slice.ensures.value c.as_slice-2.ensures.value c.in-Err-2.ensures room c.in_ok-add-in-Err-2.ensures.routes
    (c.in_ok-add-in-Err-2.ensures.order ∙ ap (λ n. insert c.self.inside.order.items n (length c.self.inside.routes.items)) c.in-Err-2.at-is)

pub returns-in-Ok-clause-set : goal.returns-in-Ok-clause-set
returns-in-Ok-clause-set c =
    let found = place_read are4 c.args.prefix c.args.self.now c.self.inside.routes.items c.as_slice.result.now c.self.inside.order.items c.as_slice-2.result.now c.in-Ok.at _ _
    c.self.view_is c.as_slice.ensures.value c.as_slice-2.ensures.value c.in-Ok.ensures c.index.ensures c.from-place.ensures in
    rw (← c.self.view_is, found.of_kept) refl

pub returns-in-Ok-clause-full : goal.returns-in-Ok-clause-full
returns-in-Ok-clause-full c =
    let found = place_read are4 c.args.prefix c.args.self.now c.self.inside.routes.items c.as_slice.result.now c.self.inside.order.items c.as_slice-2.result.now c.in-Ok.at _ _
    c.self.view_is c.as_slice.ensures.value c.as_slice-2.ensures.value c.in-Ok.ensures c.index.ensures c.from-place.ensures in
    let there = found.of_seen in
    ((λ e. absurd (cc)), (λ p. let none = p.0 in absurd (cc)))

pub returns-in-Err-clause-full : goal.returns-in-Err-clause-full
returns-in-Err-clause-full c =
    let none = ap (place_in ip4 c.args.prefix) (sym c.self.view_is) ∙ ap (place_in ip4 c.args.prefix) (sym c.as_slice.ensures.value) ∙ c.in-Err.ensures.0 in
    ((λ e. (none, c.is_full.ensures.0 c.if-is_full.true)), (λ p. refl))
