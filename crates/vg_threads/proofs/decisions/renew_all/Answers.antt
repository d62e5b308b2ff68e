use Rattle.std.proofs.Common.{set, sym, arith, ◌≡◌, ◌<◌, ◌∙◌, ap, rules, subst, length, length-set}
use Rattle.std.specs.List.{AllByRecursion}
use Rattle.std.proofs.lemmas.List.Edits.{map_over_more}
use Rattle.std.proofs.lemmas.Option.{get_or_from_slice_get}
use Rattle.vg_fork.specs.Forked.{Forked}
use Rattle.vg_dispatch.specs.declared.parcels.WorkerParcel.{WorkerParcel}
use Rattle.vg_threads.specs.Renewals.{renewed}
use Rattle.vg_threads.proofs.decisions.renew_all.Goals as goal

pub loop-fork-preserved : goal.loop-fork-preserved
loop-fork-preserved c =
    let inv = c.loop-fork.invariant in
    let now = c.loop-fork.held.parcels.items in
    let was = c.parcel_mut.result.now in
    let is = get_or_from_slice_get now c.loop-fork.k was was (sym c.parcel_mut.ensures.value) in
    let steps = c.in-Some.ensures.steps in
    let count = inv.count in
    let len = inv.len in
    record {
      main = inv.main;
      count = search rules;
      len = length-set now c.loop-fork.k c.renew.new.parcel ∙ inv.len;
      parcels = λ fork each.
          let before = inv.parcels fork each in
          let all = subst (AllByRecursion (λ f. f ≡ fork)) steps.0 before.0 in (
            all.1,
            ap (λ (w : WorkerParcel). set now c.loop-fork.k w) (c.renew.ensures.parcel ∙ ap (λ (f : Forked). renewed f c.args.limit was) all.0)
                ∙ map_over_more (renewed fork c.args.limit) c.args.held.now.parcels.items now c.loop-fork.k was (let low : c.loop-fork.k < length c.args.held.now.parcels.items = search rules in omega (arith, low)) before.1 (sym is),
          );
    }
