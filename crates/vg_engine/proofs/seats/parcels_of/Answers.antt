use Rattle.std.proofs.Common.{◌≡◌, ◌+◌, ℕ, List, length, rules, ap, sym, subst, ◌∙◌, arith, length-append}
use Rattle.std.specs.List.{AllByRecursion}
use Rattle.vg_fork.specs.Forked.{Forked}
use Rattle.vg_dispatch.specs.declared.parcels.WorkerParcel.{WorkerParcel}
use Rattle.vg_workers.specs.Places.{AllAt}
use Rattle.vg_engine.specs.Seats.{first_parcel}
use Rattle.vg_workers.proofs.PlaceLemmas.{all_more}
use Rattle.vg_engine.proofs.seats.parcels_of.Goals as goal

pub loop-fork-preserved : goal.loop-fork-preserved
loop-fork-preserved c =
    let inv = c.loop-fork.invariant in
    let steps = c.in-Some.ensures.steps in
    let all = subst (AllByRecursion (λ (f : Forked). f ≡ record { graph = c.args.master.now; generation = 0 })) steps.0 inv.forks in
    let count = inv.count in
    let is : ℕ → WorkerParcel → Type 0 = λ number parcel. parcel ≡ first_parcel c.args.master.now c.args.limit number in
    let at : c.len-number.result ≡ 0 + length c.loop-fork.parcels.items = (let len = c.len-number.ensures in omega (arith, len)) in
    let more : length c.push.new.list.items ≡ length c.loop-fork.parcels.items + 1 = ap (λ (ps : List WorkerParcel). length ps) c.in_ok-push.ensures ∙ length-append c.loop-fork.parcels.items _ in
    record {
      count = search rules;
      forks = all.1;
      each = subst (AllAt is 0) (sym c.in_ok-push.ensures) (all_more is 0 c.loop-fork.parcels.items _ inv.each (c.parcel_of.ensures c.args.master.now all.0 ∙ ap (first_parcel c.args.master.now c.args.limit) at));
    }
