use Rattle.std.proofs.Common.{rules, arith, ℕ, ◌≡◌, ◌∙◌, sym, ap, subst, true, [], ◌∷◌, ◌+◌, ◌*◌, map, length, length-append}
use Rattle.vg_barrier.specs.declared.views.WorkerPhase.TheVariants.{Running}
use Rattle.vg_barrier.specs.declared.views.WorkerView.{WorkerView}
use Rattle.vg_barrier.specs.declared.views.View.TheVariants.{Main}
use Rattle.vg_barrier.specs.Seats.{main_of, main_view, worker_view}
use Rattle.vg_barrier.specs.Steps.{made_one, newcomer}
use Rattle.vg_barrier.specs.Making.{with_made, first_left, IsFirst}
use Rattle.vg_barrier.proofs.Places.{each_more}
use Rattle.vg_barrier.proofs.barrier.Barrier.new.Goals as goal

pub loop-k-preserved : goal.loop-k-preserved
loop-k-preserved g c =
    let inv = c.loop-k.invariant in
    let k : ℕ = c.loop-k.k in
    let ran = c.in-Run.ensures in
    let w = c.in-Run.worker in
    let made = c.make_worker.ensures in
    let marks = map g.P.Parcel.mark c.args.parcels.items in
    let before : main_view c.loop-k.seat ≡ with_made c.args.book marks k = ap (λ z. main_of z.0) inv.main in
    let new : worker_view c.make_worker.result.seat ≡ newcomer (with_made c.args.book marks k) = made.worker
    ∙ ap (λ z. newcomer z) before in
    let stamp : ran.stamp ≡ 0 = ran.opening_stamp (ap (λ (z : WorkerView g.row.P-Book.Denot). z.steps) new) in
    let generation : g.P.Parcel.generation w.parcel ≡ 0 = ran.opening_generation stamp in
    let left : worker_view w.worker.seat ≡ first_left c.args.book marks k = ran.view
    ∙
    (λ i.
    let z : WorkerView g.row.P-Book.Denot =
    record
    (new i) {
      phase = Running;
      has = true;
      read = 2 * stamp i;
      stamp = stamp i;
      generation = generation i;
      steps = (new i).steps + 3;
    } in
    z) in
    record {
      seat = made.seats.0;
      made_for = inv.made_for;
      all = inv.all;
      main = made.main ∙ (λ i. (Main (made_one (before i)), []));
      count = ap length c.in-Ok.ensures.items
          ∙ (let l = length-append c.loop-k.running.items (w ∷ []) in let n = inv.count in omega arith);
      room = search rules;
      numbered =
          each_more
          (IsFirst c.in_ok-barrier.barrier c.args.book marks) c.loop-k.running.items c.push.new.self.items w
          c.in-Ok.ensures.items inv.numbered
          (subst (λ (n : ℕ). IsFirst c.in_ok-barrier.barrier c.args.book marks n w) (sym inv.count) record {
            seat = ran.seat.0 ∙ made.seats.1;
            view = left;
            fits = subst (λ (z : WorkerView g.row.P-Book.Denot). g.P.Parcel.fits w.parcel z.book) new ran.fits;
            generation = generation;
            mark = ran.mark ∙ ap (λ (z : WorkerView g.row.P-Book.Denot). z.mark) new;
          });
    }
