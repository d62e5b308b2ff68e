use Rattle.std.proofs.Common.{◌≡◌, ◌+◌, ◌≤◌, false, length, vec_capacity}
use Rattle.vg_steps.specs.Seats.{trail_of, IsSameSeat}
use Rattle.vg_barrier.specs.Answers.{marks_found}
use Rattle.vg_barrier.specs.Seats.{IsMain, Whole, main_view}
use Rattle.vg_barrier.specs.declared.views.MainPhase.TheVariants.{Holding}
use Rattle.vg_barrier.specs.declared.views.MainView.{MainView}
use Rattle.vg_barrier.proofs.holding.take_all.Given as goal

abbrev pub invariant-loop-k : goal.invariant-loop-k
invariant-loop-k g l =
    let m : MainView g.row.P-Book.Denot = main_view l.fn.seat in
    let n : MainView g.row.P-Book.Denot = main_view l.seat in
    record {
      seat : IsSameSeat l.fn.seat l.seat;
      main : IsMain l.seat Holding l.k false;
      view : n ≡ record m { marks = n.marks; with = l.k; steps = m.steps + l.k };
      trail : trail_of l.seat ≡ marks_found n.marks l.k (trail_of l.fn.seat);
      count : length l.parcels.items ≡ l.k;
      room : l.workers ≤ vec_capacity l.parcels;
      whole : Whole g.P.Parcel.fits g.P.Parcel.mark g.P.Parcel.generation n n.released l.parcels.items;
    }
