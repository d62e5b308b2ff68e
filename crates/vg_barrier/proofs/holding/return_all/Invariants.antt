use Rattle.std.proofs.Common.{◌≡◌, ◌+◌, ◌-◌, ◌≤◌, true, false, ◌++◌, length, replicate, vec_len, vec_capacity}
use Rattle.vg_steps.specs.Trails.{found}
use Rattle.vg_steps.specs.Seats.{me_of, trail_of, IsSameSeat}
use Rattle.vg_barrier.specs.Seats.{Whole, main_view, empties, first_of}
use Rattle.vg_barrier.specs.declared.views.View.TheVariants.{Main}
use Rattle.vg_barrier.specs.declared.views.MainView.{MainView}
use Rattle.vg_barrier.proofs.holding.return_all.Given as goal

abbrev pub invariant-loop-parcel : goal.invariant-loop-parcel
invariant-loop-parcel g l =
    let m : MainView g.row.P-Book.Denot = main_view l.fn.seat in
    let n : MainView g.row.P-Book.Denot = main_view l.seat in
    let all = length l.fn.parcels.items in
    record {
      seat : IsSameSeat l.fn.seat l.seat;
      at : me_of l.seat ≡ (Main n, empties (length l.parcels.items));
      view : n ≡ record m {
        with = length l.parcels.items;
        returning = n.returning;
        back = n.back;
        steps = m.steps + (all - length l.parcels.items);
      };
      trail : trail_of l.seat ≡ replicate (all - length l.parcels.items)
          (found 32 (first_of g.P.Parcel.generation l.fn.parcels.items)) ++ trail_of l.fn.seat;
      few : length l.parcels.items ≤ all;
      first : n.returning ≡ false → length l.parcels.items ≡ all;
      later : n.returning ≡ true → n.back ≡ first_of g.P.Parcel.generation l.fn.parcels.items;
      whole : Whole g.P.Parcel.fits g.P.Parcel.mark g.P.Parcel.generation m
          (first_of g.P.Parcel.generation l.fn.parcels.items) l.parcels.items;
      room : vec_capacity l.parcels ≡ vec_capacity l.fn.parcels;
    }

abbrev pub decreases-loop-parcel : goal.decreases-loop-parcel
decreases-loop-parcel g l = vec_len l.parcels
