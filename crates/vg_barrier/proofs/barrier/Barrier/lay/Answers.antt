use Rattle.std.proofs.Common.{rules, arith, ℕ, ◌≡◌, ◌∙◌, sym, ap, subst, List, length, Option}
use lib.ListN.{length-map}
use Rattle.vg_steps.specs.Table.{opening}
use Rattle.vg_barrier.specs.declared.parcel.Stamped.{Stamped}
use Rattle.vg_barrier.specs.Machine.{Kept, opening_view}
use Rattle.vg_barrier.specs.Parcels.{AreFirstWords}
use Rattle.vg_barrier.proofs.MakingMachine.{opens}
use Rattle.vg_barrier.proofs.barrier.Barrier.lay.Goals as goal

pub words_of-requires : goal.words_of-requires
words_of-requires g c =
    let all = ap length c.in_ok-marks.ensures ∙ length-map c.args.parcels.items g.P.Parcel.mark in
    let few = c.requires.few in
    omega arith

pub new-requires : goal.new-requires
new-requires g c =
    let n : ℕ = c.len-workers.result in
    let marks_is = c.in_ok-marks.ensures in
    let n_is : n ≡ length c.in_ok-marks.marks.items = search rules in
    let all : n ≡ length c.args.parcels.items = n_is ∙ (ap length marks_is ∙ length-map c.args.parcels.items g.P.Parcel.mark) in
    let words_is = c.as_slice.ensures.value in
    let few = c.requires.few in
    subst (λ (z : List ℕ × (List (Option (Stamped g.row.P.Denot)) × List ℕ)).
    Kept g.P.Parcel.fits g.P.Parcel.mark g.P.Parcel.generation n (opening z.0 z.1.0 (opening_view c.args.book z.1.1)))
    (λ i. (sym words_is i, (sym c.in_ok-slots.ensures i, sym marks_is i)))
    (opens _ _ g.P.Parcel.fits g.P.Parcel.mark g.P.Parcel.generation n c.args.book c.args.parcels.items
    c.in_ok-words.words.items all (omega arith) c.requires.first
    (subst (AreFirstWords c.in_ok-words.words.items) marks_is c.in_ok-words.ensures))
