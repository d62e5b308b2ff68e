use Rattle.std.proofs.Common.{rules, arith, ℕ, suc, ◌≡◌, ◌+◌, ◌-◌, ◌⊎◌, true, false, [], ◌∷◌, ◌++◌, ◌∙◌, sym, ap, refl, subst, length, length-append, replicate, get_or, Some, None}
use Rattle.vg_steps.specs.Trails.{found}
use Rattle.vg_steps.specs.Seats.{me_of, trail_of}
use lib.ListN.{get_elem?}
use Rattle.vg_steps.proofs.Lists.{at_last, at_longer}
use Rattle.vg_barrier.specs.declared.parcel.Stamped.{Stamped}
use Rattle.vg_barrier.specs.declared.views.View.TheVariants.{Main}
use Rattle.vg_barrier.specs.declared.views.MainView.{MainView}
use Rattle.vg_barrier.specs.Seats.{main_view, empties, first_of}
use Rattle.vg_barrier.specs.Steps.{returned_one}
use Rattle.vg_barrier.proofs.MainMachine.{returns_parcel}
use Rattle.vg_barrier.proofs.Moves.{given}
use Rattle.vg_barrier.proofs.Sitting.{main_is}
use Rattle.vg_barrier.proofs.holding.return_all.Goals as goal

pub store-requires : goal.store-requires
store-requires g c =
    let inv = c.loop-parcel.invariant in
    let m₀ : MainView g.row.P-Book.Denot = main_view c.args.seat.now in
    let m : MainView g.row.P-Book.Denot = main_view c.loop-parcel.seat in
    let rest_items = c.pop.new.self.items in
    let i : ℕ = length rest_items in
    let p = c.in-Some.parcel in
    let e : ℕ = c.generation-generation.result in
    let all = c.requires.main in
    let popped : c.loop-parcel.parcels.items ≡ rest_items ++ p ∷ [] = c.in-Some.ensures.items in
    let long : length c.loop-parcel.parcels.items ≡ suc i =
    (let l = length-append rest_items (p ∷ []) in let l' = ap length popped in omega arith) in
    let k_is : c.len-k.result ≡ i = search rules in
    let y : Stamped g.row.P.Denot = record { stamp = c.args.stamp; parcel = p } in
    let took = inv.at ∙ (λ z. (Main m, empties (long z))) in
    let now = given _ _ _ _ _ None (empties i) took (me_of c.exchange.new.seat) c.len-k.result (Some y) c.exchange.ensures.new in
    let w = inv.whole i p (ap (λ l. get_elem? l i) popped ∙ at_last rest_items p i refl) in
    let generation_is : e ≡ g.P.Parcel.generation p = c.generation-generation.ensures in
    let e_is : e ≡ first_of g.P.Parcel.generation c.args.parcels.now.items = generation_is ∙ w.generation in
    let with_is : m.with ≡ length c.loop-parcel.parcels.items = ap (λ (z : MainView g.row.P-Book.Denot). z.with) inv.view in
    let made : m.made ≡ m₀.made = ap (λ (z : MainView g.row.P-Book.Denot). z.made) inv.view in let many = all.1 in (
      search rules,
      search rules,
      returns_parcel _ _ g.P.Parcel.fits g.P.Parcel.mark g.P.Parcel.generation _ _ _ e c.len-k.result _ m y (empties i) now
          (ap (λ (z : MainView g.row.P-Book.Denot). z.phase) inv.view ∙ all.0.1) (omega arith)
          (λ f. (
            (let all_there = inv.first f in omega arith),
            subst (λ (z : ℕ × ℕ). (z.0 ≡ z.1) ⊎ (z.0 ≡ z.1 + 1))
                (λ j.
                (sym e_is j, ap (λ (z : MainView g.row.P-Book.Denot). z.released) (sym inv.view) j)) c.requires.whole.next,
          ))
          (λ t. e_is ∙ sym (inv.later t))
          (subst (λ (z : MainView g.row.P-Book.Denot). g.P.Parcel.fits p z.book) (sym inv.view) w.fits)
          (w.mark ∙ (λ j. get_or (ap (λ (z : MainView g.row.P-Book.Denot). z.marks) (sym inv.view) j) (sym k_is j) 0))
          (all.3 ∙ ap (λ (z : MainView g.row.P-Book.Denot). z.stamp + 1) (sym inv.view)) (sym generation_is),
    )

pub loop-parcel-preserved : goal.loop-parcel-preserved
loop-parcel-preserved g c =
    let inv = c.loop-parcel.invariant in
    let m₀ : MainView g.row.P-Book.Denot = main_view c.args.seat.now in
    let m : MainView g.row.P-Book.Denot = main_view c.loop-parcel.seat in
    let rest_items = c.pop.new.self.items in
    let i : ℕ = length rest_items in
    let p = c.in-Some.parcel in
    let e : ℕ = c.generation-generation.result in
    let all = c.requires.main in
    let popped : c.loop-parcel.parcels.items ≡ rest_items ++ p ∷ [] = c.in-Some.ensures.items in
    let long : length c.loop-parcel.parcels.items ≡ suc i =
    (let l = length-append rest_items (p ∷ []) in let l' = ap length popped in omega arith) in
    let k_is : c.len-k.result ≡ i = search rules in
    let y : Stamped g.row.P.Denot = record { stamp = c.args.stamp; parcel = p } in
    let took = inv.at ∙ (λ z. (Main m, empties (long z))) in
    let now = given _ _ _ _ _ None (empties i) took (me_of c.exchange.new.seat) c.len-k.result (Some y) c.exchange.ensures.new in
    let w = inv.whole i p (ap (λ l. get_elem? l i) popped ∙ at_last rest_items p i refl) in
    let generation_is : e ≡ g.P.Parcel.generation p = c.generation-generation.ensures in
    let e_is : e ≡ first_of g.P.Parcel.generation c.args.parcels.now.items = generation_is ∙ w.generation in
    let with_is : m.with ≡ length c.loop-parcel.parcels.items = ap (λ (z : MainView g.row.P-Book.Denot). z.with) inv.view in
    let gone = c.store.ensures.then m c.len-k.result (Some y) (empties i) now in
    let is = main_is _ _ c.store.new.seat (returned_one m e) _ gone in
    let to = is ∙ ap (λ (z : MainView g.row.P-Book.Denot). returned_one z e) inv.view in
    let n : ℕ = length c.loop-parcel.parcels.items in let few = inv.few in let n_is : n ≡ suc i = long in record {
      seat =
          (let a = c.store.ensures.seat in let b = c.exchange.ensures.seat in (a.0 ∙ (b.0 ∙ inv.seat.0), a.1 ∙ (b.1 ∙ inv.seat.1)));
      at = gone ∙ (λ j. (Main (sym is j), empties i));
      view = to
          ∙
          (let one_less : n - 1 ≡ i = omega arith in
          let far : (m₀.steps + (length c.args.parcels.now.items - n)) + 1 ≡ m₀.steps +
          (length c.args.parcels.now.items - i) =
          omega arith in
          let returning = sym (ap (λ (z : MainView g.row.P-Book.Denot). z.returning) to) in
          let back = sym (ap (λ (z : MainView g.row.P-Book.Denot). z.back) to) in
          λ j.
          let z : MainView g.row.P-Book.Denot = record m₀ {
            with = one_less j;
            returning = returning j;
            back = back j;
            steps = far j;
          } in
          z);
      trail = (let more : suc (length c.args.parcels.now.items - n) ≡ length c.args.parcels.now.items - i = omega arith in
          c.store.ensures.found ∙ (λ j. found 32 (e_is j) ∷ (c.exchange.ensures.trail ∙ inv.trail) j)
          ∙ ap
          (λ z.
          replicate z
          (found 32 (first_of g.P.Parcel.generation c.args.parcels.now.items)) ++ trail_of c.args.seat.now) more);
      few = omega arith;
      first = λ f.
          let t = ap (λ (z : MainView g.row.P-Book.Denot). z.returning) is in
          let c : true ≡ false = sym t ∙ f in
          absurd (cc);
      later = λ _. ap (λ (z : MainView g.row.P-Book.Denot). z.back) is ∙ e_is;
      whole = λ j q at. inv.whole j q (ap (λ l. get_elem? l j) popped ∙ at_longer rest_items (p ∷ []) j q at);
      room = c.in-Some.ensures.capacity ∙ inv.room;
    }
