use Rattle.std.proofs.Common.{rules, arith, ℕ, ◌≡◌, ◌+◌, ◌*◌, false, [], ◌∷◌, ◌++◌, ◌∙◌, sym, ap, subst, length, length-set, length-append, Some, None, add-one, set}
use Rattle.vg_steps.specs.Trails.{found}
use Rattle.vg_barrier.specs.Answers.{marks_found}
use Rattle.vg_steps.specs.Seats.{me_of, trail_of}
use Rattle.vg_barrier.specs.declared.parcel.Stamped.{Stamped}
use Rattle.vg_barrier.specs.declared.views.MainView.{MainView}
use Rattle.vg_barrier.specs.declared.views.MainPhase.TheVariants.{Holding}
use Rattle.vg_barrier.specs.Seats.{main_view, empties, Whole}
use Rattle.vg_barrier.specs.Steps.{took}
use Rattle.vg_barrier.proofs.MainMachine.{takes_parcel}
use Rattle.vg_barrier.proofs.Moves.{last, given, was}
use Rattle.vg_barrier.proofs.Sitting.{main_is, becomes_main}
use Rattle.vg_barrier.proofs.Taken.{one_more, more_found}
use Rattle.vg_barrier.proofs.holding.take_all.Goals as goal

pub load-requires : goal.load-requires
load-requires g c =
    let inv = c.loop-k.invariant in
    let at = inv.main in
    let m : MainView g.row.P-Book.Denot = main_view c.loop-k.seat in
    let made : m.made ≡ (main_view c.args.seat.now).made = ap (λ (z : MainView g.row.P-Book.Denot). z.made) inv.view in
    let all = c.requires.main.1 in let with_is : m.with ≡ c.loop-k.k = at.2 in let low = c.loop-k-test.true in (
      search rules,
      search rules,
      takes_parcel _ _ g.P.Parcel.fits g.P.Parcel.mark g.P.Parcel.generation _ _ _ _ m _ at.0
          (c.loop-k.k * 16 + 48) (ap (λ z. z * 16 + 48) (sym with_is)) at.1 at.3 (omega arith),
    )

pub exchange-requires : goal.exchange-requires
exchange-requires g c =
    let at = c.loop-k.invariant.main in
    let got = c.load.ensures.then (main_view c.loop-k.seat) _ at.0 in
    (search rules, (Some got.0, last _ _ _ _ _ (Some got.0) _ got.1 c.loop-k.k at.2))

pub unreachable-requires : goal.unreachable-requires
unreachable-requires g c =
    let at = c.loop-k.invariant.main in
    let got = c.load.ensures.then (main_view c.loop-k.seat) _ at.0 in
    let nothing = was _ _ _ _ _ (Some got.0) _ got.1 _ _ c.exchange.ensures.old ∙ c.in_default.is in
    cc

pub loop-k-preserved : goal.loop-k-preserved
loop-k-preserved g c =
    let inv = c.loop-k.invariant in
    let at = inv.main in
    let m₀ : MainView g.row.P-Book.Denot = main_view c.args.seat.now in
    let m : MainView g.row.P-Book.Denot = main_view c.loop-k.seat in
    let k : ℕ = c.loop-k.k in
    let n : ℕ = c.load.result in
    let got = c.load.ensures.then m _ at.0 in
    let x = got.0 in
    let now = given _ _ _ _ _ (Some x) (empties k) got.1 (me_of c.exchange.new.seat) k None c.exchange.ensures.new in
    let both = was _ _ _ _ _ (Some x) (empties k) got.1 _ _ c.exchange.ensures.old ∙ c.in-Some.is in
    let same : x ≡ c.in-Some.field-0 = cc in
    let is = main_is _ _ c.exchange.new.seat (took m n) _ now in
    let to = is ∙ ap (λ (z : MainView g.row.P-Book.Denot). took z n) inv.view in
    let with_is : m.with ≡ k = at.2 in
    let made : m.made ≡ m₀.made = ap (λ (z : MainView g.row.P-Book.Denot). z.made) inv.view in
    let all = c.requires.main.1 in
    let low = c.loop-k-test.true in
    let marks_long = at.4 in
    let marks_are : set m.marks k n ≡ (main_view c.exchange.new.seat).marks = ap (λ j. set m.marks j n) (sym with_is)
    ∙ sym (ap (λ (z : MainView g.row.P-Book.Denot). z.marks) is) in
    let count = inv.count in
    record {
      seat =
          (let a = c.exchange.ensures.seat in let b = c.load.ensures.seat in (a.0 ∙ (b.0 ∙ inv.seat.0), a.1 ∙ (b.1 ∙ inv.seat.1)));
      main =
          becomes_main _ _ c.exchange.new.seat (took m n) Holding (k + 1) false _ now (ap empties (sym (add-one k))) at.1
          (ap (λ z. z + 1) with_is) at.3 (length-set m.marks m.with n ∙ marks_long);
      view = to
          ∙
          (let far : (m₀.steps + k) + 1 ≡ m₀.steps + (k + 1) = omega arith in
          let marks_are = sym (ap (λ (z : MainView g.row.P-Book.Denot). z.marks) to) in
          λ i. let z : MainView g.row.P-Book.Denot = record m₀ { marks = marks_are i; with = k + 1; steps = far i } in
          z);
      trail = c.exchange.ensures.trail
          ∙
          (c.load.ensures.found ∙ (ap (λ t. found (k * 16 + 48) n ∷ t) inv.trail
          ∙ (more_found m.marks k n (trail_of c.args.seat.now) (omega arith)
          ∙ (λ i. marks_found (marks_are i) (sym (add-one k) i) (trail_of c.args.seat.now)))));
      count = ap length c.in-Ok.ensures.items
          ∙ (let l = length-append c.loop-k.parcels.items (c.in-Some.field-0.parcel ∷ []) in omega arith);
      room = (let up = c.in-Ok.ensures.capacity in let room = inv.room in omega arith);
      whole =
          subst
          (λ
          (z : MainView g.row.P-Book.Denot). Whole g.P.Parcel.fits g.P.Parcel.mark g.P.Parcel.generation z z.released c.push.new.self.items)
          (sym is)
          (subst (λ (z : Stamped g.row.P.Denot). c.push.new.self.items ≡ c.loop-k.parcels.items ++ z.parcel ∷ []
          → Whole g.P.Parcel.fits g.P.Parcel.mark g.P.Parcel.generation (took m n) m.released c.push.new.self.items) same
          (λ e.
          one_more _ _ g.P.Parcel.fits g.P.Parcel.mark g.P.Parcel.generation m n c.loop-k.parcels.items c.push.new.self.items x.parcel e
          (count ∙ sym with_is) (omega arith) inv.whole got.2 got.3 got.5) c.in-Ok.ensures.items);
    }
