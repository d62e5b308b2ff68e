use Rattle.std.proofs.Common.{rules, arith, false, refl, ap, sym, ◌∙◌, ◌≡◌, ◌+◌, ◌∷◌}
use Rattle.vg_steps.specs.Trails.{found}
use Rattle.vg_steps.specs.Seats.{trail_of}
use Rattle.vg_barrier.specs.Answers.{marks_found}
use Rattle.vg_barrier.specs.declared.views.MainPhase.TheVariants.{Asked, Holding}
use Rattle.vg_barrier.specs.declared.views.MainView.{MainView}
use Rattle.vg_barrier.specs.Seats.{main_view}
use Rattle.vg_barrier.specs.Steps.{counted_in}
use Rattle.vg_barrier.proofs.MainMachine.{counts_in}
use Rattle.vg_barrier.proofs.Sitting.{main_is, becomes_main, polled_all, polled_wait}
use Rattle.vg_barrier.proofs.main_seat.Asked.poll.Goals as goal

pub load-seen-requires : goal.load-seen-requires
load-seen-requires g c =
    let e = c.args.self in
    let at = e.phase in
    let m : MainView g.row.P-Book.Denot = main_view e.seat in
    let numbers = e.numbers in
    (search rules, search rules, counts_in _ _ g.P.Parcel.fits g.P.Parcel.mark g.P.Parcel.generation _ _ _ _ m _ at.0 at.1)

pub take_all-requires : goal.take_all-requires
take_all-requires g c =
    let e = c.args.self in
    let at = e.phase in
    let m : MainView g.row.P-Book.Denot = main_view e.seat in
    let numbers = e.numbers in
    let told = c.load-seen.ensures.then m _ at.0 in
    let x = c.load-seen.result in
    let is = main_is _ _ c.load-seen.new.seat (counted_in m x) _ told.0 in
    let full : x ≡ m.made = c.if-seen-workers.true ∙ numbers.made in
    let to = polled_all _ m x full in
    record {
      seat = (search rules, search rules, numbers.few);
      main = (
        becomes_main _ _ c.load-seen.new.seat (counted_in m x) Holding 0 false _ told.0 refl
            (ap (λ (z : MainView g.row.P-Book.Denot). z.phase) to) at.2 at.3 at.4,
        numbers.made
            ∙ ap (λ (z : MainView g.row.P-Book.Denot). z.made) (sym is),
      );
      none = e.none;
    }

pub invariant_of-main : goal.invariant_of-main
invariant_of-main g c =
    let e = c.args.self in
    let at = e.phase in
    let m : MainView g.row.P-Book.Denot = main_view e.seat in
    let numbers = e.numbers in
    let told = c.load-seen.ensures.then m _ at.0 in
    let x = c.load-seen.result in
    let is = main_is _ _ c.load-seen.new.seat (counted_in m x) _ told.0 in
    let full : x ≡ m.made = c.if-seen-workers.true ∙ numbers.made in
    let to = polled_all _ m x full in
    let t = c.take_all.ensures in
    let q = is ∙ to in
    let n : MainView g.row.P-Book.Denot = main_view c.take_all.new.seat in
    record {
      phase = t.main;
      numbers = record {
        stamp = numbers.stamp
            ∙ sym (ap (λ (z : MainView g.row.P-Book.Denot). z.stamp) t.view ∙ ap (λ (z : MainView g.row.P-Book.Denot). z.stamp) is);
        made = numbers.made
            ∙ sym (ap (λ (z : MainView g.row.P-Book.Denot). z.made) t.view ∙ ap (λ (z : MainView g.row.P-Book.Denot). z.made) is);
        slots = search rules;
        few = numbers.few;
        some_made = numbers.some_made;
      };
      room = e.room;
    }

pub invariant_of-asked : goal.invariant_of-asked
invariant_of-asked g c =
    let e = c.args.self in
    let at = e.phase in
    let m : MainView g.row.P-Book.Denot = main_view e.seat in
    let numbers = e.numbers in
    let told = c.load-seen.ensures.then m _ at.0 in
    let x = c.load-seen.result in
    let is = main_is _ _ c.load-seen.new.seat (counted_in m x) _ told.0 in
    let not : x ≡ m.made → ⊥ = λ h. c.if-seen-workers.false (h ∙ sym numbers.made) in
    let to = polled_wait _ m x at.1 not in
    record {
      phase =
          becomes_main _ _ c.load-seen.new.seat (counted_in m x) Asked 0 false _ told.0 refl
          (ap (λ (z : MainView g.row.P-Book.Denot). z.phase) to ∙ at.1) at.2 at.3 at.4;
      numbers = record {
        stamp = numbers.stamp ∙ ap (λ (z : MainView g.row.P-Book.Denot). z.stamp) (sym is);
        made = numbers.made ∙ ap (λ (z : MainView g.row.P-Book.Denot). z.made) (sym is);
        slots = search rules;
        few = numbers.few;
        some_made = numbers.some_made;
      };
      none = e.none;
      room = e.room;
    }

pub returns-then-seen-workers : goal.returns-then-seen-workers
returns-then-seen-workers g c =
    let e = c.args.self in
    let at = e.phase in
    let m : MainView g.row.P-Book.Denot = main_view e.seat in
    let numbers = e.numbers in
    let told = c.load-seen.ensures.then m _ at.0 in
    let x = c.load-seen.result in
    let is = main_is _ _ c.load-seen.new.seat (counted_in m x) _ told.0 in
    let full : x ≡ m.made = c.if-seen-workers.true ∙ numbers.made in
    let to = polled_all _ m x full in
    let t = c.take_all.ensures in
    let q = is ∙ to in
    let n : MainView g.row.P-Book.Denot = main_view c.take_all.new.seat in
    let a = c.load-seen.ensures.seat in
    record {
      seat = (t.seat.0 ∙ a.0, t.seat.1 ∙ a.1);
      trail = t.trail
          ∙ (λ i. marks_found n.marks (numbers.made i) ((c.load-seen.ensures.found ∙ (λ j. found 16 (full j) ∷ trail_of e.seat)) i));
      view = t.view
          ∙
          (λ i.
          let z : MainView g.row.P-Book.Denot =
          record (q i) { marks = n.marks; with = numbers.made i; steps = (q i).steps + numbers.made i } in
          z);
      whole = λ k p h.
          let w = t.whole k p h in
          record {
            fits = w.fits;
            mark = w.mark;
            generation = w.generation
                ∙
                (ap (λ (z : MainView g.row.P-Book.Denot). z.released) t.view
                ∙ ap (λ (z : MainView g.row.P-Book.Denot). z.released) is);
          };
      all = t.all.0 ∙ numbers.made;
    }

pub returns-else-seen-workers : goal.returns-else-seen-workers
returns-else-seen-workers g c =
    let e = c.args.self in
    let at = e.phase in
    let m : MainView g.row.P-Book.Denot = main_view e.seat in
    let numbers = e.numbers in
    let told = c.load-seen.ensures.then m _ at.0 in
    let x = c.load-seen.result in
    let is = main_is _ _ c.load-seen.new.seat (counted_in m x) _ told.0 in
    let not : x ≡ m.made → ⊥ = λ h. c.if-seen-workers.false (h ∙ sym numbers.made) in
    record {
      seat = c.load-seen.ensures.seat;
      trail = c.load-seen.ensures.found;
      missing = (let le = told.1 in omega arith);
      view = is ∙ polled_wait _ m x at.1 not;
    }
