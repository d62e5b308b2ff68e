use Rattle.std.proofs.Common.{rules, arith, false, refl, ap, sym, ◌∙◌, ◌≡◌, ◌+◌, ◌*◌, [], ◌∷◌, Some, None}
use Rattle.vg_steps.specs.Seats.{me_of, trail_of}
use Rattle.vg_steps.specs.Trails.{found}
use Rattle.vg_barrier.specs.declared.parcel.Stamped.{Stamped}
use Rattle.vg_barrier.specs.declared.views.WorkerPhase.TheVariants.{Running, Called, Parked}
use Rattle.vg_barrier.specs.declared.views.WorkerView.{WorkerView}
use Rattle.vg_barrier.specs.Seats.{worker_view}
use Rattle.vg_barrier.specs.Steps.{read_request, marked, arrives}
use Rattle.vg_barrier.proofs.WorkerMachine.{reads, marks, parks}
use Rattle.vg_barrier.proofs.Moves.{last, given, was}
use Rattle.vg_barrier.proofs.Sitting.{worker_is, becomes_worker, odd_phase, even_phase}
use Rattle.vg_barrier.proofs.worker_seat.Running.check.Goals as goal

pub load-request-requires : goal.load-request-requires
load-request-requires g c =
    let e = c.args.self.worker in (
      search rules,
      search rules,
      reads _ _ g.P.Parcel.fits g.P.Parcel.mark g.P.Parcel.generation _ _ _ _
          (worker_view e.seat) _ e.phase.0,
    )

pub store-requires : goal.store-requires
store-requires g c =
    let e = c.args.self.worker in
    let at = e.phase in
    let v : WorkerView g.row.P-Book.Denot = worker_view e.seat in
    let r = c.load-request.result in
    let told = c.load-request.ensures.then v _ at.0 in
    let called =
    ap (λ (z : WorkerView g.row.P-Book.Denot). z.phase) (odd_phase _ v r Running Called at.1 c.if-request-eq1.true refl) in (
      search rules,
      search rules,
      marks _ _ g.P.Parcel.fits g.P.Parcel.mark g.P.Parcel.generation _ _ _ _
          (read_request v r) _ told.0 (e.number * 16 + 48) c.mark.result (ap (λ k. k * 16 + 48) e.numbered.0) called,
    )

pub exchange-requires : goal.exchange-requires
exchange-requires g c =
    let e = c.args.self.worker in
    let at = e.phase in
    let v : WorkerView g.row.P-Book.Denot = worker_view e.seat in
    let r = c.load-request.result in
    let told = c.load-request.ensures.then v _ at.0 in
    let called =
    ap (λ (z : WorkerView g.row.P-Book.Denot). z.phase) (odd_phase _ v r Running Called at.1 c.if-request-eq1.true refl) in
    let n = c.mark.result in
    let w : WorkerView g.row.P-Book.Denot = marked (read_request v r) n in
    let stored = c.store.ensures.then (read_request v r) _ told.0 in
    (search rules, (None, last _ _ _ _ _ None [] stored e.number refl))

pub unreachable-requires : goal.unreachable-requires
unreachable-requires g c =
    let e = c.args.self.worker in
    let at = e.phase in
    let v : WorkerView g.row.P-Book.Denot = worker_view e.seat in
    let r = c.load-request.result in
    let told = c.load-request.ensures.then v _ at.0 in
    let called =
    ap (λ (z : WorkerView g.row.P-Book.Denot). z.phase) (odd_phase _ v r Running Called at.1 c.if-request-eq1.true refl) in
    let n = c.mark.result in
    let w : WorkerView g.row.P-Book.Denot = marked (read_request v r) n in
    let stored = c.store.ensures.then (read_request v r) _ told.0 in
    let nothing = was _ _ _ _ _ None [] stored _ _ c.exchange.ensures.old in let there = c.in-Some.is in cc

pub fetch_add-requires : goal.fetch_add-requires
fetch_add-requires g c =
    let e = c.args.self.worker in
    let at = e.phase in
    let v : WorkerView g.row.P-Book.Denot = worker_view e.seat in
    let r = c.load-request.result in
    let told = c.load-request.ensures.then v _ at.0 in
    let called =
    ap (λ (z : WorkerView g.row.P-Book.Denot). z.phase) (odd_phase _ v r Running Called at.1 c.if-request-eq1.true refl) in
    let n = c.mark.result in
    let w : WorkerView g.row.P-Book.Denot = marked (read_request v r) n in
    let stored = c.store.ensures.then (read_request v r) _ told.0 in
    let x : Stamped g.row.P.Denot = record { stamp = e.stamp; parcel = c.args.self.parcel } in
    let now = given _ _ _ _ _ None [] stored (me_of c.exchange.new.seat) e.number (Some x) c.exchange.ensures.new in (
      search rules,
      search rules,
      parks _ _ g.P.Parcel.fits g.P.Parcel.mark g.P.Parcel.generation _ _ _ e.number _ w x now called
          e.numbered.0 c.requires.parcel.fits
          (sym c.mark.ensures) e.stamped c.requires.parcel.generation,
    )

pub invariant_of-result : goal.invariant_of-result
invariant_of-result g c =
    let e = c.args.self.worker in
    let at = e.phase in
    let v : WorkerView g.row.P-Book.Denot = worker_view e.seat in
    let r = c.load-request.result in
    let told = c.load-request.ensures.then v _ at.0 in
    let called =
    ap (λ (z : WorkerView g.row.P-Book.Denot). z.phase) (odd_phase _ v r Running Called at.1 c.if-request-eq1.true refl) in
    let n = c.mark.result in
    let w : WorkerView g.row.P-Book.Denot = marked (read_request v r) n in
    let stored = c.store.ensures.then (read_request v r) _ told.0 in
    let x : Stamped g.row.P.Denot = record { stamp = e.stamp; parcel = c.args.self.parcel } in
    let now = given _ _ _ _ _ None [] stored (me_of c.exchange.new.seat) e.number (Some x) c.exchange.ensures.new in
    let gone = c.fetch_add.ensures.then w e.number (Some x) [] now in
    let is = worker_is _ _ c.fetch_add.new.seat (arrives w) [] gone in
    record {
      phase = becomes_worker _ _ c.fetch_add.new.seat (arrives w) Parked [] [] gone refl refl refl;
      numbered = (e.numbered.0 ∙ ap (λ (z : WorkerView g.row.P-Book.Denot). z.number) (sym is), search rules, e.numbered.2);
    }

pub invariant_of-worker : goal.invariant_of-worker
invariant_of-worker g c =
    let e = c.args.self.worker in
    let at = e.phase in
    let v : WorkerView g.row.P-Book.Denot = worker_view e.seat in
    let r = c.load-request.result in
    let told = c.load-request.ensures.then v _ at.0 in
    let is = worker_is _ _ c.load-request.new.seat (read_request v r) _ told.0 in record {
      phase =
          becomes_worker _ _ c.load-request.new.seat (read_request v r) Running _ _ told.0 refl
          (ap (λ (z : WorkerView g.row.P-Book.Denot). z.phase)
          (even_phase _ v r Running Running at.1 c.if-request-eq1.false refl)) at.2;
      numbered = (e.numbered.0 ∙ ap (λ (z : WorkerView g.row.P-Book.Denot). z.number) (sym is), search rules, e.numbered.2);
      stamped = e.stamped ∙ ap (λ (z : WorkerView g.row.P-Book.Denot). z.stamp) (sym is);
    }

pub returns-in-None : goal.returns-in-None
returns-in-None g c =
    let e = c.args.self.worker in
    let at = e.phase in
    let v : WorkerView g.row.P-Book.Denot = worker_view e.seat in
    let r = c.load-request.result in
    let told = c.load-request.ensures.then v _ at.0 in
    let called =
    ap (λ (z : WorkerView g.row.P-Book.Denot). z.phase) (odd_phase _ v r Running Called at.1 c.if-request-eq1.true refl) in
    let n = c.mark.result in
    let w : WorkerView g.row.P-Book.Denot = marked (read_request v r) n in
    let stored = c.store.ensures.then (read_request v r) _ told.0 in
    let x : Stamped g.row.P.Denot = record { stamp = e.stamp; parcel = c.args.self.parcel } in
    let now = given _ _ _ _ _ None [] stored (me_of c.exchange.new.seat) e.number (Some x) c.exchange.ensures.new in
    let gone = c.fetch_add.ensures.then w e.number (Some x) [] now in
    let is = worker_is _ _ c.fetch_add.new.seat (arrives w) [] gone in
    let a = c.fetch_add.ensures in
    let b = c.exchange.ensures in
    let d = c.store.ensures in
    let f = c.load-request.ensures in
    record {
      seat = (a.seat.0 ∙ (b.seat.0 ∙ (d.seat.0 ∙ f.seat.0)), a.seat.1 ∙ (b.seat.1 ∙ (d.seat.1 ∙ f.seat.1)));
      request = r;
      odd = c.if-request-eq1.true;
      arrivals = c.fetch_add.result;
      view = is
          ∙
          (let three : ((v.steps + 1) + 1) + 1 ≡ v.steps + 3 = omega arith in
          λ i. let u : WorkerView g.row.P-Book.Denot = record v {
            phase = Parked;
            has = false;
            read = r;
            mark = c.mark.ensures i;
            steps = three i;
          } in
          u);
      trail = a.found
          ∙
          (λ i.
          found 16 c.fetch_add.result ∷
          (b.trail ∙ (d.found ∙ (λ j. found (e.numbered.0 j * 16 + 48) (c.mark.ensures j) ∷ f.found j))) i);
    }

pub returns-else-request-eq1 : goal.returns-else-request-eq1
returns-else-request-eq1 g c =
    let e = c.args.self.worker in
    let at = e.phase in
    let v : WorkerView g.row.P-Book.Denot = worker_view e.seat in
    let r = c.load-request.result in
    let told = c.load-request.ensures.then v _ at.0 in
    let is = worker_is _ _ c.load-request.new.seat (read_request v r) _ told.0 in
    let half = told.1 at.2 in
    let even = c.if-request-eq1.false in
    let twice : r ≡ 2 * v.stamp = omega arith in
    record {
      seat = c.load-request.ensures.seat;
      parcel = refl;
      view = is
          ∙
          (even_phase _ v r Running Running at.1 c.if-request-eq1.false refl
          ∙
          (λ i.
          let u : WorkerView g.row.P-Book.Denot = record v {
            phase = sym at.1 i;
            read = twice i;
            steps = v.steps + 1;
          } in
          u));
      trail = c.load-request.ensures.found ∙ (λ i. found 0 (twice i) ∷ trail_of e.seat);
    }
