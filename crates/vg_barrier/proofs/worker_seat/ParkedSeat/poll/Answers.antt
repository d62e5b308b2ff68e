use Rattle.std.proofs.Common.{rules, arith, true, refl, ap, sym, subst, ◌∙◌, ℕ, ◌≡◌, ◌+◌, ◌*◌, ◌/◌, [], ◌∷◌, Some, None}
use Rattle.vg_steps.specs.Seats.{me_of, trail_of}
use Rattle.vg_steps.specs.Trails.{found}
use Rattle.vg_barrier.specs.declared.parcel.Stamped.{Stamped}
use Rattle.vg_barrier.specs.declared.views.WorkerPhase.TheVariants.{Running, Parked, Leaving}
use Rattle.vg_barrier.specs.declared.views.WorkerView.{WorkerView}
use Rattle.vg_barrier.specs.Seats.{worker_view}
use Rattle.vg_barrier.specs.Steps.{read_request, received, departs}
use Rattle.vg_barrier.proofs.WorkerMachine.{reads, receives, leaves}
use Rattle.vg_barrier.proofs.Moves.{last, given, was}
use Rattle.vg_barrier.proofs.Sitting.{worker_is, becomes_worker, odd_phase, even_phase}
use Rattle.vg_barrier.proofs.worker_seat.ParkedSeat.poll.Goals as goal

pub load-word-requires : goal.load-word-requires
load-word-requires g c =
    let e = c.args.self in (
      search rules,
      search rules,
      reads _ _ g.P.Parcel.fits g.P.Parcel.mark g.P.Parcel.generation _ _ _ _
          (worker_view e.seat) _ e.phase.0,
    )

pub invariant_of-result : goal.invariant_of-result
invariant_of-result g c =
    let e = c.args.self in
    let at = e.phase in
    let v : WorkerView g.row.P-Book.Denot = worker_view e.seat in
    let r = c.load-word.result in
    let told = c.load-word.ensures.then v _ at.0 in
    let is = worker_is _ _ c.load-word.new.seat (read_request v r) _ told.0 in record {
      phase =
          becomes_worker _ _ c.load-word.new.seat (read_request v r) Parked _ _ told.0 refl
          (ap (λ (z : WorkerView g.row.P-Book.Denot). z.phase) (odd_phase _ v r Parked Parked at.1 c.if-word-eq1.true refl)) at.2;
      numbered = (e.numbered.0 ∙ ap (λ (z : WorkerView g.row.P-Book.Denot). z.number) (sym is), search rules, e.numbered.2);
    }

pub returns-then-word-eq1 : goal.returns-then-word-eq1
returns-then-word-eq1 g c =
    let e = c.args.self in
    let at = e.phase in
    let v : WorkerView g.row.P-Book.Denot = worker_view e.seat in
    let r = c.load-word.result in
    let told = c.load-word.ensures.then v _ at.0 in
    let is = worker_is _ _ c.load-word.new.seat (read_request v r) _ told.0 in
    record {
      seat = c.load-word.ensures.seat;
      request = r;
      odd = c.if-word-eq1.true;
      opening = told.2;
      trail = c.load-word.ensures.found;
      view = is
          ∙
          (odd_phase _ v r Parked Parked at.1 c.if-word-eq1.true refl
          ∙
          (λ i.
          let u : WorkerView g.row.P-Book.Denot = record v {
            phase = sym at.1 i;
            read = r;
            steps = v.steps + 1;
          } in
          u));
    }

pub load-requires : goal.load-requires
load-requires g c =
    let e = c.args.self in
    let at = e.phase in
    let v : WorkerView g.row.P-Book.Denot = worker_view e.seat in
    let r = c.load-word.result in
    let told = c.load-word.ensures.then v _ at.0 in
    let leaving =
    ap (λ (z : WorkerView g.row.P-Book.Denot). z.phase) (even_phase _ v r Parked Leaving at.1 c.if-word-eq1.false refl) in (
      search rules,
      search rules,
      receives _ _ g.P.Parcel.fits g.P.Parcel.mark g.P.Parcel.generation _ _ _ _
          (read_request v r) _ told.0 leaving at.2,
    )

pub exchange-requires : goal.exchange-requires
exchange-requires g c =
    let e = c.args.self in
    let at = e.phase in
    let v : WorkerView g.row.P-Book.Denot = worker_view e.seat in
    let r = c.load-word.result in
    let told = c.load-word.ensures.then v _ at.0 in
    let leaving =
    ap (λ (z : WorkerView g.row.P-Book.Denot). z.phase) (even_phase _ v r Parked Leaving at.1 c.if-word-eq1.false refl) in
    let n = c.load.result in
    let got = c.load.ensures.then (read_request v r) _ told.0 in
    let x = got.0 in
    let w : WorkerView g.row.P-Book.Denot = received (read_request v r) n in
    (search rules, (Some x, last _ _ _ _ _ (Some x) [] got.1 e.number (sym e.numbered.0)))

pub unreachable-requires : goal.unreachable-requires
unreachable-requires g c =
    let e = c.args.self in
    let at = e.phase in
    let v : WorkerView g.row.P-Book.Denot = worker_view e.seat in
    let r = c.load-word.result in
    let told = c.load-word.ensures.then v _ at.0 in
    let leaving =
    ap (λ (z : WorkerView g.row.P-Book.Denot). z.phase) (even_phase _ v r Parked Leaving at.1 c.if-word-eq1.false refl) in
    let n = c.load.result in
    let got = c.load.ensures.then (read_request v r) _ told.0 in
    let x = got.0 in
    let w : WorkerView g.row.P-Book.Denot = received (read_request v r) n in
    let nothing = was _ _ _ _ _ (Some x) [] got.1 _ _ c.exchange.ensures.old ∙ c.in_default.is in cc

pub fetch_sub-requires : goal.fetch_sub-requires
fetch_sub-requires g c =
    let e = c.args.self in
    let at = e.phase in
    let v : WorkerView g.row.P-Book.Denot = worker_view e.seat in
    let r = c.load-word.result in
    let told = c.load-word.ensures.then v _ at.0 in
    let leaving =
    ap (λ (z : WorkerView g.row.P-Book.Denot). z.phase) (even_phase _ v r Parked Leaving at.1 c.if-word-eq1.false refl) in
    let n = c.load.result in
    let got = c.load.ensures.then (read_request v r) _ told.0 in
    let x = got.0 in
    let w : WorkerView g.row.P-Book.Denot = received (read_request v r) n in
    let now = given _ _ _ _ _ (Some x) [] got.1 (me_of c.exchange.new.seat) e.number None c.exchange.ensures.new in
    (search rules, search rules, leaves _ _ g.P.Parcel.fits g.P.Parcel.mark g.P.Parcel.generation _ _ _ _ w _ now leaving refl)

pub invariant_of-worker : goal.invariant_of-worker
invariant_of-worker g c =
    let e = c.args.self in
    let at = e.phase in
    let v : WorkerView g.row.P-Book.Denot = worker_view e.seat in
    let r = c.load-word.result in
    let told = c.load-word.ensures.then v _ at.0 in
    let leaving =
    ap (λ (z : WorkerView g.row.P-Book.Denot). z.phase) (even_phase _ v r Parked Leaving at.1 c.if-word-eq1.false refl) in
    let n = c.load.result in
    let got = c.load.ensures.then (read_request v r) _ told.0 in
    let x = got.0 in
    let w : WorkerView g.row.P-Book.Denot = received (read_request v r) n in
    let now = given _ _ _ _ _ (Some x) [] got.1 (me_of c.exchange.new.seat) e.number None c.exchange.ensures.new in
    let gone = c.fetch_sub.ensures.then w _ now in let is = worker_is _ _ c.fetch_sub.new.seat (departs w) _ gone in
    let both = was _ _ _ _ _ (Some x) [] got.1 _ _ c.exchange.ensures.old ∙ c.in-Some.is in let q : x ≡ c.in-Some.field-0 = cc in
    record {
      phase = becomes_worker _ _ c.fetch_sub.new.seat (departs w) Running _ _ gone refl refl refl;
      numbered = (e.numbered.0 ∙ ap (λ (z : WorkerView g.row.P-Book.Denot). z.number) (sym is), search rules, e.numbered.2);
      stamped =
          sym
          (ap (λ (z : WorkerView g.row.P-Book.Denot). z.stamp) is
          ∙ (sym got.4 ∙ ap (λ (z : Stamped g.row.P.Denot). z.stamp) q));
    }

pub returns : goal.returns
returns g c =
    let e = c.args.self in
    let at = e.phase in
    let v : WorkerView g.row.P-Book.Denot = worker_view e.seat in
    let r = c.load-word.result in
    let told = c.load-word.ensures.then v _ at.0 in
    let leaving =
    ap (λ (z : WorkerView g.row.P-Book.Denot). z.phase) (even_phase _ v r Parked Leaving at.1 c.if-word-eq1.false refl) in
    let n = c.load.result in
    let got = c.load.ensures.then (read_request v r) _ told.0 in
    let x = got.0 in
    let w : WorkerView g.row.P-Book.Denot = received (read_request v r) n in
    let now = given _ _ _ _ _ (Some x) [] got.1 (me_of c.exchange.new.seat) e.number None c.exchange.ensures.new in
    let gone = c.fetch_sub.ensures.then w _ now in let is = worker_is _ _ c.fetch_sub.new.seat (departs w) _ gone in
    let both = was _ _ _ _ _ (Some x) [] got.1 _ _ c.exchange.ensures.old ∙ c.in-Some.is in let q : x ≡ c.in-Some.field-0 = cc in
    let stamp : ℕ = r / 2 in
    let even = c.if-word-eq1.false in
    let twice : r ≡ 2 * stamp = omega arith in
    let three : ((v.steps + 1) + 1) + 1 ≡ v.steps + 3 = omega arith in
    let generation : n ≡ g.P.Parcel.generation c.in-Some.field-0.parcel = sym got.5
    ∙ ap (λ (z : Stamped g.row.P.Denot). g.P.Parcel.generation z.parcel) q in
    let a = c.fetch_sub.ensures in
    let b = c.exchange.ensures in
    let d = c.load.ensures in
    let f = c.load-word.ensures in
    record {
      seat = (a.seat.0 ∙ (b.seat.0 ∙ (d.seat.0 ∙ f.seat.0)), a.seat.1 ∙ (b.seat.1 ∙ (d.seat.1 ∙ f.seat.1)));
      stamp = stamp;
      arrivals = c.fetch_sub.result;
      view = is
          ∙
          (λ i.
          let u : WorkerView g.row.P-Book.Denot = record v {
            phase = Running;
            has = true;
            read = twice i;
            stamp = stamp;
            generation = generation i;
            steps = three i;
          } in
          u);
      opening_stamp = λ z. let none = told.2 z in omega arith;
      opening_generation = λ z. sym generation ∙ got.6 (let half : stamp ≡ 0 = z in omega arith);
      trail = a.found
          ∙
          (λ i.
          found 16 c.fetch_sub.result ∷
          (b.trail ∙ (d.found ∙ (λ j. found 32 (generation j) ∷ (f.found ∙ (λ k. found 0 (twice k) ∷ trail_of e.seat)) j))) i);
      fits = subst (λ (z : Stamped g.row.P.Denot). g.P.Parcel.fits z.parcel v.book) q got.2;
      mark = ap (λ (z : Stamped g.row.P.Denot). g.P.Parcel.mark z.parcel) (sym q) ∙ got.3;
    }
