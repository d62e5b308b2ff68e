-- For the clauses `worker` and `turn` of `Worker::turn`, and `worker`, `mark` and `round` of `Worker::finish`: a turn of a worker, that is, what its parcel
-- says, and what it keeps.
use Rattle.std.proofs.Common.{◌≡◌, ◌≢◌, ℕ, zero, suc, ◌+◌, ◌<◌, ◌≤◌, List, [], ◌∷◌, length, map, refl, sym, ap, subst, ◌∙◌, arith}
use Rattle.std.specs.Prelude.{Bool, true, false, Option, Some, None, ◌^◌, min, slice_get}
use Rattle.std.specs.List.{enumerate_from}
use Rattle.std.proofs.lemmas.List.{length-map}
use Rattle.std.proofs.lemmas.List.FromFn.{length-enumerate_from}
use Rattle.std.proofs.lemmas.List.Sums.{count_by-le-length}
use mathlib.Core.Bool.{not}
use denote.Enum.Bare.{sameb}
use Rattle.vg_model.specs.Graph.{Graph}
use Rattle.vg_model.specs.Visit.{Visit}
use Rattle.vg_capture.specs.declared.captures.Capture.{Capture}
use Rattle.vg_script.specs.Events.{events}
use Rattle.vg_plan.specs.Plan.{Planned, IsPlan, limit_of, windows}
use Rattle.vg_plan.proofs.TimesLemmas.{times_are}
use Rattle.vg_plan.proofs.WindowLemmas.{limit_of_last}
use Rattle.vg_plan.proofs.GenerationLemmas.{length_graphs}
use Rattle.vg_journeys.specs.Trips.{Run}
use Rattle.vg_journeys.specs.Accounts.{frames_with}
use Rattle.vg_journeys.specs.Windows.{mark_behind}
use Rattle.vg_dispatch.specs.contracts.parcels.Stop.{the_type}
use Rattle.vg_dispatch.specs.declared.options.Options.{Options}
use Rattle.vg_dispatch.specs.declared.parcels.WorkerParcel.{WorkerParcel}
use Rattle.vg_dispatch.specs.declared.parcels.Stop.{Stop}
use Rattle.vg_dispatch.specs.declared.parcels.Stop.TheVariants as stops
use Rattle.vg_dispatch.specs.declared.turns.Turn.TheVariants as turns
use Rattle.vg_dispatch.specs.Parcels.{Fits, MayStop}
use Rattle.vg_dispatch.specs.Workers.{Windows, WorkerSeat, WorkerBook, intake_from}
use Rattle.vg_dispatch.specs.Standing.{IsAtWork, IsWorkerOf, IsSeatFor, IsSeated, HasParcel, KeepsParcel, IsStopOf, HasStopped}
use Rattle.vg_dispatch.specs.Turned.{Looks, AfterLook, Turns, seat_with}
use Rattle.vg_dispatch.specs.Rounds.{MayTakeFrom, IsRoundOf, RoundsAt, RoundsWith}
use Rattle.vg_dispatch.proofs.SeatLemmas.{seated_after, work_same}
use Rattle.vg_dispatch.proofs.DidLemmas.{tries_same}

-- windows by their generations
at_window : (f : ℕ → ℕ) (k : ℕ) (gs : List Graph) (n : ℕ) (g : Graph) (limit : ℕ) → slice_get (map {B = Graph × ℕ} (λ x. (x.1, f x.0)) (enumerate_from k gs)) n ≡ Some (g, limit) → (slice_get gs n ≡ Some g) × (limit ≡ f (k + n))
at_window f k [] n g limit e = absurd (let h : None ≡ Some (g, limit) = e in cc)
at_window f k (x ∷ xs) zero g limit e =
    let p : (x, f k) ≡ (g, limit) = cc in
    (ap (λ (q : Graph × ℕ). Some q.0) p, sym (ap (λ (q : Graph × ℕ). q.1) p) ∙ ap f (let h : k ≡ k + 0 = omega arith in h))
at_window f k (x ∷ xs) (suc n) g limit e = let rest = at_window f (k + 1) xs n g limit e in (rest.0, rest.1 ∙ ap f (let h : k + 1 + n ≡ k + suc n = omega arith in h))

there_window : (f : ℕ → ℕ) (k : ℕ) (gs : List Graph) (n : ℕ) (g : Graph) → slice_get gs n ≡ Some g → slice_get (map {B = Graph × ℕ} (λ x. (x.1, f x.0)) (enumerate_from k gs)) n ≡ Some (g, f (k + n))
there_window f k [] n g e = absurd (let h : None ≡ Some g = e in cc)
there_window f k (x ∷ xs) zero g e = let p : x ≡ g = cc in ap (λ y. Some (y, f k)) p ∙ ap (λ m. Some (g, f m)) (let h : k ≡ k + 0 = omega arith in h)
there_window f k (x ∷ xs) (suc n) g e = there_window f (k + 1) xs n g e ∙ ap (λ m. Some (g, f m)) (let h : k + 1 + n ≡ k + suc n = omega arith in h)

before_there : (gs : List Graph) (n : ℕ) (g : Graph) → slice_get gs (suc n) ≡ Some g → (b : Graph) × (slice_get gs n ≡ Some b)
before_there [] n g e = absurd (let h : None ≡ Some g = e in cc)
before_there (x ∷ xs) zero g e = (x, refl)
before_there (x ∷ xs) (suc n) g e = before_there xs n g e

pub parcel_graph : (plan : Planned) (capture : Capture) (parcel : WorkerParcel) → Fits parcel (windows plan capture) → slice_get plan.graphs parcel.fork.generation ≡ Some parcel.fork.graph
parcel_graph plan capture parcel is = (at_window (limit_of plan.script capture) 0 plan.graphs parcel.fork.generation parcel.fork.graph parcel.limit is.window).0

pub parcel_limit : (plan : Planned) (capture : Capture) (parcel : WorkerParcel) → Fits parcel (windows plan capture) → parcel.limit ≡ limit_of plan.script capture parcel.fork.generation
parcel_limit plan capture parcel is = (at_window (limit_of plan.script capture) 0 plan.graphs parcel.fork.generation parcel.fork.graph parcel.limit is.window).1
    ∙ ap (limit_of plan.script capture) (let h : 0 + parcel.fork.generation ≡ parcel.fork.generation = omega arith in h)

pub limit_within : (plan : Planned) (capture : Capture) (parcel : WorkerParcel) → Fits parcel (windows plan capture) → (parcel.limit ≤ limit_of plan.script capture parcel.fork.generation) × (parcel.limit ≤ length capture.packets)
limit_within plan capture parcel is =
    let e = parcel_limit plan capture parcel is in let most = limit_few plan capture parcel.fork.generation in
    (omega (arith, e), omega (arith, e, most))
  where
    limit_few : (plan : Planned) (capture : Capture) (generation : ℕ) → limit_of plan.script capture generation ≤ length capture.packets
    limit_few plan capture generation = subst (λ n. limit_of plan.script capture generation ≤ n) (length-enumerate_from 0 capture.packets) (count_by-le-length _ (enumerate_from 0 capture.packets))

pub parcel_now : (plan : Planned) (capture : Capture) (parcel : WorkerParcel) (mark : ℕ) → Fits parcel (windows plan capture) → parcel.next ≡ mark → (earlier : ℕ) → suc earlier ≡ parcel.fork.generation → limit_of plan.script capture earlier ≤ mark
parcel_now plan capture parcel mark is next earlier e =
    let b = before_there plan.graphs earlier parcel.fork.graph (ap (slice_get plan.graphs) e ∙ parcel_graph plan capture parcel is) in
    let h = is.drawn earlier (b.0, limit_of plan.script capture earlier) e (there_window (limit_of plan.script capture) 0 plan.graphs earlier b.0 b.1
    ∙ ap (λ m. Some (b.0, limit_of plan.script capture m)) (let h : 0 + earlier ≡ earlier = omega arith in h)) in
    omega (arith, h, next)

pub parcel_end : (plan : Planned) (capture : Capture) (parcel : WorkerParcel) (mark : ℕ) → IsPlan plan → Fits parcel (windows plan capture) → parcel.next ≡ mark → parcel.stop ≡ stops.End → length capture.packets ≤ mark
parcel_end plan capture parcel mark planned is next stop =
    let over : (parcel.fork.generation + 1 ≡ length (windows plan capture)) × (parcel.limit ≤ parcel.next) = subst (λ s. MayStop s parcel.fork.generation (length (windows plan capture)) parcel.limit parcel.next) stop is.stop in
    let times : List ℕ = map (λ e. e.time) (events plan.script) in
    let many : length (windows plan capture) ≡ length plan.graphs = length-map (enumerate_from 0 plan.graphs) _ ∙ length-enumerate_from 0 plan.graphs in
    let graphs = length_graphs plan planned in
    let timed : length times ≡ length (events plan.script) = length-map (events plan.script) _ in
    let o0 = over.0 in let o1 = over.1 in
    let last = limit_of_last plan.script times capture parcel.fork.generation (times_are plan.script times planned.lawful refl) (omega (arith, many, graphs, timed, o0)) in
    let limit = parcel_limit plan capture parcel is in
    omega (arith, last, limit, o1, next)

pub parcel_on : (book : Windows) (parcel : WorkerParcel) (next : ℕ) → Fits parcel book → parcel.stop ≡ stops.No → parcel.next ≤ next → Fits (record parcel { next = next }) book
parcel_on book parcel next is stop more = record {
  window = is.window;
  drawn = λ earlier before e there. let h = is.drawn earlier before e there in omega (arith, h, more);
  stop = subst (λ s. MayStop s parcel.fork.generation (length book) parcel.limit next) (sym stop) tt;
}

-- the tests of what it says
pub stop_no : (s : Stop) (b : Bool) → b ≡ not (sameb the_type s stops.No) → b ≡ false → s ≡ stops.No
stop_no stops.No b is off = refl
stop_no stops.End b is off = absurd (let k : true ≡ false = sym is ∙ off in cc)
stop_no stops.Lacking b is off = absurd (let k : true ≡ false = sym is ∙ off in cc)

pub stop_some : (s : Stop) (b : Bool) → b ≡ not (sameb the_type s stops.No) → b ≡ true → s ≢ stops.No
stop_some s b is on e = absurd (let k : false ≡ true = sym (is ∙ ap (λ x. not (sameb the_type x stops.No)) e) ∙ on in cc)

stop_is : (parcel : WorkerParcel) (s : Stop) → parcel.stop ≡ s → IsStopOf s (Some parcel)
stop_is parcel stops.No e = tt
stop_is parcel stops.End e = e
stop_is parcel stops.Lacking e = e

-- where the worker sits
pub sits : (book : Windows) (number mark : ℕ) (seat : Option WorkerSeat) (before : WorkerSeat) → seat ≡ Some before → IsSeated book number mark seat → IsSeatFor book number mark before
sits book number mark seat before e is = subst (IsSeated book number mark) e is

pub has_parcel : (book : Windows) (number mark : ℕ) (seat : WorkerSeat) (parcel : WorkerParcel) → IsSeatFor book number mark seat → seat.parcel ≡ Some parcel → HasParcel book mark seat parcel
has_parcel book number mark seat parcel is e = subst (KeepsParcel book mark seat) e is.parcel

pub behind_more_or_same : (workers mark n : ℕ) → mark ≤ mark_behind workers mark n
behind_more_or_same workers mark zero = omega arith
behind_more_or_same workers mark (suc n) = let h = behind_more_or_same workers (mark + workers) n in omega (arith, h)

module _ (visit : Visit) (lossless : Bool) (plan : Planned) (capture : Capture) (options : Options) where
  pub work_seat : {v w : WorkerBook} → v ≡ w → IsAtWork visit lossless plan capture options w → (seat : Option WorkerSeat) (turns : ℕ) (stop : Stop) → IsAtWork visit lossless plan capture options (record v { seat = seat; turns = turns; stop = stop })
  work_seat {v} {w} is h seat turns stop = work_same visit lossless plan capture options v seat turns stop (subst (IsAtWork visit lossless plan capture options) (sym is) h)

  -- the parcel of a worker that looked
  pub looked_has : {v w : WorkerBook} → v ≡ w → IsWorkerOf visit lossless plan capture options w → (before looked : WorkerSeat) (parcel : WorkerParcel) → w.seat ≡ Some before → Looks before looked → looked.parcel ≡ Some parcel
      → HasParcel (windows plan capture) v.mark looked parcel
  looked_has {v} {w} is h before looked parcel sat looks has =
      let seated = seated_after (windows plan capture) w.number w.mark before looked (sits (windows plan capture) w.number w.mark w.seat before sat h.seated) looks in
      subst (λ (x : WorkerBook). HasParcel (windows plan capture) x.mark looked parcel) (sym is) (has_parcel (windows plan capture) w.number w.mark looked parcel seated has)

  -- it has stopped
  pub stopped_here : {v w : WorkerBook} → v ≡ w → IsWorkerOf visit lossless plan capture options w → (before looked : WorkerSeat) (parcel : WorkerParcel) → w.seat ≡ Some before → Looks before looked → looked.parcel ≡ Some parcel → (turns : ℕ)
      → IsWorkerOf visit lossless plan capture options (record v { seat = Some looked; turns = turns; stop = parcel.stop })
  stopped_here {v} {w} is h before looked parcel sat looks has turns =
      let here : IsWorkerOf visit lossless plan capture options v = subst (IsWorkerOf visit lossless plan capture options) (sym is) h in
      let seated = seated_after (windows plan capture) v.number v.mark before looked (sits (windows plan capture) v.number v.mark v.seat before (ap (λ (x : WorkerBook). x.seat) is ∙ sat) here.seated) looks in
      let p = has_parcel (windows plan capture) v.number v.mark looked parcel seated has in
      record {
        work = work_same visit lossless plan capture options v (Some looked) turns parcel.stop here.work;
        seated = seated;
        stopped = subst (IsStopOf parcel.stop) (sym has) (stop_is parcel parcel.stop refl);
        drawn = λ e. parcel_end plan capture parcel v.mark here.work.planned p.fits p.next e;
      }

  -- it is parked
  pub parked_here : {v w : WorkerBook} → v ≡ w → IsWorkerOf visit lossless plan capture options w → (before looked : WorkerSeat) → w.seat ≡ Some before → Looks before looked → v.stop ≡ stops.No → (turns : ℕ)
      → IsWorkerOf visit lossless plan capture options (record v { seat = Some looked; turns = turns; stop = v.stop })
  parked_here {v} {w} is h before looked sat looks goes turns =
      let here : IsWorkerOf visit lossless plan capture options v = subst (IsWorkerOf visit lossless plan capture options) (sym is) h in
      let seated = seated_after (windows plan capture) v.number v.mark before looked (sits (windows plan capture) v.number v.mark v.seat before (ap (λ (x : WorkerBook). x.seat) is ∙ sat) here.seated) looks in
      record {
        work = work_same visit lossless plan capture options v (Some looked) turns v.stop here.work;
        seated = seated;
        stopped = subst (λ s. IsStopOf s looked.parcel) (sym goes) tt;
        drawn = here.drawn;
      }

  -- it ran
  pub ran_here : {v w x y : WorkerBook} → v ≡ w → IsWorkerOf visit lossless plan capture options w → (before looked : WorkerSeat) (parcel : WorkerParcel) → w.seat ≡ Some before → Looks before looked → looked.parcel ≡ Some parcel → parcel.stop ≡ stops.No
      → x ≡ y → IsAtWork visit lossless plan capture options y → y.number ≡ v.number → y.stop ≡ stops.No → v.mark ≤ y.mark → IsWorkerOf visit lossless plan capture options (record x { seat = Some (seat_with looked parcel x.mark) })
  ran_here {v} {w} {x} {y} is h before looked parcel sat looks has on same work number_same stop_same more =
      let here : IsWorkerOf visit lossless plan capture options v = subst (IsWorkerOf visit lossless plan capture options) (sym is) h in
      let seated = seated_after (windows plan capture) v.number v.mark before looked (sits (windows plan capture) v.number v.mark v.seat before (ap (λ (b : WorkerBook). b.seat) is ∙ sat) here.seated) looks in
      let p = has_parcel (windows plan capture) v.number v.mark looked parcel seated has in
      let stop : x.stop ≡ stops.No = ap (λ (b : WorkerBook). b.stop) same ∙ stop_same in
      let marks = ap (λ (b : WorkerBook). b.mark) same in let next = p.next in
      record {
        work = work_same visit lossless plan capture options x (Some (seat_with looked parcel x.mark)) x.turns x.stop (subst (IsAtWork visit lossless plan capture options) (sym same) work);
        seated = record {
          number_is = seated.number_is ∙ sym (ap (λ (b : WorkerBook). b.number) same ∙ number_same);
          book_is = seated.book_is;
          parcel = record { fits = parcel_on (windows plan capture) parcel x.mark p.fits on (omega (arith, more, marks, next)); generation = p.generation; next = refl };
        };
        stopped = subst (λ s. IsStopOf s (Some (record parcel { next = x.mark }))) (sym stop) tt;
        drawn = λ e. absurd (let k : stops.No ≡ stops.End = sym stop ∙ e in cc);
      }

-- what a round did doesn't speak of the seat
pub round_same : (run : Run) (lossless : Bool) (g : Graph) (generation limit : ℕ) (o n : WorkerBook) (s t : Option WorkerSeat) (i j : ℕ) (a b : Stop) → IsRoundOf run lossless g generation limit (record o { seat = s; turns = i; stop = a }) n
    → IsRoundOf run lossless g generation limit o (record n { seat = t; turns = j; stop = b })
round_same run lossless g generation limit o n s t i j a b r =
    let other : WorkerBook = record o { seat = s; turns = i; stop = a } in
    record {
      ticked = r.ticked;
      ticks = r.ticks;
      took = r.took;
      taken = r.taken;
      one = r.one;
      may = r.may;
      tries = λ opens from is. tries_same (MayTakeFrom g generation other r.took from) (MayTakeFrom g generation o r.took from)
          (λ frame may. (may.0, record { taken = may.1.taken; fates = may.1.fates; bytes_most = may.1.bytes_most })) (λ frame may. (may.0, record { taken = may.1.taken; fates = may.1.fates; bytes_most = may.1.bytes_most }))
          (intake_from o from) (intake_from n from) (frames_with from r.took) (r.tries opens from is);
      passes = r.passes;
      filled = r.filled;
      refill = r.refill;
      cached = r.cached;
      draws = r.draws;
      burst = r.burst;
      left = r.left;
      buffers = r.buffers;
      mark = r.mark;
      below = r.below;
      all = r.all;
      none = r.none;
      trips = r.trips;
      adds = r.adds;
      under = r.under;
      counts = r.counts;
      pushes = r.pushes;
      made = r.made;
      pushed = r.pushed;
      put = r.put;
      logged = r.logged;
      log = r.log;
      dropped = r.dropped;
      refused = r.refused;
    }

pub round_seen : {v w x y : WorkerBook} (run : Run) (lossless : Bool) (g : Graph) (generation limit : ℕ) (s t : Option WorkerSeat) (i j : ℕ) (a b : Stop) → v ≡ w → x ≡ y → IsRoundOf run lossless g generation limit (record v { seat = s; turns = i; stop = a }) y
    → IsRoundOf run lossless g generation limit w (record x { seat = t; turns = j; stop = b })
round_seen {v} {w} {x} {y} run lossless g generation limit s t i j a b is same r =
    subst (λ o. IsRoundOf run lossless g generation limit o (record x { seat = t; turns = j; stop = b })) is
    (round_same run lossless g generation limit v x s t i j a b (subst (IsRoundOf run lossless g generation limit (record v { seat = s; turns = i; stop = a })) (sym same) r))

-- a round draws nothing below 0
pub mark_stays : (run : Run) (lossless : Bool) (g : Graph) (generation : ℕ) (o n : WorkerBook) → IsRoundOf run lossless g generation 0 o n → n.mark ≡ o.mark
mark_stays run lossless g generation o n r = at r.draws r.mark r.below
  where
    at : (draws : ℕ) → n.mark ≡ mark_behind o.options.workers o.mark draws → ((k : ℕ) → k < draws → mark_behind o.options.workers o.mark k < 0) → n.mark ≡ o.mark
    at zero e none = e
    at (suc d) e none = absurd (let h = none 0 (omega arith) in omega (arith, h))

pub mark_moves : (run : Run) (lossless : Bool) (g : Graph) (generation limit : ℕ) (o n : WorkerBook) → IsRoundOf run lossless g generation limit o n → o.mark ≤ n.mark
mark_moves run lossless g generation limit o n r = let e = r.mark in let h = behind_more_or_same o.options.workers o.mark r.draws in omega (arith, e, h)

-- the count of turns
pub turn_count : (turns added count : ℕ) → added ≡ min (turns + 1) 18446744073709551615 → count ≡ min added (2 ^ 62) → count ≡ min (turns + 1) (2 ^ 62)
turn_count turns added count added_is count_is = omega (arith, added_is, count_is)

-- turns
pub turns_stopped : (run : Run) (lossless : Bool) {v w : WorkerBook} → v ≡ w → w.stop ≡ stops.No → (before looked : WorkerSeat) (parcel : WorkerParcel) → w.seat ≡ Some before → Looks before looked
    → looked.parcel ≡ Some parcel → parcel.stop ≢ stops.No → (count : ℕ) → count ≡ min (v.turns + 1) (2 ^ 62)
    → Turns w.stop run lossless turns.Stopped w (record v { seat = Some looked; turns = count; stop = parcel.stop })
turns_stopped run lossless {v} {w} is goes before looked parcel sat looks has stop count more =
    subst (λ s. Turns s run lossless turns.Stopped w (record v { seat = Some looked; turns = count; stop = parcel.stop })) (sym goes) (record {
      turns = more ∙ ap (λ (x : WorkerBook). min (x.turns + 1) (2 ^ 62)) is;
      before = before;
      sat = sat;
      looked = looked;
      looks = looks;
      after = subst (λ p. AfterLook turns.Stopped run lossless looked p w (record v { seat = Some looked; turns = count; stop = parcel.stop })) (sym has)
          (stop, ap (λ (x : WorkerBook). record x { seat = Some looked; turns = count; stop = parcel.stop }) is);
    })

pub turns_parked : (run : Run) (lossless : Bool) {v w : WorkerBook} → v ≡ w → w.stop ≡ stops.No → (before looked : WorkerSeat) → w.seat ≡ Some before → Looks before looked → looked.parcel ≡ None → (count : ℕ) → count ≡ min (v.turns + 1) (2 ^ 62)
    → Turns w.stop run lossless turns.Parked w (record v { seat = Some looked; turns = count })
turns_parked run lossless {v} {w} is goes before looked sat looks has count more =
    subst (λ s. Turns s run lossless turns.Parked w (record v { seat = Some looked; turns = count })) (sym goes) (record {
      turns = more ∙ ap (λ (x : WorkerBook). min (x.turns + 1) (2 ^ 62)) is;
      before = before;
      sat = sat;
      looked = looked;
      looks = looks;
      after = subst (λ p. AfterLook turns.Parked run lossless looked p w (record v { seat = Some looked; turns = count })) (sym has) (ap (λ (x : WorkerBook). record x { seat = Some looked; turns = count }) is);
    })

pub turns_ran : (run : Run) (lossless : Bool) (w n : WorkerBook) → w.stop ≡ stops.No → (before looked : WorkerSeat) (parcel : WorkerParcel) → w.seat ≡ Some before → Looks before looked → looked.parcel ≡ Some parcel → parcel.stop ≡ stops.No → n.stop ≡ stops.No
    → n.seat ≡ Some (seat_with looked parcel n.mark) → n.turns ≡ min (w.turns + 1) (2 ^ 62) → IsRoundOf run lossless parcel.fork.graph parcel.fork.generation parcel.limit w n → Turns w.stop run lossless turns.Ran w n
turns_ran run lossless w n goes before looked parcel sat looks has on stop seat more round =
    subst (λ s. Turns s run lossless turns.Ran w n) (sym goes) (record {
      turns = more;
      before = before;
      sat = sat;
      looked = looked;
      looks = looks;
      after = subst (λ p. AfterLook turns.Ran run lossless looked p w n) (sym has) (on, stop, seat, round);
    })

-- the last rounds
pub finished_here : (visit : Visit) (lossless : Bool) (plan : Planned) (capture : Capture) (options : Options) {v w x y : WorkerBook} → v ≡ w → IsWorkerOf visit lossless plan capture options w → (before : WorkerSeat) → w.seat ≡ Some before
    → x ≡ y → IsAtWork visit lossless plan capture options y → y.number ≡ v.number → y.stop ≡ v.stop → y.mark ≡ v.mark → IsWorkerOf visit lossless plan capture options (record x { seat = Some before })
finished_here visit lossless plan capture options {v} {w} {x} {y} is h before sat same work number_same stop_same mark_same =
    let number : x.number ≡ w.number = ap (λ (b : WorkerBook). b.number) same ∙ number_same ∙ ap (λ (b : WorkerBook). b.number) is in
    let mark : x.mark ≡ w.mark = ap (λ (b : WorkerBook). b.mark) same ∙ mark_same ∙ ap (λ (b : WorkerBook). b.mark) is in
    let stop : x.stop ≡ w.stop = ap (λ (b : WorkerBook). b.stop) same ∙ stop_same ∙ ap (λ (b : WorkerBook). b.stop) is in
    record {
      work = work_same visit lossless plan capture options x (Some before) x.turns x.stop (subst (IsAtWork visit lossless plan capture options) (sym same) work);
      seated = subst (λ n. IsSeatFor (windows plan capture) n x.mark before) (sym number) (subst (λ m. IsSeatFor (windows plan capture) w.number m before) (sym mark) (sits (windows plan capture) w.number w.mark w.seat before sat h.seated));
      stopped = subst (λ s. HasStopped s (Some before)) (sym stop) (subst (HasStopped w.stop) sat h.stopped);
      drawn = λ e. let d = h.drawn (sym stop ∙ e) in omega (arith, d, mark);
    }

pub rounds_at : (run : Run) (lossless : Bool) (limit : ℕ) (w n : WorkerBook) (before : WorkerSeat) (parcel : WorkerParcel) → w.seat ≡ Some before → before.parcel ≡ Some parcel
    → IsRoundOf run lossless parcel.fork.graph parcel.fork.generation limit w n → RoundsAt run lossless w.seat limit w n
rounds_at run lossless limit w n before parcel sat has r = subst (λ s. RoundsAt run lossless s limit w n) (sym sat) (subst (λ p. RoundsWith run lossless p limit w n) (sym has) r)
