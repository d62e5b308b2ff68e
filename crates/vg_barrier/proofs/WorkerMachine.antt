-- For `check` of a running seat and `poll` of a parked one: each step of a worker keeps the rule.
use Rattle.std.proofs.Common.{◌≡◌, ◌≢◌, ℕ, suc, ◌+◌, ◌-◌, ◌*◌, ◌/◌, ◌%◌, ◌^◌, ◌<◌, ◌≤◌, true, false, eqb, List, [], ◌∷◌, length, get_or, set}
use Rattle.std.proofs.Common.{sym, refl, ap, ◌∙◌, subst, ◌⊎◌, ⊎_elim, arith, Option, Some, length-set, get_or-set_other, get_or-set_same}
use mathlib.Core.Logic.{dite}
use mathlib.Core.Option.{none, some, some-injective, some-ne-none}
use mathlib.Core.Option as maybe
use native.Mathlib.Decide.{ℕ_discrete}
use lib.ListN.{get_elem?}
use lib.Seq.{map-set, set-get_or}
use Rattle.vg_steps.specs.Table.{State, Me, step, rest, keeps, takes, gives, stepped, Allows}
use Rattle.vg_steps.proofs.Lists.{at_set, set_here, set_else}
use Rattle.vg_barrier.specs.declared.parcel.Stamped.{Stamped}
use Rattle.vg_barrier.specs.declared.views.MainPhase.{MainPhase}
use Rattle.vg_barrier.specs.declared.views.MainPhase.TheVariants.{Idle, Asked, Holding, Clearing}
use Rattle.vg_barrier.specs.declared.views.WorkerPhase.{WorkerPhase}
use Rattle.vg_barrier.specs.declared.views.WorkerPhase.TheVariants.{Running, Called, Parked, Leaving}
use Rattle.vg_barrier.specs.declared.views.MainView.{MainView}
use Rattle.vg_barrier.specs.declared.views.WorkerView.{WorkerView}
use Rattle.vg_barrier.specs.declared.views.View.{View}
use Rattle.vg_barrier.specs.declared.views.View.TheVariants.{Main, Worker}
use Rattle.vg_barrier.specs.Machine.{arrived, asking, MayBe, HasIn, one_if, has_at, WorkerKept, stamp_due, ParcelKept, Kept}
use Rattle.vg_barrier.specs.Steps.{read_request, marked, arrives, received, departs, OfWorker, ReadsRequest, GivesParcel, ReceivesParcel}
use Rattle.vg_barrier.proofs.Places.{inside}
use Rattle.vg_barrier.proofs.Phases.{arrivals-set, called_may_park, has-set_else, has-set_here, has_here, leaving_may_run, odd_asks, read_has, reading_may_be, stays_counted}
use Rattle.vg_barrier.proofs.Seated.{worker_at, worker_or, told_worker, few_arrive}

module _ (P B : Type 0) (fits_book : P → B → Type 0) (mark_of generation_of : P → ℕ) (workers : ℕ) where
  abbrev Item : Type 0
  Item = Option (Stamped P)

  abbrev St : Type 0
  St = State Item (View B)

  abbrev Sat : Type 0
  Sat = Me Item (View B)

  abbrev Slots : Type 0
  Slots = List (ℕ × Item)

  abbrev Homes : Type 0
  Homes = List (maybe.Option Item)

  abbrev Rule : St → Type 0
  Rule = Kept fits_book mark_of generation_of workers

  abbrev Lies : MainView B → ℕ → ℕ → Homes → ℕ → Type 0
  Lies m e n hs k = (x : Stamped P) × (get_elem? hs k ≡ some (some (Some x))) × ParcelKept fits_book mark_of generation_of m e n x

  -- a step of the worker k, from v to w
  pub worker_step : (s : St) (r : Rule s) (k : ℕ) (v w : WorkerView B) (words' : List ℕ) (homes' : Homes)
      → get_elem? r.made k ≡ some v → length words' ≡ length s.words → length homes' ≡ length s.homes
      → get_or words' 0 0 ≡ get_or s.words 0 0 → get_or words' 32 0 ≡ get_or s.words 32 0
      → ((j : ℕ) → j ≢ k → get_or words' (j * 16 + 48) 0 ≡ get_or s.words (j * 16 + 48) 0)
      → ((j : ℕ) → j ≢ k → get_elem? homes' j ≡ get_elem? s.homes j)
      → get_or words' 16 0 + arrived v.phase ≡ get_or s.words 16 0 + arrived w.phase
      → WorkerKept r.main (get_or s.words 0 0) (get_or s.words 32 0) (get_or words' (k * 16 + 48) 0) k w
      → (w.has ≡ false → r.main.with ≤ k → Lies r.main (get_or s.words 32 0) (get_or words' (k * 16 + 48) 0) homes' k)
      → ((k < r.main.with) ⊎ (r.main.returning ≡ true) → get_or words' (k * 16 + 48) 0 ≡ get_or s.words (k * 16 + 48) 0)
      → Rule record { words = words'; homes = homes'; views = set s.views (suc k) (Worker w) }
  worker_step s r k v w words' homes' at wide deep same_r same_e same_m same_h count mine home taken =
      let sum = arrivals-set r.made k v w at in
      let is = r.arrival in
      let long = length-set r.made k w in
      let in_all = r.within in
      let low = inside r.made k v at in record {
        main = r.main;
        made = set r.made k w;
        views = ap (λ l. set l (suc k) (Worker w)) r.views ∙ ap (λ l. Main r.main ∷ l) (sym (map-set Worker r.made k w));
        words = wide ∙ r.words;
        homes = deep ∙ r.homes;
        few = r.few;
        counted = r.counted ∙ sym long;
        within = omega arith;
        request = same_r ∙ r.request;
        arrival = omega arith;
        unmade = λ l. r.unmade (omega arith);
        opens_at = r.opens_at;
        each = λ j u e. ⊎_elim
            (λ (t : (j ≡ k) × (w ≡ u)).
            subst
            (λ (x : ℕ × WorkerView B).
            WorkerKept r.main (get_or words' 0 0) (get_or words' 32 0) (get_or words' (x.0 * 16 + 48) 0) x.0 x.1)
            (λ i. (sym t.0 i, t.1 i))
            (subst (λ (x : ℕ × ℕ). WorkerKept r.main x.0 x.1 (get_or words' (k * 16 + 48) 0) k w) (λ i. (sym same_r i, sym same_e i)) mine))
            (λ (t : (j ≢ k) × (get_elem? r.made j ≡ some u)). subst (λ (x : ℕ × (ℕ × ℕ)). WorkerKept r.main x.0 x.1.0 x.1.1 j u)
            (λ i. (sym same_r i, (sym same_e i, sym (same_m j t.0) i))) (r.each j u t.1))
            (at_set r.made k j w u e);
        empty_handed = r.empty_handed;
        with_few = r.with_few;
        marked = r.marked;
        slot = λ j l has free. dite (ℕ_discrete j k)
            (λ e.
            subst (λ (i : ℕ). Lies r.main (get_or words' 32 0) (get_or words' (i * 16 + 48) 0) homes' i) (sym e)
            (subst (λ (x : ℕ). Lies r.main x (get_or words' (k * 16 + 48) 0) homes' k) (sym same_e)
            (home (sym (has-set_here r.made k v w at) ∙ (ap (has_at (set r.made k w)) (sym e) ∙ has)) (omega arith))))
            (λ ne.
            subst
            (λ (x : maybe.Option (maybe.Option Item) × (ℕ × ℕ)). (y : Stamped P) × (x.0 ≡ some (some (Some y)))
            × ParcelKept fits_book mark_of generation_of r.main x.1.0 x.1.1 y)
            (λ i. (sym (same_h j ne) i, (sym same_e i, sym (same_m j ne) i)))
            (r.slot j l (sym (has-set_else r.made k j w ne) ∙ has) free));
        unmade_mark = λ j le lt. r.unmade_mark j (omega arith) lt ∙ sym (same_m j (λ e. omega arith));
        taken_mark = λ j lt held. r.taken_mark j lt held
            ∙ dite (ℕ_discrete j k)
            (λ e.
            ap (λ (i : ℕ). get_or s.words (i * 16 + 48) 0) e
            ∙
            (sym (taken (subst (λ (i : ℕ). (i < r.main.with) ⊎ (r.main.returning ≡ true)) e held))
            ∙ ap (λ (i : ℕ). get_or words' (i * 16 + 48) 0) (sym e)))
            (λ ne. sym (same_m j ne));
        published = λ e. same_e ∙ r.published e;
        publishing = λ e. let p = r.publishing e in (same_e ∙ p.0, p.1);
      }

  module _ (slots id : ℕ) (me : Sat) (v : WorkerView B) (cs : Slots) (is : me ≡ (Worker v, cs)) where
    same_worker : (u : WorkerView B) (ds : Slots) → me ≡ (Worker u, ds) → v ≡ u
    same_worker u ds e = ap (λ (z : Sat). worker_or v z.0) (sym is ∙ e)

    halved : (x stamp : ℕ) (p : MainPhase) → x ≡ 2 * stamp + asking p → x / 2 ≡ stamp
    halved x stamp Idle e = omega arith
    halved x stamp Asked e = omega arith
    halved x stamp Holding e = omega arith
    halved x stamp Clearing e = omega arith

    -- a worker loads the request word
    pub reads : Allows Rule slots id me 0 (λ n. n) (ReadsRequest fits_book mark_of generation_of (step slots 0 0 0 none) me)
    reads s r _ at _ =
        let x : ℕ = get_or s.words 0 0 in
        let found = worker_at s r id v (at ∙ ap (λ (z : Sat). some z.0) is) in
        let k : ℕ = found.0 in
        let w : WorkerView B = read_request v x in
        let ok = r.each k v found.2 in
        let counted = stays_counted (eqb (x % 2) 1) v.phase in (
          Worker w,
          keeps,
          tt,
          subst (λ (z : ℕ × List ℕ). Rule record { words = z.1; homes = s.homes; views = set s.views z.0 (Worker w) })
              (λ i. (sym found.1 i, sym (set-get_or s.words 0 0) i))
              (worker_step s r k v w s.words s.homes found.2 refl refl refl refl (λ j _. refl) (λ j _. refl) (omega arith)
              record {
                number = ok.number;
                may_be =
                    reading_may_be r.main.phase v.phase (eqb (x % 2) 1)
                    (odd_asks x r.main.stamp r.main.phase (eqb (x % 2) 1) refl r.request) ok.may_be;
                leaves_by = λ _. refl;
                fresh = λ z. absurd (omega arith);
                book = ok.book;
                mark = ok.mark;
                has = read_has (eqb (x % 2) 1) v.phase v.has ok.has;
                newest = ok.newest;
              }
              (λ h free.
              r.slot k (let low = inside r.made k v found.2 in let in_all = r.within in omega arith)
              (has_here r.made k v found.2 ∙ h) free)
              (λ _. refl)),
          λ u ds e. (
            told_worker (λ z. read_request z x) me v u cs ds is e,
            (λ h.
                halved x r.main.stamp r.main.phase r.request
                ∙
                (sym (ok.newest (ap (λ (z : WorkerView B). z.has) (same_worker u ds e) ∙ h)).0
                ∙ ap (λ (z : WorkerView B). z.stamp) (same_worker u ds e))),
            (λ z. (ok.fresh (ap (λ (y : WorkerView B). y.steps) (same_worker u ds e) ∙ z)).1),
          ),
        )

    -- a called worker stores its parcel's mark
    pub marks : (i n : ℕ) → i ≡ v.number * 16 + 48 → v.phase ≡ Called
        → Allows Rule slots id me i (λ _. n) (λ _. OfWorker fits_book mark_of generation_of marked (step slots i n 0 none) me n)
    marks i n place called s r _ at _ =
        let found = worker_at s r id v (at ∙ ap (λ (z : Sat). some z.0) is) in
        let k : ℕ = found.0 in
        let w : WorkerView B = marked v n in
        let ok = r.each k v found.2 in
        let low = inside r.made k v found.2 in
        let in_all = r.within in
        let wide = r.words in
        let is_k : v.number ≡ k = ok.number in
        let here = get_or-set_same s.words i n 0 (omega arith) in
        let asking_now = called_asks r.main.phase v.phase called ok.may_be in
        let calm = r.empty_handed (λ e. let p : Asked ≡ Holding = sym asking_now ∙ e in cc) in
        let has : v.has ≡ true = subst (λ (p : WorkerPhase). HasIn p v.has) called ok.has in
        let here_is : k * 16 + 48 ≡ i = omega arith in
        let at_k : get_or (set s.words i n) (k * 16 + 48) 0 ≡ n = ap (λ (j : ℕ). get_or (set s.words i n) j 0) here_is ∙ here in (
          Worker w,
          keeps,
          tt,
          subst (λ (j : ℕ). Rule record { words = set s.words i n; homes = s.homes; views = set s.views j (Worker w) })
              (sym found.1)
              (worker_step s r k v w (set s.words i n) s.homes found.2 (length-set s.words i n) refl
              (get_or-set_other s.words i 0 n 0 (λ e. omega arith)) (get_or-set_other s.words i 32 n 0 (λ e. omega arith))
              (λ j ne. get_or-set_other s.words i (j * 16 + 48) n 0 (λ e. ne (omega arith))) (λ j _. refl)
              (let same = get_or-set_other s.words i 16 n 0 (λ e. omega arith) in omega arith)
              record {
                number = ok.number;
                may_be = ok.may_be;
                leaves_by = ok.leaves_by;
                fresh = λ z. absurd (omega arith);
                book = ok.book;
                mark = sym at_k;
                has = ok.has;
                newest = ok.newest;
              }
              (λ h free. let c : true ≡ false = sym has ∙ h in absurd (cc))
              (λ held.
              ⊎_elim (λ (l : k < r.main.with). let z = calm.0 in absurd (omega arith))
              (λ (l : r.main.returning ≡ true). let c : true ≡ false = sym l ∙ calm.1 in absurd (cc)) held)),
          λ u ds e. told_worker (λ z. marked z n) me v u cs ds is e,
        )
      where
        called_asks : (p : MainPhase) (q : WorkerPhase) → q ≡ Called → MayBe p q → p ≡ Asked
        called_asks Idle q c h = let e : Called ≡ Running = sym c ∙ h in cc
        called_asks Asked q c h = refl
        called_asks Holding q c h = let e : Called ≡ Parked = sym c ∙ h in cc
        called_asks Clearing q c h = absurd (h c)

    -- a worker takes itself off
    pub leaves : v.phase ≡ Leaving → v.has ≡ true
        → Allows Rule slots id me 16 (λ n. (n + (2 ^ 64 - 1)) % 2 ^ 64)
        (OfWorker fits_book mark_of generation_of (λ u _. departs u) (step slots 16 1 0 none) me)
    leaves leaving has s r _ at _ =
        let x : ℕ = get_or s.words 16 0 in
        let n : ℕ = (x + (2 ^ 64 - 1)) % 2 ^ 64 in
        let found = worker_at s r id v (at ∙ ap (λ (z : Sat). some z.0) is) in
        let k : ℕ = found.0 in
        let w : WorkerView B = departs v in
        let ok = r.each k v found.2 in
        let wide = r.words in
        let few = few_arrive s r in
        let one : arrived v.phase ≡ 1 = ap arrived leaving in
        let set_count = get_or-set_same s.words 16 n 0 (omega arith) in
        let sum = arrivals-set r.made k v w found.2 in
        let a = r.arrival in
        let less : n + 1 ≡ x = omega arith in
        let far : (j : ℕ)
        → get_or (set s.words 16 n) (j * 16 + 48) 0 ≡ get_or s.words (j * 16 + 48) 0 =
        λ j. get_or-set_other s.words 16 (j * 16 + 48) n 0 (λ e. omega arith) in (
          Worker w,
          keeps,
          tt,
          subst (λ (j : ℕ). Rule record { words = set s.words 16 n; homes = s.homes; views = set s.views j (Worker w) })
              (sym found.1)
              (worker_step s r k v w (set s.words 16 n) s.homes found.2 (length-set s.words 16 n) refl
              (get_or-set_other s.words 16 0 n 0 (λ e. omega arith)) (get_or-set_other s.words 16 32 n 0 (λ e. omega arith))
              (λ j _. far j) (λ j _. refl) (omega arith)
              record {
                number = ok.number;
                may_be = leaving_may_run r.main.phase v.phase leaving ok.may_be;
                leaves_by = λ e. absurd (cc);
                fresh = λ z. absurd (omega arith);
                book = ok.book;
                mark = ok.mark ∙ sym (far k);
                has = has;
                newest = ok.newest;
              }
              (λ h free. let c : true ≡ false = sym has ∙ h in absurd (cc)) (λ _. far k)),
          λ u ds e. told_worker departs me v u cs ds is e,
        )

    -- a leaving worker loads the published generation, and takes its parcel
    pub receives : v.phase ≡ Leaving → v.has ≡ false
        → Allows Rule slots id me 32 (λ n. n) (ReceivesParcel fits_book mark_of generation_of (step slots 32 0 0 none) me)
    receives leaving none_yet s r _ at _ =
        let x : ℕ = get_or s.words 32 0 in
        let found = worker_at s r id v (at ∙ ap (λ (z : Sat). some z.0) is) in
        let k : ℕ = found.0 in
        let w : WorkerView B = received v x in
        let ok = r.each k v found.2 in
        let low = inside r.made k v found.2 in
        let in_all = r.within in
        let deep = r.homes in
        let is_k : v.number ≡ k = ok.number in
        let clearing = leaving_clears r.main.phase v.phase leaving ok.may_be in
        let calm = r.empty_handed (λ e. let p : Clearing ≡ Holding = sym clearing ∙ e in cc) in
        let none_with = calm.0 in
        let lies = r.slot k (omega arith) (has_here r.made k v found.2 ∙ none_yet) (omega arith) in
        let y : Stamped P = lies.0 in
        let kept = lies.2 in
        let half : v.read / 2 ≡ r.main.stamp =
        (let q : v.read ≡ 2 * r.main.stamp + 0 = ok.leaves_by leaving
        ∙ (r.request ∙ ap (λ (p : MainPhase). 2 * r.main.stamp + asking p) clearing) in
        omega arith) in
        let due : stamp_due r.main ≡ r.main.stamp = (let z = ap one_if calm.1 in omega arith) in (
          Worker w,
          takes v.number (Some y),
          subst (λ (j : ℕ). get_elem? s.homes j ≡ some (some (Some y))) (sym is_k) lies.1,
          subst
              (λ (z : ℕ × List ℕ).
              Rule record { words = z.1; homes = set s.homes v.number none; views = set s.views z.0 (Worker w) })
              (λ i. (sym found.1 i, sym (set-get_or s.words 32 0) i))
              (worker_step s r k v w s.words (set s.homes v.number none) found.2 refl
              (length-set s.homes v.number none) refl refl (λ j _. refl)
              (λ j ne. set_else s.homes v.number j none (λ e. ne (e ∙ is_k))) refl
              record {
                number = ok.number;
                may_be = ok.may_be;
                leaves_by = ok.leaves_by;
                fresh = λ z. absurd (omega arith);
                book = ok.book;
                mark = ok.mark;
                has = subst (λ (p : WorkerPhase). HasIn p true) (sym leaving) tt;
                newest = λ _. (half, refl);
              }
              (λ h free. absurd (cc)) (λ _. refl)),
          λ u ds e.
              let q = same_worker u ds e in
              subst
              (λ (z : WorkerView B).
              (p : Stamped P)
              × ◌≡◌ {A = Sat} (Worker w, (v.number, Some y) ∷ me.1) (Worker (received z x), (z.number, Some p) ∷ ds)
              × fits_book p.parcel z.book × (mark_of p.parcel ≡ z.mark) × (p.stamp ≡ z.read / 2)
              × (generation_of p.parcel ≡ x) × (z.read ≡ 0 → x ≡ 0)) q (
                y,
                (λ i. (Worker w, (v.number, Some y) ∷ (e i).1)),
                subst (λ (b : B). fits_book y.parcel b)
                    (sym ok.book) kept.fits,
                kept.mark
                    ∙ sym ok.mark,
                kept.stamp
                    ∙ (due ∙ sym half),
                kept.generation,
                (λ z. r.published calm.1 ∙ r.opens_at (let none : v.read ≡ 0 = z in omega arith)),
              ),
        )
      where
        leaving_clears : (p : MainPhase) (q : WorkerPhase) → q ≡ Leaving → MayBe p q → p ≡ Clearing
        leaving_clears Idle q c h = let e : Leaving ≡ Running = sym c ∙ h in cc
        leaving_clears Asked q c h = absurd (h c)
        leaving_clears Holding q c h = let e : Leaving ≡ Parked = sym c ∙ h in cc
        leaving_clears Clearing q c h = refl

  -- a worker counts itself as arrived, and gives its parcel
  pub parks : (slots id i : ℕ) (me : Sat) (v : WorkerView B) (x : Stamped P) → me ≡ (Worker v, (i, Some x) ∷ [])
      → v.phase ≡ Called → i ≡ v.number
      → fits_book x.parcel v.book → mark_of x.parcel ≡ v.mark → x.stamp ≡ v.stamp → generation_of x.parcel ≡ v.generation
      → Allows Rule slots id me 16 (λ n. (n + 1) % 2 ^ 64)
      (GivesParcel fits_book mark_of generation_of (step slots 16 1 0 none) me)
  parks slots id i me v x is called mine whole mark stamp generation s r _ at _ =
      let y : ℕ = get_or s.words 16 0 in
      let n : ℕ = (y + 1) % 2 ^ 64 in
      let found = worker_at s r id v (at ∙ ap (λ (z : Sat). some z.0) is) in
      let k : ℕ = found.0 in
      let w : WorkerView B = arrives v in
      let ok = r.each k v found.2 in
      let wide = r.words in
      let deep = r.homes in
      let low = inside r.made k v found.2 in
      let in_all = r.within in
      let few = few_arrive s r in
      let out : arrived v.phase ≡ 0 = ap arrived called in
      let set_count = get_or-set_same s.words 16 n 0 (omega arith) in
      let sum : n ≡ y + 1 = omega arith in
      let far : (j : ℕ)
      → get_or (set s.words 16 n) (j * 16 + 48) 0 ≡ get_or s.words (j * 16 + 48) 0 =
      λ j. get_or-set_other s.words 16 (j * 16 + 48) n 0 (λ e. omega arith) in
      let is_k : i ≡ k = mine ∙ ok.number in
      let asking_now = not_holding r.main.phase v.phase called ok.may_be in
      let calm = r.empty_handed asking_now in
      let due : stamp_due r.main ≡ r.main.stamp = (let z = ap one_if calm.1 in omega arith) in
      let has : v.has ≡ true = subst (λ (p : WorkerPhase). HasIn p v.has) called ok.has in
      let new = ok.newest has in
      let homes' : Homes = set s.homes i (some (Some x)) in (
        Worker w,
        gives,
        tt,
        subst (λ (cs : Slots). Rule (stepped s 16 n id cs (Worker w) gives)) (sym (ap (λ (z : Sat). z.1) is))
            (subst (λ (j : ℕ). Rule record { words = set s.words 16 n; homes = homes'; views = set s.views j (Worker w) }) (sym found.1)
            (worker_step s r k v w (set s.words 16 n) homes' found.2 (length-set s.words 16 n) (length-set s.homes i (some
            (Some x))) (get_or-set_other s.words 16 0 n 0 (λ e. omega arith)) (get_or-set_other s.words 16 32 n 0
            (λ e. omega arith)) (λ j _. far j)
            (λ j ne. set_else s.homes i j (some (Some x)) (λ e. ne (e ∙ is_k))) (omega arith)
            record {
              number = ok.number;
              may_be = called_may_park r.main.phase v.phase called ok.may_be;
              leaves_by = λ e. absurd (cc);
              fresh = λ z. absurd (omega arith);
              book = ok.book;
              mark = ok.mark ∙ sym (far k);
              has = refl;
              newest = λ e. absurd (cc);
            }
            (λ _ _. (
              x,
              ap (λ (j : ℕ). get_elem? homes' j) (sym is_k) ∙ set_here s.homes i (some (Some x)) (omega arith),
              record {
                fits = subst (λ (b : B). fits_book x.parcel b) ok.book whole;
                mark = mark ∙ (ok.mark ∙ sym (far k));
                stamp = stamp ∙ (new.0 ∙ sym due);
                generation = generation ∙ new.1;
              },
            ))
            (λ _. far k))),
        λ u j z cs e. λ h. (Worker (arrives (worker_or v ((sym is ∙ e) h).0)), rest ((e h).1)),
      )
    where
      not_holding : (p : MainPhase) (q : WorkerPhase) → q ≡ Called → MayBe p q → p ≢ Holding
      not_holding Idle q c h = λ e. cc
      not_holding Asked q c h = λ e. cc
      not_holding Holding q c h = let e : Called ≡ Parked = sym c ∙ h in cc
      not_holding Clearing q c h = λ e. cc
