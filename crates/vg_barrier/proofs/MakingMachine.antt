-- For `Barrier::{lay, make_worker, end}`: the rule as a barrier is made, with its workers one by one, and as main is idle.
use Rattle.std.proofs.Common.{◌≡◌, ℕ, ◌+◌, ◌*◌, ◌<◌, ◌≤◌, true, false, List, [], ◌∷◌, ◌++◌, map, length, get_or, set, sym, refl, ap, ◌∙◌, subst, ⊎_elim, arith, Option, length-append}
use mathlib.Core.Option.{none, some, some-injective, some-ne-none}
use mathlib.Core.Option as maybe
use mathlib.Core.List.{map-append}
use lib.ListN.{get_elem?, length-map}
use Rattle.vg_steps.specs.Table.{State, Me, opening, Splits}
use Rattle.vg_steps.proofs.Lists.{at_map}
use Rattle.vg_barrier.specs.declared.parcel.Stamped.{Stamped}
use Rattle.vg_barrier.specs.declared.views.MainPhase.{MainPhase}
use Rattle.vg_barrier.specs.declared.views.MainPhase.TheVariants.{Idle, Holding, Clearing}
use Rattle.vg_barrier.specs.declared.views.WorkerPhase.TheVariants.{Parked}
use Rattle.vg_barrier.specs.declared.views.MainView.{MainView}
use Rattle.vg_barrier.specs.declared.views.WorkerView.{WorkerView}
use Rattle.vg_barrier.specs.declared.views.View.{View}
use Rattle.vg_barrier.specs.declared.views.View.TheVariants.{Main, Worker}
use Rattle.vg_barrier.specs.Machine.{asking, MayBe, has_at, WorkerKept, Kept, opening_view}
use Rattle.vg_barrier.specs.Parcels.{wrapped, AreFirst, AreFirstWords}
use Rattle.vg_barrier.specs.Steps.{made_one, newcomer, with_one_more, with_newcomer}
use Rattle.vg_barrier.proofs.Places.{at_end, there, word_at}
use Rattle.vg_barrier.proofs.Phases.{all_run, arrivals-snoc, has-snoc}
use Rattle.vg_barrier.proofs.Seated.{main_at, all_made}

module _ (P B : Type 0) (fits_book : P → B → Type 0) (mark_of generation_of : P → ℕ) (workers : ℕ) where
  abbrev Item : Type 0
  Item = Option (Stamped P)

  abbrev St : Type 0
  St = State Item (View B)

  abbrev Sat : Type 0
  Sat = Me Item (View B)

  abbrev Slots : Type 0
  Slots = List (ℕ × Item)

  abbrev Homes : Type 0
  Homes = List (maybe.Option Item)

  abbrev Rule : St → Type 0
  Rule = Kept fits_book mark_of generation_of workers

  -- a worker's seat is split off main's
  pub makes_worker : (id : ℕ) (v : View B) (m : MainView B) → v ≡ Main m → m.phase ≡ Clearing → m.made < workers
      → Splits Rule id v (with_one_more v) (with_newcomer v)
  makes_worker id v m is clearing room s r at =
      let found = main_at s r id m (at ∙ ap some is) in
      let same = found.1 in
      let phase : r.main.phase ≡ Clearing = ap (λ (z : MainView B). z.phase) same ∙ clearing in
      let made_is : r.main.made ≡ m.made = ap (λ (z : MainView B). z.made) same in
      let counted : r.main.made ≡ length r.made = r.counted in
      let w : WorkerView B = newcomer r.main in
      let long : length (r.made ++ w ∷ []) ≡ length r.made + 1 = length-append r.made (w ∷ []) in
      let count = r.arrival in
      let more = arrivals-snoc r.made w in
      let fewer : (k : ℕ) → has_at (r.made ++ w ∷ []) k ≡ has_at r.made k = λ k. has-snoc r.made w k refl in
      let before_first = r.unmade (omega arith) in
      let first_word : get_or s.words 0 0 ≡ 0 = r.request
      ∙ ((λ i. 2 * before_first.1 i + asking (before_first.0 i)) ∙ omega arith) in
      subst
      (λ (z : View B).
      Rule record { words = s.words; homes = s.homes; views = set s.views id (with_one_more z) ++ with_newcomer z ∷ [] })
      (sym is)
      (subst (λ (j : ℕ × MainView B). Rule record {
        words = s.words;
        homes = s.homes;
        views = set s.views j.0 (Main (made_one j.1)) ++ Worker (newcomer j.1) ∷ [];
      }) (λ i. (sym found.0 i, same i)) record {
        main = made_one r.main;
        made = r.made ++ w ∷ [];
        views = ap (λ l. set l 0 (Main (made_one r.main)) ++ Worker w ∷ []) r.views
            ∙ ap (λ l. Main (made_one r.main) ∷ l) (sym (map-append Worker r.made (w ∷ [])));
        words = r.words;
        homes = r.homes;
        few = r.few;
        counted = omega arith;
        within = omega arith;
        request = r.request;
        arrival = omega arith;
        unmade = λ l. r.unmade (omega arith);
        opens_at = r.opens_at;
        each = λ k u e. ⊎_elim
            (λ (t : get_elem? r.made k ≡ some u).
            let ok = r.each k u t in
            record {
              number = ok.number;
              may_be = ok.may_be;
              leaves_by = ok.leaves_by;
              fresh = ok.fresh;
              book = ok.book;
              mark = ok.mark;
              has = ok.has;
              newest = ok.newest;
            })
            (λ (t : (k ≡ length r.made) × (w ≡ u)). let is_k : k ≡ r.main.made = t.0
            ∙ sym counted in
            subst
            (λ (x : WorkerView B).
            WorkerKept (made_one r.main) (get_or s.words 0 0) (get_or s.words 32 0)
            (get_or s.words (k * 16 + 48) 0) k x) t.1 record {
              number = sym is_k;
              may_be = subst (λ (p : MainPhase). MayBe p Parked) (sym phase) (λ e. cc);
              leaves_by = λ e. absurd (cc);
              fresh = λ _. (refl, first_word);
              book = refl;
              mark = r.unmade_mark r.main.made (omega arith) (omega arith)
                  ∙ ap (λ (j : ℕ). get_or s.words (j * 16 + 48) 0) (sym is_k);
              has = refl;
              newest = λ e. absurd (cc);
            })
            (at_end r.made w u k e);
        empty_handed = r.empty_handed;
        with_few = r.with_few;
        marked = r.marked;
        slot = λ k l has free.
            let t = r.slot k l (sym (fewer k) ∙ has) free in
            let old = t.2 in
            (t.0, t.1, record { fits = old.fits; mark = old.mark; stamp = old.stamp; generation = old.generation });
        unmade_mark = λ k le lt. r.unmade_mark k (omega arith) lt;
        taken_mark = r.taken_mark;
        published = r.published;
        publishing = r.publishing;
      })

  -- where main is idle, its stamp is half of the request word, no worker counts as arrived, and the published generation is that
  -- of its last release
  pub rests : (s : St) (r : Rule s) (id : ℕ) (m : MainView B) → get_elem? s.views id ≡ some (Main m) → m.phase ≡ Idle
      → (get_or s.words 0 0 ≡ 2 * m.stamp) × (get_or s.words 16 0 ≡ 0) × (get_or s.words 32 0 ≡ m.released)
  rests s r id m at idle =
      let same = (main_at s r id m at).1 in
      let phase : r.main.phase ≡ Idle = ap (λ (z : MainView B). z.phase) same ∙ idle in
      let made = all_made s r (λ e. let p : Idle ≡ Clearing = sym phase ∙ e in cc) in let count = r.arrival in
      let none_left = all_run r.made (λ k v e. subst (λ (p : MainPhase). MayBe p v.phase) phase ((r.each k v e).may_be)) in
      let calm = r.empty_handed (λ e. let p : Idle ≡ Holding = sym phase ∙ e in cc) in (
        r.request ∙ ((λ i. 2 * (same i).stamp + asking (phase i)) ∙ omega arith),
        omega arith,
        r.published calm.1
            ∙ ap (λ (z : MainView B). z.released) same,
      )

  -- a new table
  pub opens : (book : B) (parcels : List P) (ws : List ℕ) → workers ≡ length parcels → workers ≤ 8
      → AreFirst fits_book generation_of book parcels → AreFirstWords ws (map mark_of parcels)
      → Rule (opening ws (map wrapped parcels) (opening_view book (map mark_of parcels)))
  opens book parcels ws all few first laid =
      let long = length-map parcels mark_of in
      let long' = length-map parcels (wrapped {P = P}) in
      let long'' = length-map (map wrapped parcels) (λ (x : Item). some x) in
      let wide = laid.count in
      let counted = laid.arrivals in
      let marks_are : (k : ℕ) → k < workers
      → get_or (map mark_of parcels) k 0 ≡ get_or ws (k * 16 + 48) 0 = λ k l. sym (laid.each k (omega arith)) in
      record {
        main = record {
          book = book;
          phase = Clearing;
          stamp = 0;
          made = 0;
          read = 0;
          steps = 0;
          released = 0;
          marks = map mark_of parcels;
          with = 0;
          returning = false;
          back = 0;
        };
        made = [];
        views = refl;
        words = omega arith;
        homes = omega arith;
        few = few;
        counted = refl;
        within = omega arith;
        request = laid.request;
        arrival = omega arith;
        unmade = λ _. (refl, refl);
        opens_at = λ _. refl;
        each = λ k v e. absurd (some-ne-none v (sym e));
        empty_handed = λ _. (refl, refl);
        with_few = omega arith;
        marked = omega arith;
        slot = λ k l _ _.
            let got = there parcels k (omega arith) in
            let p : P = got.0 in
            let ok = first k p got.1 in (
              record { stamp = 0; parcel = p },
              at_map (λ (x : Item). some x) (map wrapped parcels) k (wrapped p) (at_map wrapped parcels k p got.1),
              record {
                fits = ok.0;
                mark = sym (word_at (map mark_of parcels) k (mark_of p) (at_map mark_of parcels k p got.1)) ∙ marks_are k l;
                stamp = refl;
                generation = ok.1 ∙ sym laid.generation;
              },
            );
        unmade_mark = λ k _ l. marks_are k l;
        taken_mark = λ k l held. ⊎_elim (λ (t : k < 0). absurd (omega arith)) (λ (h : false ≡ true). absurd (cc)) held;
        published = λ _. laid.generation;
        publishing = λ h. absurd (cc);
      }
