-- For `MainSeat::ask`, `Asked::poll`, `take_all`, `Held::release`, `return_all` and `Clearing::poll`: each step of main keeps the rule.
use Rattle.std.proofs.Common.{◌≡◌, ◌≢◌, ℕ, ◌+◌, ◌*◌, ◌<◌, ◌≤◌, Bool, true, false, eqb, cond, List, ◌∷◌, length, get_or, set, sym, refl, ap, ◌∙◌, subst, ◌⊎◌, ⊎_elim, inl, inr, arith, Option, Some, length-set, get_or-set_other, get_or-set_same}
use Rattle.std.proofs.lemmas.Bool.{eqb-true}
use mathlib.Core.Logic.{dite}
use mathlib.Core.Option.{none, some, some-injective, some-ne-none}
use mathlib.Core.Option as maybe
use native.Mathlib.Decide.{ℕ_discrete, dec_lt}
use lib.ListN.{get_elem?}
use lib.Seq.{set-get_or}
use Rattle.vg_steps.specs.Table.{State, Me, step, rest, keeps, takes, gives, stepped, Allows}
use Rattle.vg_steps.proofs.Lists.{set_here, set_else}
use Rattle.vg_barrier.specs.declared.parcel.Stamped.{Stamped}
use Rattle.vg_barrier.specs.declared.views.MainPhase.{MainPhase}
use Rattle.vg_barrier.specs.declared.views.MainPhase.TheVariants.{Idle, Asked, Holding, Clearing}
use Rattle.vg_barrier.specs.declared.views.WorkerPhase.{WorkerPhase}
use Rattle.vg_barrier.specs.declared.views.WorkerPhase.TheVariants.{Running, Called, Parked, Leaving}
use Rattle.vg_barrier.specs.declared.views.MainView.{MainView}
use Rattle.vg_barrier.specs.declared.views.WorkerView.{WorkerView}
use Rattle.vg_barrier.specs.declared.views.View.{View}
use Rattle.vg_barrier.specs.declared.views.View.TheVariants.{Main}
use Rattle.vg_barrier.specs.Machine.{asking, MayBe, HasIn, one_if, arrivals, stamp_due, Kept}
use Rattle.vg_barrier.specs.Steps.{asked, counted_in, took, returned_one, released, cleared, OfMain, CountsArrivals, TakesParcel, ReturnsParcel}
use Rattle.vg_barrier.proofs.Phases.{all_arrived, arrivals_le, none_arrived, none_has, parked_if, running_if}
use Rattle.vg_barrier.proofs.Seated.{main_at, main_or, told_main, all_made}

module _ (P B : Type 0) (fits_book : P → B → Type 0) (mark_of generation_of : P → ℕ) (workers : ℕ) where
  abbrev Item : Type 0
  Item = Option (Stamped P)

  abbrev St : Type 0
  St = State Item (View B)

  abbrev Sat : Type 0
  Sat = Me Item (View B)

  abbrev Slots : Type 0
  Slots = List (ℕ × Item)

  abbrev Homes : Type 0
  Homes = List (maybe.Option Item)

  abbrev Rule : St → Type 0
  Rule = Kept fits_book mark_of generation_of workers

  -- a step of main's that moves no parcel, outside Holding
  pub main_calm : (s : St) (r : Rule s) (ph : MainPhase) (a n : ℕ) (words' : List ℕ) → length words' ≡ length s.words
      → get_or words' 0 0 ≡ 2 * r.main.stamp + asking ph → ((j : ℕ) → 0 < j → get_or words' j 0 ≡ get_or s.words j 0)
      → (length r.made < workers → ph ≡ Clearing) → r.main.phase ≢ Holding
      →
      ((k : ℕ) (v : WorkerView B) → get_elem? r.made k ≡ some v
      → MayBe ph v.phase × (v.phase ≡ Leaving → v.read ≡ get_or words' 0 0)
      × (v.steps ≡ 0 → (v.phase ≡ Parked) × (get_or words' 0 0 ≡ 0)))
      → Rule record {
        words = words';
        homes = s.homes;
        views = set s.views 0 (Main (record r.main { phase = ph; read = a; steps = n }));
      }
  main_calm s r ph a n words' wide request same unmade calm may =
      let m' : MainView B = record r.main { phase = ph; read = a; steps = n } in
      let e' = same 32 (omega arith) in
      record {
        main = m';
        made = r.made;
        views = ap (λ l. set l 0 (Main m')) r.views;
        words = wide ∙ r.words;
        homes = r.homes;
        few = r.few;
        counted = r.counted;
        within = r.within;
        request = request;
        arrival = same 16 (omega arith) ∙ r.arrival;
        unmade = λ l. (unmade l, (r.unmade l).1);
        opens_at = r.opens_at;
        each = λ k v at.
            let ok = r.each k v at in
            let may' = may k v at in
            record {
              number = ok.number;
              may_be = may'.0;
              leaves_by = may'.1;
              fresh = may'.2;
              book = ok.book;
              mark = ok.mark ∙ sym (same (k * 16 + 48) (omega arith));
              has = ok.has;
              newest = λ h. let t = ok.newest h in (t.0, t.1 ∙ sym e');
            };
        empty_handed = λ _. r.empty_handed calm;
        with_few = r.with_few;
        marked = r.marked;
        slot = λ k l has free.
            let t = r.slot k l has free in
            let kept = t.2 in (
              t.0,
              t.1,
              record {
                fits = kept.fits;
                mark = kept.mark ∙ sym (same (k * 16 + 48) (omega arith));
                stamp = kept.stamp;
                generation = kept.generation ∙ sym e';
              },
            );
        unmade_mark = λ k le lt. r.unmade_mark k le lt ∙ sym (same (k * 16 + 48) (omega arith));
        taken_mark = λ k lt held. r.taken_mark k lt held ∙ sym (same (k * 16 + 48) (omega arith));
        published = λ h. e' ∙ r.published h;
        publishing = λ h. let p = r.publishing h in (e' ∙ p.0, p.1);
      }

  module _ (slots id : ℕ) (me : Sat) (m : MainView B) (cs : Slots) (is : me ≡ (Main m, cs)) where
    same_main : (u : MainView B) (ds : Slots) → me ≡ (Main u, ds) → m ≡ u
    same_main u ds e = ap (λ (z : Sat). main_or m z.0) (sym is ∙ e)

    -- main stores the odd request word
    pub asks : (n : ℕ) → m.phase ≡ Idle → n ≡ 2 * m.stamp + 1
        → Allows Rule slots id me 0 (λ _. n)
        (λ _. OfMain fits_book mark_of generation_of (λ u _. asked u) (step slots 0 n 0 none) me n)
    asks n idle odd s r _ at _ =
        let found = main_at s r id m (at ∙ ap (λ (z : Sat). some z.0) is) in
        let same = found.1 in
        let wide = r.words in
        let resting : r.main.phase ≡ Idle = ap (λ (z : MainView B). z.phase) same ∙ idle in (
          Main (asked m),
          keeps,
          tt,
          subst
              (λ (j : ℕ × MainView B).
              Rule record { words = set s.words 0 n; homes = s.homes; views = set s.views j.0 (Main (asked j.1)) })
              (λ i. (sym found.0 i, same i))
              (main_calm s r Asked r.main.read (r.main.steps + 1) (set s.words 0 n) (length-set s.words 0 n)
              (get_or-set_same s.words 0 n 0 (omega arith) ∙ (odd ∙ ap (λ (z : MainView B). 2 * z.stamp + 1) (sym same)))
              (λ j l. get_or-set_other s.words 0 j n 0 (λ e. omega arith))
              (λ l. let e : Idle ≡ Clearing = sym resting ∙ (r.unmade l).0 in cc)
              (λ e. let p : Idle ≡ Holding = sym resting ∙ e in cc)
              (λ k v e.
              let ok = r.each k v e in
              let run : v.phase ≡ Running = subst (λ (p : MainPhase). MayBe p v.phase) resting ok.may_be in
              ((λ l. cc), (λ l. absurd (cc)), λ z. let c : Running ≡ Parked = sym run ∙ (ok.fresh z).0 in absurd (cc)))),
          λ u ds e. told_main asked me m u cs ds is e,
        )

    -- main loads the arrival word, and holds where all workers are parked
    pub counts_in : m.phase ≡ Asked
        → Allows Rule slots id me 16 (λ n. n) (CountsArrivals fits_book mark_of generation_of (step slots 16 0 0 none) me)
    counts_in asking_now s r _ at _ =
        let x : ℕ = get_or s.words 16 0 in
        let found = main_at s r id m (at ∙ ap (λ (z : Sat). some z.0) is) in
        let same = found.1 in
        let phase : r.main.phase ≡ Asked = ap (λ (z : MainView B). z.phase) same ∙ asking_now in
        let made = all_made s r (λ e. let p : Asked ≡ Clearing = sym phase ∙ e in cc) in
        let counted : r.main.made ≡ length r.made = r.counted in
        let count = r.arrival in let most = arrivals_le r.made in let full : x ≡ arrivals r.made = omega arith in (
          Main (counted_in m x),
          keeps,
          tt,
          subst
              (λ (j : ℕ × (MainView B × List ℕ)).
              Rule record { words = j.1.1; homes = s.homes; views = set s.views j.0 (Main (counted_in j.1.0 x)) })
              (λ i. (sym found.0 i, (same i, sym (set-get_or s.words 16 0) i)))
              (main_calm s r (cond (eqb x r.main.made) Holding Asked) x (r.main.steps + 1) s.words refl (r.request
              ∙
              (ap (λ (p : MainPhase). 2 * r.main.stamp + asking p) phase
              ∙ ap (λ (z : ℕ). 2 * r.main.stamp + z) (still_asks (eqb x r.main.made)))) (λ j _. refl)
              (λ l. absurd (omega arith)) (λ e. let p : Asked ≡ Holding = sym phase ∙ e in cc)
              (λ k v e.
              let ok = r.each k v e in
              let not_leaving : v.phase ≢ Leaving = subst (λ (p : MainPhase). MayBe p v.phase) phase ok.may_be in (
                holds_if (eqb x r.main.made) v.phase not_leaving (λ b. parked_if v.phase (all_arrived r.made k v (sym full
                    ∙ (eqb-true x r.main.made b ∙ counted)) e) not_leaving),
                (λ l. absurd (not_leaving l)),
                ok.fresh,
              ))),
          λ u ds e. (
            told_main (λ z. counted_in z x) me m u cs ds is e,
            (let q = same ∙ same_main u ds e in
                let le : x ≤ r.main.made = omega arith in
                subst (λ (z : MainView B). x ≤ z.made) q le),
          ),
        )
      where
        still_asks : (b : Bool) → 1 ≡ asking (cond b Holding Asked)
        still_asks true = refl
        still_asks false = refl

        holds_if : (b : Bool) (p : WorkerPhase) → p ≢ Leaving → (b ≡ true → p ≡ Parked) → MayBe (cond b Holding Asked) p
        holds_if true p no_leaving h = h refl
        holds_if false p no_leaving h = no_leaving

    -- main loads the arrival word, and is idle where all workers run
    pub counts_out : m.phase ≡ Clearing
        → Allows Rule slots id me 16 (λ n. n) (OfMain fits_book mark_of generation_of cleared (step slots 16 0 0 none) me)
    counts_out clearing s r _ at _ =
        let x : ℕ = get_or s.words 16 0 in
        let found = main_at s r id m (at ∙ ap (λ (z : Sat). some z.0) is) in
        let same = found.1 in
        let phase : r.main.phase ≡ Clearing = ap (λ (z : MainView B). z.phase) same ∙ clearing in
        let count = r.arrival in
        let in_all = r.within in (
          Main (cleared m x),
          keeps,
          tt,
          subst
              (λ (j : ℕ × (MainView B × List ℕ)).
              Rule record { words = j.1.1; homes = s.homes; views = set s.views j.0 (Main (cleared j.1.0 x)) })
              (λ i. (sym found.0 i, (same i, sym (set-get_or s.words 16 0) i)))
              (main_calm s r (cond (eqb x 0) Idle Clearing) x (r.main.steps + 1) s.words refl (r.request
              ∙
              (ap (λ (p : MainPhase). 2 * r.main.stamp + asking p) phase
              ∙ ap (λ (z : ℕ). 2 * r.main.stamp + z) (still_quiet (eqb x 0)))) (λ j _. refl)
              (λ l. still_clearing (eqb x 0) (λ b. let z = eqb-true x 0 b in omega arith))
              (λ e. let p : Clearing ≡ Holding = sym phase ∙ e in cc)
              (λ k v e.
              let ok = r.each k v e in
              let not_called : v.phase ≢ Called = subst (λ (p : MainPhase). MayBe p v.phase) phase ok.may_be in (
                runs_if (eqb x 0) v.phase not_called (λ b. running_if v.phase (none_arrived r.made k v
                    (let z = eqb-true x 0 b in omega arith) e) not_called),
                ok.leaves_by,
                ok.fresh,
              ))),
          λ u ds e. told_main (λ z. cleared z x) me m u cs ds is e,
        )
      where
        still_quiet : (b : Bool) → 0 ≡ asking (cond b Idle Clearing)
        still_quiet true = refl
        still_quiet false = refl

        still_clearing : (b : Bool) → (b ≡ true → ⊥) → cond b Idle Clearing ≡ Clearing
        still_clearing true h = absurd (h refl)
        still_clearing false h = refl

        runs_if : (b : Bool) (p : WorkerPhase) → p ≢ Called → (b ≡ true → p ≡ Running) → MayBe (cond b Idle Clearing) p
        runs_if true p no_called h = h refl
        runs_if false p no_called h = no_called

    -- main loads the next mark, and takes the parcel
    pub takes_parcel : (i : ℕ) → i ≡ m.with * 16 + 48 → m.phase ≡ Holding → m.returning ≡ false → m.with < m.made
        → Allows Rule slots id me i (λ n. n) (TakesParcel fits_book mark_of generation_of (step slots i 0 0 none) me)
    takes_parcel i place holding taking more s r _ at _ =
        let x : ℕ = get_or s.words i 0 in
        let found = main_at s r id m (at ∙ ap (λ (z : Sat). some z.0) is) in
        let same = found.1 in
        let wide = r.words in
        let deep = r.homes in
        let phase : r.main.phase ≡ Holding = ap (λ (z : MainView B). z.phase) same ∙ holding in
        let made = all_made s r (λ e. let p : Holding ≡ Clearing = sym phase ∙ e in cc) in
        let counted = r.counted in
        let made_is : r.main.made ≡ m.made = ap (λ (z : MainView B). z.made) same in
        let with_is : r.main.with ≡ m.with = ap (λ (z : MainView B). z.with) same in
        let not_yet : r.main.returning ≡ false = ap (λ (z : MainView B). z.returning) same ∙ taking in
        let near : r.main.with < workers = omega arith in
        let lies =
        r.slot r.main.with near
        (none_has r.made
        (λ k v e.
        let ok = r.each k v e in
        let parked : v.phase ≡ Parked = subst (λ (p : MainPhase). MayBe p v.phase) phase ok.may_be in
        subst (λ (p : WorkerPhase). HasIn p v.has) parked ok.has) r.main.with)
        (omega arith) in
        let y : Stamped P = lies.0 in
        let kept = lies.2 in
        let k₀ : ℕ = m.with in
        let homes' : Homes = set s.homes k₀ none in
        let m' : MainView B = took r.main x in
        let long : length r.main.marks ≡ workers = r.marked in
        let due : stamp_due r.main ≡ r.main.stamp = (let z = ap one_if not_yet in omega arith) in (
          Main (took m x),
          takes k₀ (Some y),
          subst (λ (j : ℕ). get_elem? s.homes j ≡ some (some (Some y))) with_is lies.1,
          subst
              (λ (j : ℕ × (MainView B × List ℕ)).
              Rule record { words = j.1.1; homes = homes'; views = set s.views j.0 (Main (took j.1.0 x)) })
              (λ z. (sym found.0 z, (same z, sym (set-get_or s.words i 0) z))) record {
                main = m';
                made = r.made;
                views = ap (λ l. set l 0 (Main m')) r.views;
                words = r.words;
                homes = length-set s.homes k₀ none ∙ r.homes;
                few = r.few;
                counted = r.counted;
                within = r.within;
                request = r.request;
                arrival = r.arrival;
                unmade = r.unmade;
                opens_at = r.opens_at;
                each = λ k v e.
                    let ok = r.each k v e in
                    record {
                      number = ok.number;
                      may_be = ok.may_be;
                      leaves_by = ok.leaves_by;
                      fresh = ok.fresh;
                      book = ok.book;
                      mark = ok.mark;
                      has = ok.has;
                      newest = ok.newest;
                    };
                empty_handed = λ not. absurd (not phase);
                with_few = omega arith;
                marked = length-set r.main.marks r.main.with x ∙ long;
                slot = λ k l has free.
                    let t = r.slot k l has (omega arith) in
                    let old = t.2 in (
                      t.0,
                      set_else s.homes k₀ k none (λ e. omega arith) ∙ t.1,
                      record {
                        fits = old.fits;
                        mark = old.mark;
                        stamp = old.stamp;
                        generation = old.generation;
                      },
                    );
                unmade_mark = λ k le lt. absurd (omega arith);
                taken_mark = λ k lt held. dite (ℕ_discrete k r.main.with)
                    (λ e.
                    ap (λ (j : ℕ). get_or (set r.main.marks r.main.with x) j 0) e
                    ∙
                    (get_or-set_same r.main.marks r.main.with x 0 (omega arith)
                    ∙ ap (λ (j : ℕ). get_or s.words j 0)
                    (place ∙ (let at_k : m.with * 16 + 48 ≡ k * 16 + 48 = omega arith in at_k))))
                    (λ ne.
                    get_or-set_other r.main.marks r.main.with k x 0 (λ e. ne (omega arith))
                    ∙ r.taken_mark k lt
                    (⊎_elim (λ (l : k < r.main.with + 1). inl (omega arith)) (λ (h : r.main.returning ≡ true). inr h) held));
                published = r.published;
                publishing = r.publishing;
              },
          λ u ds e.
              let q = same_main u ds e in
              subst
              (λ (z : MainView B).
              (p : Stamped P)
              × ◌≡◌ {A = Sat} (Main (took m x), (k₀, Some y) ∷ me.1) (Main (took z x), (z.with, Some p) ∷ ds)
              × fits_book p.parcel z.book × (mark_of p.parcel ≡ x) × (p.stamp ≡ z.stamp)
              × (generation_of p.parcel ≡ z.released)) q (
                y,
                (λ i. (Main (took m x), (k₀, Some y) ∷ (e i).1)),
                subst (λ (z : MainView B). fits_book y.parcel z.book) same kept.fits,
                kept.mark ∙ ap (λ (j : ℕ). get_or s.words j 0) (let at_i : r.main.with * 16 + 48 ≡ i = omega arith in at_i),
                kept.stamp ∙ (due ∙ ap (λ (z : MainView B). z.stamp) same),
                kept.generation ∙ (r.published not_yet ∙ ap (λ (z : MainView B). z.released) same),
              ),
        )

    -- main stores the even request word
    pub releases : (n : ℕ) → m.phase ≡ Holding → m.returning ≡ true → m.with ≡ 0 → n ≡ 2 * (m.stamp + 1)
        → Allows Rule slots id me 0 (λ _. n)
        (λ _. OfMain fits_book mark_of generation_of (λ u _. released u) (step slots 0 n 0 none) me n)
    releases n holding returned none_with even s r _ at _ =
        let found = main_at s r id m (at ∙ ap (λ (z : Sat). some z.0) is) in
        let same = found.1 in
        let wide = r.words in
        let phase : r.main.phase ≡ Holding = ap (λ (z : MainView B). z.phase) same ∙ holding in
        let made = all_made s r (λ e. let p : Holding ≡ Clearing = sym phase ∙ e in cc) in
        let back : r.main.returning ≡ true = ap (λ (z : MainView B). z.returning) same ∙ returned in
        let none_is : r.main.with ≡ 0 = ap (λ (z : MainView B). z.with) same ∙ none_with in
        let m' : MainView B = released r.main in
        let stamp_is : r.main.stamp ≡ m.stamp = ap (λ (z : MainView B). z.stamp) same in
        let ws : List ℕ = set s.words 0 n in
        let same_word : (j : ℕ) → 0 < j
        → get_or ws j 0 ≡ get_or s.words j 0 = λ j l. get_or-set_other s.words 0 j n 0 (λ e. omega arith) in
        let one : one_if r.main.returning ≡ 1 = ap one_if back in (
          Main (released m),
          keeps,
          tt,
          subst
              (λ (j : ℕ × MainView B). Rule record { words = ws; homes = s.homes; views = set s.views j.0 (Main (released j.1)) })
              (λ i. (sym found.0 i, same i)) record {
                main = m';
                made = r.made;
                views = ap (λ l. set l 0 (Main m')) r.views;
                words = length-set s.words 0 n ∙ r.words;
                homes = r.homes;
                few = r.few;
                counted = r.counted;
                within = r.within;
                request = get_or-set_same s.words 0 n 0 (omega arith) ∙ (omega arith);
                arrival = same_word 16 (omega arith) ∙ r.arrival;
                unmade = λ l. absurd (omega arith);
                opens_at = λ z. absurd (omega arith);
                each = λ k v e.
                    let ok = r.each k v e in
                    let parked : v.phase ≡ Parked = subst (λ (p : MainPhase). MayBe p v.phase) phase ok.may_be in
                    let has : v.has ≡ false = subst (λ (p : WorkerPhase). HasIn p v.has) parked ok.has in
                    record {
                      number = ok.number;
                      may_be = λ (l : v.phase ≡ Called). cc;
                      leaves_by = λ (l : v.phase ≡ Leaving). absurd (cc);
                      fresh = λ z.
                          let none_asked = (ok.fresh z).1 in
                          let odd : get_or s.words 0 0 ≡ 2 * r.main.stamp + 1 = r.request
                          ∙ ap (λ (p : MainPhase). 2 * r.main.stamp + asking p) phase in
                          absurd (omega arith);
                      book = ok.book;
                      mark = ok.mark ∙ sym (same_word (k * 16 + 48) (omega arith));
                      has = ok.has;
                      newest = λ h. let c : false ≡ true = sym has ∙ h in absurd (cc);
                    };
                empty_handed = λ _. (none_is, refl);
                with_few = r.with_few;
                marked = r.marked;
                slot = λ k l has free.
                    let t = r.slot k l has free in
                    let old = t.2 in (
                      t.0,
                      t.1,
                      record {
                        fits = old.fits;
                        mark = old.mark ∙ sym (same_word (k * 16 + 48) (omega arith));
                        stamp = old.stamp ∙ (omega arith);
                        generation = old.generation ∙ sym (same_word 32 (omega arith));
                      },
                    );
                unmade_mark = λ k le lt. absurd (omega arith);
                taken_mark =
                    λ k lt held. ⊎_elim (λ (l : k < r.main.with). absurd (omega arith)) (λ (h : false ≡ true). absurd (cc)) held;
                published = λ _. same_word 32 (omega arith) ∙ (r.publishing back).0;
                publishing = λ h. absurd (cc);
              },
          λ u ds e. told_main released me m u cs ds is e,
        )

  -- main stores the generation of the last parcel that it has, and puts it back
  pub returns_parcel : (slots id g i : ℕ) (me : Sat) (m : MainView B) (y : Stamped P) (cs : Slots)
      → me ≡ (Main m, (i, Some y) ∷ cs) → m.phase ≡ Holding → m.with ≡ i + 1
      → (m.returning ≡ false → (m.with ≡ m.made) × ((g ≡ m.released) ⊎ (g ≡ m.released + 1))) → (m.returning ≡ true → g ≡ m.back)
      → fits_book y.parcel m.book → mark_of y.parcel ≡ get_or m.marks i 0 → y.stamp ≡ m.stamp + 1 → generation_of y.parcel ≡ g
      → Allows Rule slots id me 32 (λ _. g) (λ _. ReturnsParcel fits_book mark_of generation_of (step slots 32 g 0 none) me g)
  returns_parcel slots id g i me m y cs is holding last first later whole mark stamp generation s r _ at _ =
      let found = main_at s r id m (at ∙ ap (λ (z : Sat). some z.0) is) in
      let same = found.1 in
      let wide = r.words in
      let deep = r.homes in
      let phase : r.main.phase ≡ Holding = ap (λ (z : MainView B). z.phase) same ∙ holding in
      let made = all_made s r (λ e. let p : Holding ≡ Clearing = sym phase ∙ e in cc) in
      let counted = r.counted in
      let with_is : r.main.with ≡ i + 1 = ap (λ (z : MainView B). z.with) same ∙ last in
      let few = r.with_few in
      let m' : MainView B = returned_one r.main g in
      let ws : List ℕ = set s.words 32 g in
      let homes' : Homes = set s.homes i (some (Some y)) in
      let same_word : (j : ℕ) → j ≢ 32
      → get_or ws j 0 ≡ get_or s.words j 0 = λ j ne. get_or-set_other s.words 32 j g 0 (λ e. ne (omega arith)) in
      let e_is : get_or ws 32 0 ≡ g = get_or-set_same s.words 32 g 0 (omega arith) in
      let far : (k : ℕ)
      → get_or ws (k * 16 + 48) 0 ≡ get_or s.words (k * 16 + 48) 0 = λ k. same_word (k * 16 + 48) (λ e. omega arith) in
      let first' : r.main.returning ≡ false
      → (r.main.with ≡ r.main.made)
      × ((g ≡ r.main.released) ⊎ (g ≡ r.main.released + 1)) =
      subst (λ (z : MainView B). z.returning ≡ false → (z.with ≡ z.made) × ((g ≡ z.released) ⊎ (g ≡ z.released + 1)))
      (sym same) first in
      let later' : r.main.returning ≡ true
      → g ≡ r.main.back = subst (λ (z : MainView B). z.returning ≡ true → g ≡ z.back) (sym same) later in
      -- a parcel that was put back earlier, where one was
      let earlier : (k : ℕ) → k < workers → r.main.with ≤ k
      → r.main.returning ≡ true =
      λ k lt le. was_returning r.main.returning (λ f. let t = (first' f).0 in absurd (omega arith)) in (
        Main (returned_one m g),
        gives,
        tt,
        subst (λ (ds : Slots). Rule (stepped s 32 g id ds (Main (returned_one m g)) gives)) (sym (ap (λ (z : Sat). z.1) is))
            (subst (λ (j : ℕ × MainView B). Rule record {
              words = ws;
              homes = homes';
              views = set s.views j.0 (Main (returned_one j.1 g));
            }) (λ i. (sym found.0 i, same i)) record {
              main = m';
              made = r.made;
              views = ap (λ l. set l 0 (Main m')) r.views;
              words = length-set s.words 32 g ∙ r.words;
              homes = length-set s.homes i (some (Some y)) ∙ r.homes;
              few = r.few;
              counted = r.counted;
              within = r.within;
              request = same_word 0 (λ e. omega arith) ∙ r.request;
              arrival = same_word 16 (λ e. omega arith) ∙ r.arrival;
              unmade = r.unmade;
              opens_at = r.opens_at;
              each = λ k v e.
                  let ok = r.each k v e in
                  let parked : v.phase ≡ Parked = subst (λ (p : MainPhase). MayBe p v.phase) phase ok.may_be in
                  let has : v.has ≡ false = subst (λ (p : WorkerPhase). HasIn p v.has) parked ok.has in
                  record {
                    number = ok.number;
                    may_be = ok.may_be;
                    leaves_by = λ l. absurd (cc);
                    fresh = λ z. let f = ok.fresh z in (f.0, same_word 0 (λ e. omega arith) ∙ f.1);
                    book = ok.book;
                    mark = ok.mark ∙ sym (far k);
                    has = ok.has;
                    newest = λ h. let c : false ≡ true = sym has ∙ h in absurd (cc);
                  };
              empty_handed = λ not. absurd (not phase);
              with_few = omega arith;
              marked = r.marked;
              slot = λ k l has free. dite (ℕ_discrete k i)
                  (λ e. (
                    y,
                    ap (λ (j : ℕ). get_elem? homes' j) e ∙ set_here s.homes i (some (Some y)) (omega arith),
                    record {
                      fits = subst (λ (z : MainView B). fits_book y.parcel z.book) (sym same) whole;
                      mark = mark
                          ∙
                          (ap (λ (z : MainView B). get_or z.marks i 0) (sym same)
                          ∙
                          (r.taken_mark i (omega arith) (inl (omega arith))
                          ∙ (sym (far i) ∙ ap (λ (j : ℕ). get_or ws (j * 16 + 48) 0) (sym e))));
                      stamp = stamp ∙ ap (λ (z : MainView B). z.stamp + 1) (sym same);
                      generation = generation ∙ sym e_is;
                    },
                  ))
                  (λ ne.
                  let le : r.main.with ≤ k = omega arith in
                  let ret = earlier k l le in
                  let t = r.slot k l has le in
                  let old = t.2 in
                  let one : one_if r.main.returning ≡ 1 = ap one_if ret in (
                    t.0,
                    set_else s.homes i k (some (Some y)) ne ∙ t.1,
                    record {
                      fits = old.fits;
                      mark = old.mark ∙ sym (far k);
                      stamp = old.stamp ∙ (omega arith);
                      generation = old.generation
                          ∙ ((r.publishing ret).0 ∙ (sym (later' ret) ∙ sym e_is));
                    },
                  ));
              unmade_mark = λ k le lt. absurd (omega arith);
              taken_mark =
                  λ k lt held. dite (dec_lt k r.main.with) (λ l. r.taken_mark k lt (inl l) ∙ sym (far k))
                  (λ l. r.taken_mark k lt (inr (earlier k lt (omega arith))) ∙ sym (far k));
              published = λ h. absurd (cc);
              publishing =
                  λ _. (
                    e_is,
                    either_way r.main.returning (λ f. (first' f).1)
                        (λ b.
                        let p = r.publishing b in
                        subst (λ (z : ℕ). (z ≡ r.main.released) ⊎ (z ≡ r.main.released + 1)) (sym (later' b)) p.1),
                  );
            }),
        λ u j z ds e. λ h. (Main (returned_one (main_or m ((sym is ∙ e) h).0) g), rest ((e h).1)),
      )
    where
      was_returning : (b : Bool) → (b ≡ false → ⊥) → b ≡ true
      was_returning true h = refl
      was_returning false h = absurd (h refl)

      either_way : {X : Type 0} (b : Bool) → (b ≡ false → X) → (b ≡ true → X) → X
      either_way true f t = t refl
      either_way false f t = f refl
