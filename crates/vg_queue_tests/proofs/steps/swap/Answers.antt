use Rattle.std.proofs.Common.{rules, ◌≡◌, ◌≢◌, ◌∙◌, ◌∷◌, ⊎_elim, ℕ, Bool, true, false, [], List, sym, ap, refl, subst, arith, set, Option, Some}
use mathlib.Core.Option.{some}
use lib.ListN.{get_elem?}
use Rattle.vg_steps.specs.Trails.{found}
use Rattle.vg_steps.specs.Seats.{id_of, me_of}
use Rattle.vg_steps.specs.Table.{Me, takes, gives, put_back, rest}
use Rattle.vg_steps.proofs.Lists.{at_set, set_here}
use Rattle.vg_queue_tests.proofs.steps.swap.Goals as goal

-- the box is at home while the first seat doesn't hold it
pub load-number-requires : goal.load-number-requires
load-number-requires c =
    let seat = c.requires.seat in (
      search rules,
      search rules,
      λ s r deep at low.
          let first : get_elem? s.views 0 ≡ some false = (λ i. get_elem? s.views (sym seat.0 i)) ∙ (at ∙ ap (λ (m : Me (Option ℕ) Bool). some m.0) seat.1) in
          let box = r false first refl in (
            true,
            takes 0 box.0,
            box.1,
            λ v e out.
                ⊎_elim (λ (t : (0 ≡ _) × (true ≡ v)). let c : true ≡ false = t.1 ∙ out in absurd (cc)) (λ (t : (0 ≢ _) × (get_elem? s.views 0 ≡ some v)). absurd (t.0 (sym seat.0)))
                (at_set s.views _ 0 true v e),
            (box.0, λ i. (true, (0, box.0) ∷ (seat.1 i).1)),
          ),
    )

pub exchange-old-requires : goal.exchange-old-requires
exchange-old-requires c =
    let opened = c.load-number.ensures.then in
    (search rules, (opened.0, ap (λ (m : Me (Option ℕ) Bool). m.1) opened.1 ∙ (λ i. (0, opened.0) ∷ rest ((sym opened.1 i).1))))

pub store-requires : goal.store-requires
store-requires c =
    let opened = c.load-number.ensures.then in
    let new : Option ℕ = Some c.args.new in
    let held : me_of c.exchange-old.new.seat ≡ (true, (0, new) ∷ []) = c.exchange-old.ensures.new ∙ (λ i. ((opened.1 i).0, (0, new) ∷ rest ((opened.1 i).1))) in
    let deep_enough = c.requires.table in (
      search rules,
      search rules,
      λ s r deep at low. (
        false,
        gives,
        tt,
        subst (λ (cs : List (ℕ × Option ℕ)). (v : Bool) → get_elem? (set s.views (id_of c.exchange-old.new.seat) false) 0 ≡ some v → v ≡ false → (x : Option ℕ) × (get_elem? (put_back s.homes cs) 0 ≡ some (some x)))
            (sym (ap (λ (m : Me (Option ℕ) Bool). m.1) held))
            (λ v e out. (new, set_here s.homes 0 (some new) (omega arith))),
        λ i. (false, rest ((held i).1)),
      ),
    )

pub returns-clause-trail : goal.returns-clause-trail
returns-clause-trail c =
    let n : ℕ = c.load-number.result in
    (n, c.store.ensures.found ∙ ap (λ t. found 0 n ∷ t) (c.exchange-old.ensures.trail ∙ c.load-number.ensures.found))
