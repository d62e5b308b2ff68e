-- For `fill_place` and `put_in_place`: one element is held while others go to their places, and those in front of a place stand at theirs.
use Rattle.std.proofs.Common.{◌≡◌, ◌≢◌, ℕ, ◌+◌, ◌<◌, List, length, get_or, set, refl, sym, subst, ap, ◌∙◌, arith, below_more, length-set, set-set, get_or-set_same, get_or-set_other}
use Rattle.std.specs.List.{HoldsAt, SameBelow, swap}
use Rattle.std.specs.List.Sorted.{IsPermutation}
use Rattle.std.proofs.lemmas.List.{set_comm, set-get_or}
use Rattle.std.proofs.lemmas.List.Edits.{swap_is}
use Rattle.std.proofs.lemmas.List.Sorted.{IsPermutation-refl, IsPermutation-swap, IsPermutation-trans}
use Rattle.vg_fates.proofs.LogLemmas.{AreInPlace}

-- with the one that is held at this place they are those that there were, and none in front of the place has moved
pub record IsHeld {X : Type 0} (start xs : List X) (place : ℕ) (held : X) : Type 0 where
  pub within : place < length xs
  pub same : IsPermutation start (set xs place held)
  pub front : SameBelow start xs place

-- at the start it is the one of the place
pub held_first : {X : Type 0} (xs : List X) (place : ℕ) (d : X) → place < length xs → IsHeld xs xs place (get_or xs place d)
held_first xs place d within = record {
  within = within;
  same = subst (IsPermutation xs) (sym (set-get_or xs place d)) (IsPermutation-refl xs);
  front = λ k e h. refl;
}

-- it goes to another place, and the one that stands there is held
pub held_next : {X : Type 0} {start xs : List X} {place : ℕ} {held : X} (number : ℕ) (d : X) → IsHeld start xs place held → place < number → number < length xs
    → IsHeld start (set xs number held) place (get_or xs number d)
held_next {X} {start} {xs} {place} {held} number d is above inside =
    let there : X = get_or xs number d in
    let whole : List X = set xs place held in
    let within : place < length xs = is.within in
    let size : length whole ≡ length xs = length-set xs place held in
    let apart : place ≢ number = omega arith in
    let read_there : get_or whole number d ≡ there = get_or-set_other xs place number held d (omega arith) in
    let read_held : get_or whole place d ≡ held = get_or-set_same xs place held d within in
    let swapped : set (set xs number held) place there ≡ swap whole place number =
    sym (set_comm xs place number there held apart)
    ∙ ap (λ ys. set ys number held) (sym (set-set xs place held there))
    ∙ ap (λ x. set (set whole place x) number held) (sym read_there)
    ∙ ap (λ x. set (set whole place (get_or whole number d)) number x) (sym read_held)
    ∙ swap_is whole place number d (omega (arith, size)) (omega (arith, size)) in
    record {
      within = let size = length-set xs number held in omega (arith, size);
      same = IsPermutation-trans start whole (set (set xs number held) place there) is.same
          (IsPermutation-swap whole (set (set xs number held) place there) place number (omega (arith, size)) (omega (arith, size)) swapped);
      front = λ k e h. get_or-set_other xs number k held e (omega arith) ∙ is.front k e h;
    }

-- where it comes to the place, none in front of that has moved
pub held_front : {X : Type 0} {start xs : List X} {place : ℕ} {held : X} → IsHeld start xs place held → SameBelow start (set xs place held) place
held_front {X} {start} {xs} {place} {held} is k d h = get_or-set_other xs place k held d (omega arith) ∙ is.front k d h

-- and there it stands
pub held_there : {X : Type 0} (number : X → ℕ) {start xs : List X} {place : ℕ} {held : X} → IsHeld start xs place held → number held ≡ place
    → HoldsAt (λ x. number x ≡ place) (set xs place held) place
held_there number {start} {xs} {place} {held} is at d = ap number (get_or-set_same xs place held d is.within) ∙ at

-- those that stand at the places of their numbers still do
pub kept_in_place : {X : Type 0} (number : X → ℕ) (place : ℕ) (old new : List X) → AreInPlace number place old → SameBelow old new place → AreInPlace number place new
kept_in_place number place old new in_place same i d h = ap number (same i d h) ∙ in_place i d h

-- and so does one more
pub one_more_in_place : {X : Type 0} (number : X → ℕ) (place : ℕ) (xs : List X) → AreInPlace number place xs → HoldsAt (λ x. number x ≡ place) xs place → AreInPlace number (place + 1) xs
one_more_in_place {X} number place xs in_place here i d inside =
    below_more (λ k. (e : X) → number (get_or xs k e) ≡ k) place (λ k h e. in_place k e h) here i inside d
