-- For the clauses of `is_first`, `never_fall` and `Underway::{begin, take_on}`: when packets' legs are due.
use Rattle.std.proofs.Common.{◌≡◌, ◌↔◌, ℕ, zero, suc, ◌+◌, ◌-◌, ◌<◌, ◌≤◌, List, [], ◌∷◌, ◌++◌, length, get_or, drop, refl, sym, ap, subst, ◌∙◌, inl, inr, arith}
use Rattle.std.specs.Prelude.{◌⊎◌, Some, slice_get, slice_set, slice_index_or}
use Rattle.std.proofs.lemmas.List.{get_or-set_same, get_or-set_other, drop_more}
use Rattle.std.proofs.lemmas.Bool.Decides.{eqb_tells}
use Rattle.std.proofs.lemmas.Option.{none-some, same_Some}
use Rattle.std.specs.Prelude.{option_map}
use Rattle.std.specs.List.{enumerate_from}
use Rattle.std.proofs.lemmas.List.{length-map, get_or-map}
use Rattle.std.proofs.lemmas.List.FromFn.{length-enumerate_from, get_or-enumerate_from}
use Rattle.std.proofs.lemmas.Option.{slice_get-map, slice_get_within, slice_get-get_or}
use Rattle.vg_model.specs.declared.fates.Leg.{Leg}
use Rattle.vg_model.specs.Graph.{Graph}
use Rattle.vg_model.specs.Lawful.{NeverFall, StartsAt}
use Rattle.vg_model.proofs.Journeys.{map_some}
use Rattle.vg_capture.specs.declared.captures.Capture.{Capture}
use Rattle.vg_plan.specs.Plan.{Planned, first_generation, limit_of, windows}
use Rattle.vg_plan.proofs.WindowLemmas.{limits_are_fronts}
use Rattle.vg_replay.proofs.CourseLemmas.{generations}
use Rattle.vg_replay.specs.Times.{IsIn}

-- ---- numbers in lists

pub in_front : (k n : ℕ) (ns : List ℕ) → IsIn k (n ∷ ns) → (k ≡ n) ⊎ IsIn k ns
in_front k n ns (zero, e) = inl (sym (same_Some n k e))
in_front k n ns (suc place, e) = inr (place, e)

pub in_none : (k : ℕ) → IsIn k [] → ⊥
in_none k (place, e) = none-some k e

in_append : (k : ℕ) (ns ms : List ℕ) → IsIn k ns → IsIn k (ns ++ ms)
in_append k [] ms h = absurd (in_none k h)
in_append k (n ∷ ns) ms (zero, e) = (zero, e)
in_append k (n ∷ ns) ms (suc place, e) = let rest = in_append k ns ms (place, e) in (suc rest.0, rest.1)

in_last : (k : ℕ) (ns : List ℕ) → IsIn k (ns ++ k ∷ [])
in_last k [] = (zero, refl)
in_last k (n ∷ ns) = let rest = in_last k ns in (suc rest.0, rest.1)

-- ---- the schedule

-- a number put under a generation
abbrev pub put : List (List ℕ) → ℕ → ℕ → List (List ℕ)
put schedule generation number = slice_set schedule generation (slice_index_or schedule generation [] ++ number ∷ [])

-- the others stay
pub in_put : (schedule : List (List ℕ)) (generation number h k : ℕ) → generation < length schedule → IsIn k (slice_index_or schedule h []) → IsIn k (slice_index_or (put schedule generation number) h [])
in_put schedule generation number h k within is = elim (eqb_tells h generation) [
  | inl same ↦
      subst (IsIn k) (sym (ap (λ g. slice_index_or (put schedule generation number) g []) same.1 ∙ get_or-set_same schedule generation (slice_index_or schedule generation [] ++ number ∷ []) [] within))
      (in_append k (slice_index_or schedule generation []) (number ∷ []) (subst (λ g. IsIn k (slice_index_or schedule g [])) same.1 is))
  | inr other ↦
      subst (IsIn k) (sym (get_or-set_other schedule generation h (slice_index_or schedule generation [] ++ number ∷ []) [] other.1)) is
]

-- it is there
pub put_is_in : (schedule : List (List ℕ)) (generation number : ℕ) → generation < length schedule → IsIn number (slice_index_or (put schedule generation number) generation [])
put_is_in schedule generation number within =
    subst (IsIn number) (sym (get_or-set_same schedule generation (slice_index_or schedule generation [] ++ number ∷ []) [] within)) (in_last number (slice_index_or schedule generation []))

-- what stands under another generation than the one that is taken out
pub in_taken : (schedule : List (List ℕ)) (generation h k : ℕ) → generation < h → IsIn k (slice_index_or schedule h []) → IsIn k (slice_index_or (slice_set schedule generation []) h [])
in_taken schedule generation h k later is =
    subst (IsIn k) (sym (get_or-set_other schedule generation h [] [] (λ e. let same : h ≡ generation = e in omega (arith, same, later)))) is

-- ---- generations that never fall

pub never_below : (count least : ℕ) (gs : List ℕ) → NeverFall count least gs → (i h : ℕ) → slice_get gs i ≡ Some h → (least ≤ h) × (h < count)
never_below count least [] falls i h e = absurd (none-some h e)
never_below count least (g ∷ gs) falls zero h e = (let same = same_Some g h e in let a = falls.0 in omega (arith, same, a), let same = same_Some g h e in let b = falls.1 in omega (arith, same, b))
never_below count least (g ∷ gs) falls (suc i) h e =
    let rest = never_below count g gs falls.2 i h e in
    (let a = rest.0 in let b = falls.0 in omega (arith, a, b), rest.1)

-- a later one isn't lower
pub later_not_lower : (count least : ℕ) (gs : List ℕ) → NeverFall count least gs → (i j g h : ℕ) → i < j → slice_get gs i ≡ Some g → slice_get gs j ≡ Some h → g ≤ h
later_not_lower count least [] falls i j g h less at at_j = absurd (none-some g at)
later_not_lower count least (f ∷ gs) falls i zero g h less at at_j = absurd (omega (arith, less))
later_not_lower count least (f ∷ gs) falls zero (suc j) g h less at at_j =
    let same = same_Some f g at in
    let rest = (never_below count f gs falls.2 j h at_j).0 in
    omega (arith, same, rest)
later_not_lower count least (f ∷ gs) falls (suc i) (suc j) g h less at at_j = later_not_lower count f gs falls.2 i j g h (omega (arith, less)) at at_j

module _ (count first : ℕ) (gs : List ℕ) (starts : StartsAt count first gs) where
  falls_not : NeverFall count first gs
  falls_not = by gs starts
    where
      by : (gs : List ℕ) → StartsAt count first gs → NeverFall count first gs
      by [] s = absurd s
      by (g ∷ gs) s = s.1

  -- there is a first one
  pub has_first : (g : ℕ) × (slice_get gs 0 ≡ Some g) × (g < count)
  has_first = by gs starts
    where
      by : (gs : List ℕ) → StartsAt count first gs → (g : ℕ) × (slice_get gs 0 ≡ Some g) × (g < count)
      by [] s = absurd s
      by (g ∷ gs) s = (g, refl, s.1.1)

  -- all are there
  pub starts_below : (i h : ℕ) → slice_get gs i ≡ Some h → h < count
  starts_below i h e = (never_below count first gs falls_not i h e).1

  pub starts_rise : (i j g h : ℕ) → i < j → slice_get gs i ≡ Some g → slice_get gs j ≡ Some h → g ≤ h
  starts_rise i j g h less at at_j = later_not_lower count first gs falls_not i j g h less at at_j

-- ---- the generation of a packet's time

-- the limit that a book has for a generation
pub limit_is : (plan : Planned) (capture : Capture) (book : List (Graph × ℕ)) (g limit : ℕ) → book ≡ windows plan capture
    → option_map (λ (w : Graph × ℕ). w.1) (slice_get book g) ≡ Some limit → limit ≡ limit_of plan.script capture g
limit_is plan capture book g limit is e =
    let found = map_some (λ (w : Graph × ℕ). w.1) (slice_get book g) limit e in
    let f : ℕ × Graph → Graph × ℕ = λ n. (n.1, limit_of plan.script capture n.0) in
    let at : option_map f (slice_get (enumerate_from 0 plan.graphs) g) ≡ Some found.0 = sym (slice_get-map f (enumerate_from 0 plan.graphs) g) ∙ ap (λ b. slice_get b g) (sym is) ∙ found.1 in
    let there = map_some f (slice_get (enumerate_from 0 plan.graphs) g) found.0 at in
    let within : g < length (enumerate_from 0 plan.graphs) = slice_get_within (enumerate_from 0 plan.graphs) g there.0 there.1 in
    let below : g < length plan.graphs = omega (arith, within, length-enumerate_from 0 plan.graphs) in
    let same : there.0 ≡ get_or (enumerate_from 0 plan.graphs) g there.0 = same_Some _ _ (sym there.1 ∙ slice_get-get_or (enumerate_from 0 plan.graphs) g there.0 within) in
    let number : there.0.0 ≡ 0 + g = ap (λ (n : ℕ × Graph). n.0) (same ∙ get_or-enumerate_from 0 plan.graphs g there.0 below) in
    let zero_g : 0 + g ≡ g = omega arith in
    sym found.2 ∙ ap (λ (w : Graph × ℕ). w.1) (sym there.2) ∙ ap (limit_of plan.script capture) (number ∙ zero_g)

-- how many windows a book has
pub book_long : (plan : Planned) (capture : Capture) (book : List (Graph × ℕ)) → book ≡ windows plan capture → length book ≡ length plan.graphs
book_long plan capture book is =
    ap length is ∙ (length-map (enumerate_from 0 plan.graphs) (λ n. (n.1, limit_of plan.script capture n.0)) ∙ length-enumerate_from 0 plan.graphs)

-- a packet below a generation's limit is of it or an earlier one
module _ (plan : Planned) (capture : Capture) (number : ℕ) (within : number < length capture.packets) where
  fronts : (g : ℕ) → (first_generation plan.script capture number ≤ g) ↔ (number < limit_of plan.script capture g)
  fronts g = limits_are_fronts plan.script capture g number within

  pub is_first_zero : (g limit : ℕ) → limit ≡ limit_of plan.script capture g → number < limit → g ≡ 0 → g ≡ first_generation plan.script capture number
  is_first_zero g limit is below zero_g =
      let early : first_generation plan.script capture number ≤ g = (fronts g).1 (omega (arith, is, below)) in
      omega (arith, early, zero_g)

  pub is_first_later : (g limit before : ℕ) → limit ≡ limit_of plan.script capture g → before ≡ limit_of plan.script capture (g - 1) → number < limit → 0 < g → before ≤ number
      → g ≡ first_generation plan.script capture number
  is_first_later g limit before is is_before below some past =
      let early : first_generation plan.script capture number ≤ g = (fronts g).1 (omega (arith, is, below)) in
      let late : first_generation plan.script capture number ≤ g - 1 → ⊥ = λ e. (let under : number < limit_of plan.script capture (g - 1) = (fronts (g - 1)).0 e in omega (arith, under, is_before, past)) in
      omega (arith, early, late, some)

  pub before_is_past : (g before : ℕ) → before ≡ limit_of plan.script capture (g - 1) → 0 < g → g ≡ first_generation plan.script capture number → before ≤ number
  before_is_past g before is_before some is =
      let no_less : (number < limit_of plan.script capture (g - 1)) → ⊥ = λ under. (let early = (fronts (g - 1)).1 under in omega (arith, early, is, some)) in
      omega (arith, no_less, is_before)

  pub not_above : (g limit : ℕ) → limit ≡ limit_of plan.script capture g → limit ≤ number → g ≡ first_generation plan.script capture number → ⊥
  not_above g limit is above e =
      let under : number < limit_of plan.script capture g = (fronts g).0 (omega (arith, e)) in
      omega (arith, under, is, above)

-- one generation more
pub fall_next : (count first least : ℕ) (all gs rest : List ℕ) (g : ℕ) → (NeverFall count first all ↔ NeverFall count least gs) → gs ≡ g ∷ rest → least ≤ g → g < count
    → NeverFall count first all ↔ NeverFall count g rest
fall_next count first least all gs rest g so_far is low high = (
  (λ h. (subst (NeverFall count least) is (so_far.0 h)).2),
  (λ h. so_far.1 (subst (NeverFall count least) (sym is) (low, high, h))),
)

pub fall_low : (count first least : ℕ) (all gs rest : List ℕ) (g : ℕ) → (NeverFall count first all ↔ NeverFall count least gs) → gs ≡ g ∷ rest → g < least → NeverFall count first all → ⊥
fall_low count first least all gs rest g so_far is low h = let low_not = (subst (NeverFall count least) is (so_far.0 h)).0 in omega (arith, low, low_not)

pub fall_high : (count first least : ℕ) (all gs rest : List ℕ) (g : ℕ) → (NeverFall count first all ↔ NeverFall count least gs) → gs ≡ g ∷ rest → count ≤ g → NeverFall count first all → ⊥
fall_high count first least all gs rest g so_far is high h = let below = (subst (NeverFall count least) is (so_far.0 h)).1 in omega (arith, high, below)

pub fall_done : (count first least : ℕ) (all gs : List ℕ) → (NeverFall count first all ↔ NeverFall count least gs) → gs ≡ [] → NeverFall count first all
fall_done count first least all gs so_far is = so_far.1 (subst (NeverFall count least) (sym is) tt)

-- the generations of legs, at a leg that is there
pub next_leg_generation : (legs : List Leg) (k : ℕ) (other : Leg) → k < length legs → drop k (generations legs) ≡ (get_or legs k other).generation ∷ drop (k + 1) (generations legs)
next_leg_generation legs k other below =
    let long : length (generations legs) ≡ length legs = length-map legs (λ (l : Leg). l.generation) in
    let at : get_or (generations legs) k other.generation ≡ (get_or legs k other).generation = get_or-map (λ (l : Leg). l.generation) legs k other other.generation below in
    drop_more (generations legs) k other.generation (omega (arith, long)) ∙ ap (λ g. g ∷ drop (k + 1) (generations legs)) at
