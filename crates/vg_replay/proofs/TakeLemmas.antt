-- For the clause of `Underway::take_on`: a packet that is taken on.
use Rattle.std.proofs.Common.{◌≡◌, ℕ, suc, ◌+◌, ◌<◌, ◌≤◌, List, [], ◌∷◌, length, get_or, drop, refl, sym, ap, subst, ◌∙◌, arith}
use Rattle.std.specs.Prelude.{Option, Some, None, slice_get}
use Rattle.std.specs.List.{AllByRecursion}
use Rattle.std.proofs.lemmas.List.{drop_more}
use Rattle.std.proofs.lemmas.Option.{none-some, same_Some, slice_get_within, slice_get-get_or}
use Rattle.vg_model.specs.declared.fates.Leg.{Leg}
use Rattle.vg_model.specs.Journey.{Choice, Course, end_of}
use Rattle.vg_replay.specs.Counts.{CanCount}
use Rattle.vg_replay.specs.Courses.{in_hand}
use Rattle.vg_replay.specs.Tasks.{Task, IsInTime}
use Rattle.vg_replay.specs.Trips.{next_generation}
use Rattle.vg_replay.specs.Underway.{IsUnderway, IsDue, AreUnderway, Keeps}
use Rattle.vg_replay.specs.Walks.{IsHere, IsGoneOn}
use Rattle.vg_replay.specs.declared.underway.Underway.{Underway}
use Rattle.vg_replay.proofs.CourseLemmas.{generations}
use Rattle.vg_replay.proofs.InputLemmas.{with_legs}
use Rattle.vg_replay.proofs.TimeLemmas.{starts_below}
use Rattle.vg_replay.proofs.UnderwayLemmas.{passed_over, is_here, is, put_back, stands_few, can_count}
use Rattle.vg_replay.proofs.WalkLemmas.{IsSound}

-- legs whose generations are all below a number
all_below : (count : ℕ) (legs : List Leg) → ((i h : ℕ) → slice_get (generations legs) i ≡ Some h → h < count) → AllByRecursion (λ (leg : Leg). leg.generation < count) legs
all_below count [] f = tt
all_below count (leg ∷ legs) f = (f 0 leg.generation refl, all_below count legs (λ i h e. f (suc i) h e))

-- past the end of a list
pub past_end : (gs : List ℕ) (k : ℕ) → slice_get gs k ≡ None → length gs ≤ k
past_end gs k e = (let never : k < length gs → ⊥ = λ less. none-some _ (sym e ∙ slice_get-get_or gs k 0 less) in omega (arith, never))

module _ (task : Task) (traced now number : ℕ) (numbers : List ℕ) (old : Underway) (are : AreUnderway task traced (IsDue now (number ∷ numbers) old.schedule) old)
    (below : number < old.stuck) (legs : List Leg) (accepted : Option ℕ) (chosen : slice_get task.choices number ≡ Some (with_legs legs accepted)) where
  same_choice : (choice : Choice) → slice_get task.choices number ≡ Some choice → choice ≡ with_legs legs accepted
  same_choice choice e = same_Some choice (with_legs legs accepted) (sym e ∙ chosen)

  -- its generations are there
  pub legs_below : AllByRecursion (λ (leg : Leg). leg.generation < length old.schedule) legs
  legs_below =
      let way : IsUnderway task traced (IsDue now (number ∷ numbers) old.schedule) old.trips number = are.way.each number below in
      let in_time : IsInTime task number (with_legs legs accepted) = subst (IsInTime task number) (same_choice way.choice way.packet.is_choice) way.in_time in
      let size = are.way.size in
      all_below (length old.schedule) legs (λ i h e. (let less = starts_below (length task.graphs) (task.first number) (generations legs) in_time i h e in omega (arith, less, size)))

  module _ (before : Course) (at : slice_get old.trips number ≡ Some before) (due : slice_get (generations legs) (length before.legs) ≡ Some now) where
    -- it is due
    pub here_now : IsHere task traced now number before
    here_now = is_here task traced now number numbers old (with_legs legs accepted) before are below chosen at due

    module _ (walked trip : Course) (gone : IsGoneOn task traced now number before walked trip) where
      -- where it is through, it can be counted
      pub can_be_counted : (sound : IsSound task) → length task.packets ≤ 65536 → slice_get (generations legs) (length trip.legs) ≡ None → CanCount walked.visits (end_of walked.outcome) old.counts
      can_be_counted sound short none =
          let same : gone.choice ≡ with_legs legs accepted = same_choice gone.choice gone.packet.is_choice in
          let count : length gone.choice.generations ≡ length (generations legs) = ap (λ (c : Choice). length c.generations) same in
          let few = stands_few task traced now number numbers old are below before walked trip at gone in
          let past = past_end (generations legs) (length trip.legs) none in
          let j = gone.through (omega (arith, count, few, past)) in
          let within = slice_get_within old.trips number before at in
          let can : CanCount j.0.course.visits (end_of j.0.course.outcome) old.counts =
          can_count task sound traced (IsDue now (number ∷ numbers) old.schedule) old are.way short number gone.bytes gone.choice j.0 within gone.packet j.1 in
          subst (λ vs. CanCount vs (end_of walked.outcome) old.counts) (sym j.2) (subst (λ o. CanCount j.0.course.visits (end_of o) old.counts) (sym j.3) can)

      -- it is put back
      pub put_back_so : (mid new : Underway) → mid.trips ≡ old.trips → mid.schedule ≡ old.schedule → mid.counts ≡ old.counts → mid.stuck ≡ old.stuck → in_hand mid.walker ≡ walked
          → Keeps (slice_get (generations legs) (length trip.legs)) number trip mid new → AreUnderway task traced (IsDue now numbers new.schedule) new
      put_back_so mid new trips schedule counts stuck hand keeps =
          let way = is task traced now number numbers old are below before walked trip at gone in
          let same_way : way.choice ≡ with_legs legs accepted = same_choice way.choice way.packet.is_choice in
          let same : gone.choice ≡ with_legs legs accepted = same_choice gone.choice gone.packet.is_choice in
          put_back task traced now number numbers old are below before walked trip at gone mid new (subst (λ (c : Choice). next_generation c before ≡ Some now) (sym same_way) due) trips schedule counts stuck hand
          (subst (λ (c : Choice). Keeps (next_generation c trip) number trip mid new) (sym same) keeps)

-- ---- the packet whose number stands at a place

-- it is the first of those from there on
pub from_place : (task : Task) (traced now : ℕ) (numbers : List ℕ) (place : ℕ) (u : Underway) → place < length numbers → AreUnderway task traced (IsDue now (drop place numbers) u.schedule) u
    → AreUnderway task traced (IsDue now (get_or numbers place 0 ∷ drop (place + 1) numbers) u.schedule) u
from_place task traced now numbers place u within are = subst (λ ns. AreUnderway task traced (IsDue now ns u.schedule) u) (drop_more numbers place 0 within) are

-- it isn't on its way
pub stays_behind : (task : Task) (traced now number : ℕ) (numbers : List ℕ) (u : Underway) → AreUnderway task traced (IsDue now (number ∷ numbers) u.schedule) u → u.stuck ≤ number
    → AreUnderway task traced (IsDue now numbers u.schedule) u
stays_behind task traced now number numbers u are behind = passed_over task traced now number numbers u are (λ choice trip below at at_trip due. omega (arith, below, behind))

-- its next leg is of another generation
pub not_due_now : (task : Task) (traced now number : ℕ) (numbers : List ℕ) (u : Underway) → AreUnderway task traced (IsDue now (number ∷ numbers) u.schedule) u
    → (legs : List Leg) (accepted : Option ℕ) → slice_get task.choices number ≡ Some (with_legs legs accepted) → (before : Course) → slice_get u.trips number ≡ Some before
    → (slice_get (generations legs) (length before.legs) ≡ Some now → ⊥) → AreUnderway task traced (IsDue now numbers u.schedule) u
not_due_now task traced now number numbers u are legs accepted chosen before at apart =
    passed_over task traced now number numbers u are (λ choice trip below chooses at_trip due.
    let same : choice ≡ with_legs legs accepted = same_Some choice (with_legs legs accepted) (sym chooses ∙ chosen) in
    let same_trip : trip ≡ before = same_Some trip before (sym at_trip ∙ at) in
    apart (ap (λ (t : Course). slice_get (generations legs) (length t.legs)) (sym same_trip) ∙ subst (λ (c : Choice). slice_get c.generations (length trip.legs) ≡ Some now) same due))
