-- For the clause of `go_on`: a packet that goes on, as its line is read.
use Rattle.std.proofs.Common.{◌≡◌, ℕ, ◌+◌, ◌<◌, ◌≤◌, Bool, true, false, List, length, sym, ap, subst, ◌∙◌, arith}
use Rattle.std.specs.Prelude.{Option, Some, slice_get}
use Rattle.std.proofs.lemmas.Option.{same_Some, slice_get_within}
use Rattle.vg_model.specs.declared.fates.Leg.{Leg}
use Rattle.vg_model.specs.Graph.{Graph}
use Rattle.vg_model.specs.Journey.{Choice, Course, goes_together}
use Rattle.vg_model.specs.Valid.{AreBytes}
use Rattle.vg_replay.specs.Courses.{MayGoOn}
use Rattle.vg_replay.specs.Tasks.{Task}
use Rattle.vg_replay.specs.Trips.{IsKeptOf}
use Rattle.vg_replay.specs.Walks.{IsHere, IsLost, IsWalked, IsGoneOn}
use Rattle.vg_replay.proofs.CourseLemmas.{generations}
use Rattle.vg_replay.proofs.InputLemmas.{with_legs, many_generations}
use Rattle.vg_replay.proofs.WalkLemmas.{IsSound, walked_more, walked_none, walked_legs, waits, done, ends_apart}

module _ (task : Task) (sound : IsSound task) (traced generation number : ℕ) (graph : Graph) (at : slice_get task.graphs generation ≡ Some graph) (legs : List Leg) (accepted : Option ℕ)
    (chosen : slice_get task.choices number ≡ Some (with_legs legs accepted)) where
  many : length (generations legs) ≡ length legs
  many = many_generations legs

  -- it goes a leg more, or has none
  pub goes_more : (k : ℕ) (hand now : Course) (there : Bool) → there ≡ true → IsWalked task number k hand → slice_get (generations legs) k ≡ Some generation
      → MayGoOn task.visit graph task.workers generation hand now there → IsWalked task number (k + 1) now
  goes_more k hand now there is on due goes =
      walked_more task sound traced generation number graph at (with_legs legs accepted) chosen k hand now on due (subst (MayGoOn task.visit graph task.workers generation hand now) is goes)

  pub goes_nowhere : (k : ℕ) (hand now : Course) (there : Bool) → there ≡ false → IsWalked task number k hand → slice_get (generations legs) k ≡ Some generation
      → MayGoOn task.visit graph task.workers generation hand now there → IsLost task number
  goes_nowhere k hand now there is on due none =
      walked_none task sound traced generation number graph at (with_legs legs accepted) chosen k hand on due (subst (MayGoOn task.visit graph task.workers generation hand now) is none)

  -- its next leg is one of these
  pub has_more : (before : Course) → IsHere task traced generation number before → length before.legs < length legs
  has_more before here =
      let less = slice_get_within here.choice.generations (length before.legs) generation here.due in
      let same : here.choice ≡ with_legs legs accepted = same_Some here.choice (with_legs legs accepted) (sym here.packet.is_choice ∙ chosen) in
      let count : length here.choice.generations ≡ length (generations legs) = ap (λ (c : Choice). length c.generations) same in
      let m = many in
      omega (arith, less, count, m)

  -- it has as many legs
  pub has_legs : (k : ℕ) (hand : Course) → IsWalked task number k hand → k ≤ length legs → length hand.legs ≡ k
  has_legs k hand on within =
      walked_legs task sound traced generation number graph at (with_legs legs accepted) chosen k hand on (let m = many in omega (arith, within, m))

  -- its end doesn't fit its choice
  pub ends_otherwise : (k : ℕ) (hand : Course) → IsWalked task number k hand → k ≡ length legs → goes_together accepted hand.outcome ≡ false → IsLost task number
  ends_otherwise k hand on all apart =
      ends_apart task sound traced generation number graph at (with_legs legs accepted) chosen hand (subst (λ n. IsWalked task number n hand) (all ∙ sym many) on) apart

  module _ (bytes : List ℕ) (is_bytes : slice_get task.packets number ≡ Some bytes) (are : AreBytes bytes) (before : Course) where
    bytes_of : (k : ℕ) (hand : Course) (on : IsWalked task number k hand) → AreBytes on.bytes
    bytes_of k hand on = subst AreBytes (same_Some bytes on.bytes (sym is_bytes ∙ on.packet.is_bytes)) are

    -- it waits
    pub goes_and_waits : (k g : ℕ) (hand trip : Course) → IsWalked task number k hand → length before.legs < k → slice_get (generations legs) k ≡ Some g → (g ≡ generation → ⊥)
        → IsKeptOf true number hand trip → IsGoneOn task traced generation number before hand trip
    goes_and_waits k g hand trip on more due later kept =
        waits task sound traced generation number graph at (with_legs legs accepted) chosen before k g hand trip on more due later (bytes_of k hand on) kept

    -- it is through
    pub goes_and_ends : (k : ℕ) (hand trip : Course) (with_visits : Bool) → IsWalked task number k hand → k ≡ length legs → length before.legs < k → goes_together accepted hand.outcome ≡ true
        → (number < traced → with_visits ≡ true) → IsKeptOf with_visits number hand trip → IsGoneOn task traced generation number before hand trip
    goes_and_ends k hand trip with_visits on all more together seen kept =
        let whole : IsWalked task number (length (generations legs)) hand = subst (λ n. IsWalked task number n hand) (all ∙ sym many) on in
        let m = many in
        done task sound traced generation number graph at (with_legs legs accepted) chosen before hand trip with_visits whole (omega (arith, more, all, m)) together
        (bytes_of (length (generations legs)) hand whole) kept seen
