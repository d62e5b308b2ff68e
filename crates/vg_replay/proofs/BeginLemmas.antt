-- For the clause of `Underway::begin`: the beginning, as lines are read.
use Rattle.std.proofs.Common.{◌≡◌, ℕ, ◌<◌, ◌≤◌, List, [], length, get_or, sym, subst, arith}
use Rattle.std.specs.Prelude.{Some, slice_get}
use Rattle.std.proofs.lemmas.Option.{slice_get-get_or, slice_get_within}
use Rattle.vg_model.specs.declared.fates.Leg.{Leg}
use Rattle.vg_model.specs.Journey.{Choice}
use Rattle.vg_model.specs.Lawful.{StartsAt}
use Rattle.vg_replay.specs.Tasks.{Task, IsInTime, IsFault}
use Rattle.vg_replay.specs.Underway.{IsScheduled, AreOnTheWay, AreUnderway}
use Rattle.vg_replay.specs.declared.underway.Underway.{Underway}
use Rattle.vg_replay.proofs.CourseLemmas.{generations}
use Rattle.vg_replay.proofs.InputLemmas.{many_generations}
use Rattle.vg_replay.proofs.TimeLemmas.{has_first, starts_below}
use Rattle.vg_replay.proofs.UnderwayLemmas.{not_in_time}

-- the legs of a packet whose generations are as they should be
pub first_there : (count first : ℕ) (legs : List Leg) → StartsAt count first (generations legs) → 0 < length legs
first_there count first legs starts =
    let found = has_first count first (generations legs) starts in
    let within = slice_get_within (generations legs) 0 found.0 found.1 in
    let many = many_generations legs in
    omega (arith, within, many)

pub first_below : (count first : ℕ) (legs : List Leg) (g : ℕ) → StartsAt count first (generations legs) → slice_get (generations legs) 0 ≡ Some g → g < count
first_below count first legs g starts e = starts_below count first (generations legs) starts 0 g e

module _ (task : Task) (traced number : ℕ) (u : Underway) (way : AreOnTheWay task traced (IsScheduled 0 u.schedule) u) (stuck : u.stuck ≡ number) where
  -- up to the first packet whose generations aren't
  pub ends_at_fault : (choice : Choice) → number < length task.packets → slice_get task.choices number ≡ Some choice → (IsInTime task number choice → ⊥) → AreUnderway task traced (IsScheduled 0 u.schedule) u
  ends_at_fault choice within at apart = record {
    way = way;
    fault = λ h. subst (IsFault task) (sym stuck)
        (not_in_time task number (get_or task.packets number []) choice (record { is_bytes = slice_get-get_or task.packets number [] within; is_choice = at }) apart);
  }

  -- or up to the last
  pub ends_behind_all : length task.packets ≤ number → AreUnderway task traced (IsScheduled 0 u.schedule) u
  ends_behind_all all = record { way = way; fault = λ h. absurd (omega (arith, h, stuck, all)) }
