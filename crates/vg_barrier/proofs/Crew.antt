-- For the tests of barriers in vg_queue_tests and vg_trials: the workers of a barrier that has just been made, and the parcels that main has renewed.
use Rattle.std.proofs.Common.{◌≡◌, ℕ, zero, suc, ◌+◌, List, [], ◌∷◌, ◌++◌, length, set, slice_get, Some, inr, sym, refl, ap, ◌∙◌, subst, arith}
use mathlib.Core.Option.{some, some-injective, some-ne-none}
use lib.ListN.{get_elem?}
use Rattle.vg_steps.proofs.Lists.{at_last, at_longer}
use Rattle.vg_barrier.specs.declared.parcel.Parcel.{Ghosts}
use Rattle.vg_barrier.specs.declared.barrier.Barrier.{Barrier}
use Rattle.vg_barrier.specs.declared.views.MainView.{MainView}
use Rattle.vg_barrier.specs.declared.views.WorkerView.{WorkerView}
use Rattle.vg_barrier.specs.declared.worker_seat.Running.{Running}
use Rattle.vg_barrier.specs.Seats.{IsWhole, Whole, MayReturn}
use Rattle.vg_barrier.specs.Barrier.{IsSeatOf}
use Rattle.vg_barrier.specs.Answers.{MayGive}
use Rattle.vg_barrier.specs.Making.{IsFirst, Numbered}

module _ (P B : Type 0) (G : Ghosts P B) where
  -- the last of the workers, and the others
  pub last_one : (b : Barrier P B) (book : B) (marks : List ℕ) (workers others : List (Running P B G)) (w : Running P B G)
      → workers ≡ others ++ w ∷ [] → Numbered b book marks workers
      → IsFirst b book marks (length others) w × Numbered b book marks others
  last_one b book marks workers others w is numbered =
      let all = subst (Numbered b book marks) is numbered in
      (all (length others) w (at_last others w (length others) refl), λ k u e. all k u (at_longer others (w ∷ []) k u e))

  -- a worker that has just been made may give its parcel
  pub may_give : (b : Barrier P B) (book : B) (marks : List ℕ) (k : ℕ) (w : Running P B G) → IsFirst b book marks k w → MayGive w
  may_give b book marks k w t = record {
    fits = subst (λ (x : B). G.fits w.parcel x) (sym (ap (λ (v : WorkerView B). v.book) t.view)) t.fits;
    generation = t.generation ∙ sym (ap (λ (v : WorkerView B). v.generation) t.view);
  }

  -- the last of the workers that have just been made is of the barrier, and may give its parcel
  pub last_may : (b : Barrier P B) (book : B) (marks : List ℕ) (workers rest : List (Running P B G)) (w : Running P B G)
      → workers ≡ rest ++ w ∷ [] → Numbered b book marks workers → IsSeatOf w.worker.seat b × MayGive w
  last_may b book marks workers rest w is numbered =
      let first = (last_one b book marks workers rest w is numbered).0 in
      (first.seat, may_give b book marks (length rest) w first)

  -- so are the last two, and so may they
  pub last_two_may : (b : Barrier P B) (book : B) (marks : List ℕ) (workers rest others : List (Running P B G))
      (second first : Running P B G)
      → workers ≡ rest ++ second ∷ [] → rest ≡ others ++ first ∷ [] → Numbered b book marks workers
      → (IsSeatOf first.worker.seat b × MayGive first) × (IsSeatOf second.worker.seat b × MayGive second)
  last_two_may b book marks workers rest others second first is_last is_next numbered = (
    last_may b book marks rest others first is_next
        (last_one b book marks workers rest second is_last numbered).1,
    last_may b book marks workers rest second is_last numbered,
  )

  -- main may give two parcels back that it has renewed
  pub renewed : (m : MainView B) (g : ℕ) (ps : List P) (p₀ p₁ q₀ q₁ : P) → length ps ≡ 2 → Whole G.fits G.mark G.generation m g ps
      → Some p₀ ≡ slice_get ps 0 → Some p₁ ≡ slice_get (set ps 0 q₀) 1
      → G.mark q₀ ≡ G.mark p₀ → G.mark q₁ ≡ G.mark p₁ → G.fits q₀ m.book → G.fits q₁ m.book → G.generation q₀ ≡ m.released + 1
      → G.generation q₁ ≡ m.released + 1
      → MayReturn G.fits G.mark G.generation m (set (set ps 0 q₀) 1 q₁)
  renewed m g [] p₀ p₁ q₀ q₁ two whole is₀ is₁ mark₀ mark₁ fits₀ fits₁ next₀ next₁ = absurd (omega arith)
  renewed m g (a ∷ []) p₀ p₁ q₀ q₁ two whole is₀ is₁ mark₀ mark₁ fits₀ fits₁ next₀ next₁ = absurd (omega arith)
  renewed m g (a ∷ b ∷ c ∷ ps) p₀ p₁ q₀ q₁ two whole is₀ is₁ mark₀ mark₁ fits₀ fits₁ next₀ next₁ = absurd (omega arith)
  renewed m g (a ∷ b ∷ []) p₀ p₁ q₀ q₁ two whole is₀ is₁ mark₀ mark₁ fits₀ fits₁ next₀ next₁ =
      record { whole = each; next = inr next₀ }
    where
      first_is : p₀ ≡ a
      first_is = cc

      second_is : p₁ ≡ b
      second_is = cc

      each : (k : ℕ) (p : P) → get_elem? (q₀ ∷ q₁ ∷ []) k ≡ some p → IsWhole G.fits G.mark G.generation m (G.generation q₀) k p
      each zero p e = subst (IsWhole G.fits G.mark G.generation m (G.generation q₀) 0) (some-injective q₀ p e)
          record { fits = fits₀; mark = mark₀ ∙ (ap G.mark first_is ∙ (whole 0 a refl).mark); generation = refl }
      each (suc zero) p e = subst (IsWhole G.fits G.mark G.generation m (G.generation q₀) 1) (some-injective q₁ p e)
          record { fits = fits₁; mark = mark₁ ∙ (ap G.mark second_is ∙ (whole 1 b refl).mark); generation = next₁ ∙ sym next₀ }
      each (suc (suc k)) p e = absurd (some-ne-none p (sym e))
