-- For the clauses `first` and `next` of `laws::turns_lead_on`: steps of a run, that is, a turn of a worker, and the push and the pop of a queue.
use Rattle.std.proofs.Common.{◌≡◌, ℕ, ◌<◌, ◌≤◌, ◌⊎◌, inl, inr, Bool, List, [], ◌++◌, length, refl, sym, ap, subst, ◌∙◌, append_assoc}
use Rattle.std.specs.Prelude.{if◌then◌else◌}
use Rattle.std.specs.List.{AllByRecursion}
use Rattle.std.proofs.lemmas.Bool.{eq-eqb, ne_eqb}
use Rattle.vg_journeys.specs.Trips.{Run, Trip}
use Rattle.vg_journeys.specs.Accounts.{HandoffFrame, Account, frames_with, below, Adds}
use Rattle.vg_journeys.specs.Moments.{begun, StandsFor, IsMoment}
use Rattle.vg_journeys.specs.Steps.{replaced, IsStep}
use Rattle.vg_journeys.proofs.JoinLemmas.{same_or_not, all_below}
use Rattle.vg_journeys.proofs.AccountLemmas.{all_mono, adds_nothing, adds_more}

-- the replaced worker, and the others
pub at_own : (at : ℕ → Account) (w : ℕ) (new : Account) → replaced at w new w ≡ new
at_own at w new = ap (λ (b : Bool). if b then new else at w) (eq-eqb w w refl)

pub at_other : (at : ℕ → Account) (w v : ℕ) (new : Account) → (v ≡ w → ⊥) → replaced at w new v ≡ at v
at_other at w v new not = ap (λ (b : Bool). if b then new else at v) (ne_eqb v w not)

-- a worker that stands for the run does so behind a turn
pub stands_still : (run : Run) (traced worker : ℕ) (old new : Account) (trips : List Trip) → StandsFor run traced worker old → Adds run old new trips → StandsFor run traced worker new
stands_still run traced worker old new trips stand adds =
    record { within = stand.within; trips = stand.trips ++ trips; adds = adds_more run _ old new stand.trips trips stand.adds adds }

-- a moment behind a turn is a moment
pub moment_after : (run : Run) (traced : ℕ) (at : ℕ → Account) (rest after : ℕ → ℕ → List HandoffFrame) (w : ℕ) (new : Account) (trips : List Trip)
    → IsMoment run traced at rest → Adds run (at w) new trips → IsStep run at rest w new after → IsMoment run traced (replaced at w new) after
moment_after run traced at rest after w new trips moment adds step = record {
  stand = all_mono (λ v. StandsFor run traced v (at v)) (λ v. StandsFor run traced v (replaced at w new v)) (λ v stand. stands v (same_or_not v w) stand) (below run.workers) moment.stand;
  queues = λ from to hf ht. queue from to hf ht (same_or_not from w) (same_or_not to w);
  full = λ from to hf ht. no_empty from to hf ht (same_or_not from w);
}
  where
    stands : (v : ℕ) → (v ≡ w) ⊎ (v ≡ w → ⊥) → StandsFor run traced v (at v) → StandsFor run traced v (replaced at w new v)
    stands v (inr not) stand = subst (StandsFor run traced v) (sym (at_other at w v new not)) stand
    stands v (inl is) stand =
        subst (λ u. StandsFor run traced v (replaced at w new u)) (sym is) (subst (StandsFor run traced v) (sym (at_own at w new))
        (stands_still run traced v (at w) new trips (subst (λ u. StandsFor run traced v (at u)) is stand) adds))

    queue : (from to : ℕ) → from < run.workers → to < run.workers → (from ≡ w) ⊎ (from ≡ w → ⊥) → (to ≡ w) ⊎ (to ≡ w → ⊥)
        → frames_with to (replaced at w new from).put ≡ frames_with from (replaced at w new to).taken ++ after from to
    queue from to hf ht (inr f) (inr t) =
        ap (λ (a : Account). frames_with to a.put) (at_other at w from new f) ∙ moment.queues from to hf ht
        ∙ ap (λ frames. frames_with from (at to).taken ++ frames) (sym (step.others from to f t))
        ∙ ap (λ (a : Account). frames_with from a.taken ++ after from to) (sym (at_other at w to new t))
    queue from to hf ht (inl f) (inr t) =
        let put = step.puts to t in
        let moved : frames_with to (replaced at w new from).put ≡ frames_with to new.put = ap (λ v. frames_with to (replaced at w new v).put) f ∙ ap (λ (a : Account). frames_with to a.put) (at_own at w new) in
        let old : frames_with to (at w).put ≡ frames_with w (at to).taken ++ rest w to = moment.queues w to (subst (λ v. v < run.workers) f hf) ht in
        moved ∙ put.put ∙ ap (λ frames. frames ++ put.pushed) old ∙ append_assoc (frames_with w (at to).taken) (rest w to) put.pushed
        ∙ ap (λ frames. frames_with w (at to).taken ++ frames) (sym put.left)
        ∙ ap (λ (a : Account). frames_with w a.taken ++ after w to) (sym (at_other at w to new t))
        ∙ ap (λ v. frames_with v (replaced at w new to).taken ++ after v to) (sym f)
    queue from to hf ht (inr f) (inl t) =
        let take = step.takes from f in
        let old : frames_with w (at from).put ≡ frames_with from (at w).taken ++ rest from w = moment.queues from w hf (subst (λ v. v < run.workers) t ht) in
        let moved : frames_with from (replaced at w new to).taken ≡ frames_with from new.taken = ap (λ v. frames_with from (replaced at w new v).taken) t ∙ ap (λ (a : Account). frames_with from a.taken) (at_own at w new) in
        ap (λ (a : Account). frames_with to a.put) (at_other at w from new f) ∙ ap (λ v. frames_with v (at from).put) t ∙ old
        ∙ ap (λ frames. frames_with from (at w).taken ++ frames) take.left ∙ sym (append_assoc (frames_with from (at w).taken) take.took (after from w))
        ∙ ap (λ frames. frames ++ after from w) (sym take.taken)
        ∙ ap (λ frames. frames ++ after from w) (sym moved) ∙ ap (λ v. frames_with from (replaced at w new to).taken ++ after from v) (sym t)
    queue from to hf ht (inl f) (inl t) =
        let own = step.own in
        ap (λ v. frames_with to (replaced at w new v).put) f ∙ ap (λ (a : Account). frames_with to a.put) (at_own at w new) ∙ ap (λ v. frames_with v new.put) t
        ∙ own.0 ∙ moment.queues w w (subst (λ v. v < run.workers) f hf) (subst (λ v. v < run.workers) t ht) ∙ ap (λ frames. frames ++ rest w w) (sym own.1) ∙ ap (λ frames. frames_with w new.taken ++ frames) (sym own.2)
        ∙ ap (λ (a : Account). frames_with w a.taken ++ after w w) (sym (at_own at w new))
        ∙ ap (λ v. frames_with v (replaced at w new v).taken ++ after v v) (sym f)
        ∙ ap (λ v. frames_with from (replaced at w new v).taken ++ after from v) (f ∙ sym t)

    no_empty : (from to : ℕ) → from < run.workers → to < run.workers → (from ≡ w) ⊎ (from ≡ w → ⊥) → AllByRecursion (λ (frame : HandoffFrame). 1 ≤ length frame.packets) (frames_with to (replaced at w new from).put)
    no_empty from to hf ht (inr f) = subst (λ (a : Account). AllByRecursion (λ (frame : HandoffFrame). 1 ≤ length frame.packets) (frames_with to a.put)) (sym (at_other at w from new f)) (moment.full from to hf ht)
    no_empty from to hf ht (inl f) =
        subst (λ v. AllByRecursion (λ (frame : HandoffFrame). 1 ≤ length frame.packets) (frames_with to (replaced at w new v).put)) (sym f)
        (subst (λ (a : Account). AllByRecursion (λ (frame : HandoffFrame). 1 ≤ length frame.packets) (frames_with to a.put)) (sym (at_own at w new)) (step.full to ht))

-- at first no worker has done anything, and nothing is on its way
pub first_moment : (run : Run) (traced : ℕ) → IsMoment run traced (begun traced) (λ from to. [])
first_moment run traced = record {
  stand = all_below (λ w. StandsFor run traced w (begun traced w)) run.workers (λ w h. record { within = h; trips = []; adds = adds_nothing run (begun traced w) });
  queues = λ from to hf ht. refl;
  full = λ from to hf ht. tt;
}
