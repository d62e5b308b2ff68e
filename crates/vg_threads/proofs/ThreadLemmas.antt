-- For start_all, join_all, tie_all, untie_all, run_workers and TiedMain::untied: the workers of a run, and main, through their threads.
use Rattle.std.proofs.Common.{◌≡◌, ◌≤◌, ℕ, suc, ◌+◌, List, [], ◌∷◌, ◌++◌, length, map, refl, ap, arith, sym, ◌∙◌, append_assoc}
use Rattle.std.proofs.lemmas.List.{length-map}
use Rattle.std.specs.Prelude.{Bool}
use Rattle.vg_model.specs.Visit.{Visit}
use Rattle.vg_capture.specs.declared.captures.Capture.{Capture}
use Rattle.vg_plan.specs.Plan.{Planned}
use Rattle.vg_dispatch.specs.Standing.{barrier_id}
use Rattle.vg_dispatch.specs.Workers.{WorkerBook}
use Rattle.vg_threads.specs.declared.mains.Phase.{Phase}
use Rattle.vg_threads.specs.declared.mains.Phase.TheVariants as phase
use Rattle.vg_threads.specs.declared.mains.Main.{Main}
use Rattle.vg_threads.specs.Leads.{WorkerBarrier, IsPhaseOf, IsMain}
use Rattle.vg_threads.specs.Ties.{Tie, IsTied, AreTied}

-- one more went over, as what it is seen as
pub went_over : {X Y : Type 0} (f : X → Y) (done : List Y) (left rest : List X) (x : X) (y : Y) (all : List Y) → left ≡ x ∷ rest → y ≡ f x → done ++ map f left ≡ all
    → (done ++ y ∷ []) ++ map f rest ≡ all
went_over {X} {Y} f done left rest x y all left_is y_is so_far =
    append_assoc done (y ∷ []) (map f rest) ∙ (ap (λ (z : Y). done ++ (z ∷ map f rest)) y_is ∙ (ap (λ (l : List X). done ++ map f l) (sym left_is) ∙ so_far))

-- one more of all is done, and one less left
pub counts_on : (next done rest left all : ℕ) → next ≡ done + 1 → rest + 1 ≡ left → done + left ≡ all → next + rest ≡ all
counts_on next done rest left all more less so_far = omega arith

pub is_room : (all old new : ℕ) → new ≡ old → all ≤ old → all ≤ new
is_room all old new same room = omega arith

pub has_room : (n m room : ℕ) → n ≡ m → m ≤ room → n ≤ room
has_room n m room same fits = omega arith

-- two vectors, of which the one has what the items of the other are seen as, are of one length
pub as_long : {X Y : Type 0} (f : X → Y) (xs : List X) (ys : List Y) (n m : ℕ) → m ≡ length xs → n ≡ length ys → map f xs ≡ ys → m ≡ n
as_long f xs ys n m xs_len ys_len same = xs_len ∙ (sym (length-map xs f) ∙ (ap length same ∙ sym ys_len))

-- main leads at a barrier by that barrier's number alone
phase_at : (p : Phase) (a b : WorkerBarrier) → barrier_id b ≡ barrier_id a → IsPhaseOf p a → IsPhaseOf p b
phase_at (phase.Idle seat) a b same at = at ∙ sym same
phase_at (phase.Asked asked) a b same at = at ∙ sym same
phase_at (phase.Clearing clearing) a b same at = at ∙ sym same

pub main_at : (plan : Planned) (capture : Capture) (a b : WorkerBarrier) (main : Main) → barrier_id b ≡ barrier_id a → IsMain plan capture a main → IsMain plan capture b main
main_at plan capture a b main same is = record { seat = phase_at main.phase a b same is.seat; book = is.book; in_time = is.in_time; lead = is.lead }

-- one worker more that is tied so
pub tied_more : {visit : Visit} {lossless : Bool} (ts : List Tie) (ws : List WorkerBook) (t : Tie) (w : WorkerBook) → AreTied visit lossless ts ws → IsTied visit lossless t w
    → AreTied visit lossless (ts ++ t ∷ []) (ws ++ w ∷ [])
tied_more [] [] t w all here = (here, tt)
tied_more (a ∷ ts) (b ∷ ws) t w all here = (all.0, tied_more ts ws t w all.1 here)
tied_more [] (b ∷ ws) t w all here = absurd all
tied_more (a ∷ ts) [] t w all here = absurd all

-- they are as many
pub tied_length : (visit : Visit) (lossless : Bool) (ts : List Tie) (ws : List WorkerBook) → AreTied visit lossless ts ws → length ts ≡ length ws
tied_length visit lossless [] [] all = refl
tied_length visit lossless (t ∷ ts) (w ∷ ws) all = ap suc (tied_length visit lossless ts ws all.1)
tied_length visit lossless [] (w ∷ ws) all = absurd all
tied_length visit lossless (t ∷ ts) [] all = absurd all
