-- For the clauses of `Processes::{new, next_time, poll}`: the order of events, and the first of several lists of them.
use Rattle.std.proofs.Common.{◌≡◌, ℕ, suc, ◌<◌, List, [], ◌∷◌, ◌++◌, true, false, cond, refl, ap, ◌∙◌, arith}
use Rattle.std.proofs.lemmas.Bool.Decides.{nat_tests}
use Rattle.std.specs.List.{AllByRecursion as Rec, flat_map}
use Rattle.vg_script.specs.Events.{Event, comes_before, put, in_order}
use Rattle.vg_process.specs.Rest.{rest_at}

-- the one event comes before the other
abbrev pub Before : Event → Event → Type 0
Before e f = comes_before e f ≡ true

pub before_time : (e f : Event) → e.time < f.time → Before e f
before_time e f h = grind (arith, nat_tests)

pub before_line : (e f : Event) → e.time ≡ f.time → e.line < f.line → Before e f
before_line e f h k = grind (arith, nat_tests)

pub not_after : (e f : Event) → Before e f → comes_before f e ≡ false
not_after e f h = grind (arith, nat_tests)

-- what holds of each event holds of them in order
Rec-put : (P : Event → Type 0) (e : Event) (es : List Event) → P e → Rec P es → Rec P (put e es)
Rec-put P e [] p ps = (p, tt)
Rec-put P e (f ∷ fs) p ps =
    elim (comes_before e f) as (λ b. Rec P (cond b (e ∷ f ∷ fs) (f ∷ put e fs))) [ true ↦ (p, ps) | false ↦ (ps.0, Rec-put P e fs p ps.1) ]

pub Rec-in_order : (P : Event → Type 0) (es : List Event) → Rec P es → Rec P (in_order es)
Rec-in_order P [] ps = tt
Rec-in_order P (e ∷ es) ps = Rec-put P e (in_order es) ps.0 (Rec-in_order P es ps.1)

pub Rec-append : (P : Event → Type 0) (es fs : List Event) → Rec P es → Rec P fs → Rec P (es ++ fs)
Rec-append P [] fs ps qs = qs
Rec-append P (e ∷ es) fs ps qs = (ps.0, Rec-append P es fs ps.1 qs)

put-first : (e : Event) (es : List Event) → Rec (Before e) es → put e es ≡ e ∷ es
put-first e [] before = refl
put-first e (f ∷ fs) before = rw before.0 refl

-- the event that comes before all others is the first in order
pub in_order-least : (e : Event) (front back : List Event) → Rec (Before e) front → Rec (Before e) back
    → in_order (front ++ e ∷ back) ≡ e ∷ in_order (front ++ back)
in_order-least e [] back before after = put-first e (in_order back) (Rec-in_order (Before e) back after)
in_order-least e (f ∷ front) back before after =
    ap (put f) (in_order-least e front back before.1 after) ∙ rw (not_after e f before.0) refl

-- the lists of runs, one after the other
abbrev pub joined : List (List Event) → List Event
joined rests = flat_map (λ events. events) rests

-- what holds of the runs of each block holds of all
pub Rec-joined : (P : Event → Type 0) (rests : List (List Event)) → ((place : ℕ) → Rec P (rest_at rests place)) → Rec P (joined rests)
Rec-joined P [] each = tt
Rec-joined P (es ∷ rests) each = Rec-append P es (joined rests) (each 0) (Rec-joined P rests (λ place. each (suc place)))
