-- For the clauses of `Timers::{new, reset_first}`: the times under which places wait.
use Rattle.std.proofs.Common.{◌≡◌, ℕ, ◌+◌, ◌<◌, ◌≤◌, List, length, set, nat_lt, Option, Some, None, inl, inr, refl, sym, ap, ◌∙◌, arith, length-set, get_or-set_same, get_or-set_other}
use Rattle.std.proofs.lemmas.Bool.{cases_eq, cases_lt, cases_order, lt-ltb, le-ltb}
use Rattle.std.proofs.lemmas.List.{get_or_past}
use Rattle.std.specs.Prelude.{if◌then◌else◌}
use Rattle.std.specs.BinaryHeap.{heap_len, heap_capacity}
use Rattle.vg_process.specs.declared.queue.Queue.{Queue}
use Rattle.vg_process.specs.declared.queue.Turn.{Turn}
use Rattle.vg_process.specs.Queued.{IsQueue}
use Rattle.vg_process.specs.Waiting.{time_at, with_time, IsFirst, IsNoneWaiting}
use Rattle.vg_process.proofs.QueuedLemmas.{same_times, has_room, absent, with_time-same, with_time-other}

-- a place that does not wait finds room
pub room_for : (limit : ℕ) (time : ℕ → Option ℕ) (q : Queue) (place : ℕ) → IsQueue limit time q → place < limit → time place ≡ None
    → heap_len q.due < heap_capacity q.due
room_for limit time q place queue below none = has_room limit time q queue place below (absent limit time q queue place none)

-- a time that is set
pub time_at-set : (times : List (Option ℕ)) (place : ℕ) (new : Option ℕ) (other : ℕ) → place < length times
    → time_at (set times place new) other ≡ with_time (time_at times) place new other
time_at-set times place new other below =
    elim (cases_eq other place) [
      | inl same ↦
          ap (time_at (set times place new)) same
          ∙ get_or-set_same times place new None below
          ∙ sym (ap (with_time (time_at times) place new) same ∙ with_time-same (time_at times) place new)
      | inr apart ↦ get_or-set_other times place other new None apart ∙ sym (with_time-other (time_at times) place new other apart)
    ]

pub set_times : (times : List (Option ℕ)) (place : ℕ) (new : Option ℕ) (q : Queue) → place < length times
    → IsQueue (length times) (with_time (time_at times) place new) q
    → IsQueue (length (set times place new)) (time_at (set times place new)) q
set_times times place new q below queue =
    rw (length-set times place new)
    (same_times (length times) (with_time (time_at times) place new) (time_at (set times place new)) q
    (λ other. time_at-set times place new other below)
    queue)

-- a place that waits is one of the places
pub waits_within : (times : List (Option ℕ)) (place when : ℕ) → time_at times place ≡ Some when → place < length times
waits_within times place when waits =
    elim (cases_lt place (length times)) [
      | inl below ↦ below
      | inr past ↦
          let clash : None ≡ Some when = sym (get_or_past times place None past) ∙ waits in
          let no : ⊥ = cc in
          absurd no
    ]

-- there is one first place
pub one_first : (time : ℕ → Option ℕ) (a b : Turn) → IsFirst time a → IsFirst time b → a.place ≡ b.place
one_first time a b first other =
    let up = first.least b.place b.time other.waits in
    let down = other.least a.place a.time first.waits in
    elim up [
      | inl less ↦ elim down [ inl more ↦ absurd (omega arith) | inr tie ↦ absurd (omega (arith, tie.0)) ]
      | inr tie ↦ elim down [ inl more ↦ absurd (omega (arith, tie.0)) | inr back ↦ omega (arith, tie.1, back.1) ]
    ]

-- where no place waits, none is the first
pub no_first : (time : ℕ → Option ℕ) (a : Turn) → IsNoneWaiting time → IsFirst time a → ⊥
no_first time a none first = let clash : None ≡ Some a.time = sym (none a.place) ∙ first.waits in cc

-- the times of the places below a number
abbrev pub upto : List (Option ℕ) → ℕ → ℕ → Option ℕ
upto times n place = if nat_lt place n then time_at times place else None

upto-within : (times : List (Option ℕ)) (n place : ℕ) → place < n → upto times n place ≡ time_at times place
upto-within times n place below = rw (lt-ltb place n below) refl

upto-past : (times : List (Option ℕ)) (n place : ℕ) → n ≤ place → upto times n place ≡ None
upto-past times n place past = rw (le-ltb place n past) refl

pub upto-self : (times : List (Option ℕ)) (n : ℕ) → upto times n n ≡ None
upto-self times n = upto-past times n n (omega arith)

pub upto-more : (times : List (Option ℕ)) (n : ℕ) (place : ℕ)
    → upto times (n + 1) place ≡ with_time (upto times n) n (time_at times n) place
upto-more times n place =
    elim (cases_order place n) [
      | inl same ↦
          let more : place < n + 1 = omega (arith, same) in
          let at : with_time (upto times n) n (time_at times n) place ≡ time_at times n =
          ap (with_time (upto times n) n (time_at times n)) same ∙ with_time-same (upto times n) n (time_at times n) in
          rw (lt-ltb place (n + 1) more) (ap (time_at times) same ∙ sym at)
      | inr apart ↦
          let other : place ≡ n → ⊥ = elim apart [ inl less ↦ λ e. omega (arith, e) | inr later ↦ λ e. omega (arith, e) ] in
          let kept : with_time (upto times n) n (time_at times n) place ≡ upto times n place =
          with_time-other (upto times n) n (time_at times n) place other in
          elim apart [
            | inl less ↦ upto-within times (n + 1) place (omega (arith, less)) ∙ sym (kept ∙ upto-within times n place less)
            | inr later ↦ upto-past times (n + 1) place (omega (arith, later)) ∙ sym (kept ∙ upto-past times n place (omega (arith, later)))
          ]
    ]

pub upto-all : (times : List (Option ℕ)) (place : ℕ) → time_at times place ≡ upto times (length times) place
upto-all times place =
    elim (cases_lt place (length times)) [
      | inl below ↦ sym (upto-within times (length times) place below)
      | inr past ↦ get_or_past times place None past ∙ sym (upto-past times (length times) place past)
    ]
