-- For the clauses of `Queue::{put, first, take_first, gather}`, and for `Timers::new`: the queue of places that wait.
use Rattle.std.proofs.Common.{◌≡◌, ℕ, ◌+◌, ◌<◌, ◌≤◌, ◌⊎◌, List, [], ◌∷◌, length, get_or, Option, Some, None, false, inl, inr, refl, sym, ap, ◌∙◌, arith, All}
use Rattle.std.proofs.lemmas.Bool.{cases_eq, cases_lt, eq-eqb, ne_eqb}
use Rattle.std.proofs.lemmas.List.Elements.{recursion_from_All, All-from_recursion, All-weaker, All-cons, All-tail, All-contains}
use Rattle.std.proofs.lemmas.List.Sorted.{All-permutation, sum_by_pushed, sum_by_popped}
use Rattle.std.specs.BinaryHeap.{heap_items, heap_len, heap_capacity, IsHeap, IsUpperBound}
use Rattle.std.specs.List.Sorted.{IsPermutation}
use Rattle.std.specs.Option.{IsSomeAnd}
use Rattle.std.specs.Ordering.{is_lt}
use Rattle.std.specs.declared.cmp.Reverse.{Reverse}
use Rattle.futures.specs.LinkedLists.Wheel.{Wheel, deadline_of, key_limit, Sets}
use Rattle.vg_process.specs.declared.queue.Queue.{Queue}
use Rattle.vg_process.specs.declared.queue.Turn.{Turn}
use Rattle.vg_process.specs.Queued.{IsQueue, IsAhead, IsReady, listed, later_first, number}
use Rattle.vg_process.specs.Waiting.{with_time, IsFirst, IsNoneWaiting}
use Rattle.vg_process.proofs.ListedLemmas.{at, at_same, at_other, listed-cons, found, not_listed, few, comes_first}

pub with_time-same : (time : ℕ → Option ℕ) (place : ℕ) (new : Option ℕ) → with_time time place new place ≡ new
with_time-same time place new = rw (eq-eqb place place refl) refl

pub with_time-other : (time : ℕ → Option ℕ) (place : ℕ) (new : Option ℕ) (other : ℕ) → (other ≡ place → ⊥)
    → with_time time place new other ≡ time other
with_time-other time place new other apart = rw (ne_eqb other place apart) refl

-- a turn stands under its place's time, which the wheel has reached
abbrev pub Reached : (ℕ → Option ℕ) → ℕ → Reverse Turn → Type 0
Reached time elapsed t = (time t.0.place ≡ Some t.0.time) × (t.0.time ≤ elapsed)

number-le : (x : Option ℕ) → number x ≤ 1
number-le None = omega arith
number-le (Some x) = omega arith

number-none : (x : Option ℕ) → number x ≡ 0 → x ≡ None
number-none None h = refl
number-none (Some x) h = absurd (omega arith)

number-unarmed : (x : Option ℕ) → ((when : ℕ) → x ≡ Some when → ⊥) → number x ≡ 0
number-unarmed None h = refl
number-unarmed (Some x) h = absurd (h x refl)

no_items : {X : Type 0} (xs : List X) → length xs ≡ 0 → xs ≡ []
no_items [] h = refl
no_items (x ∷ xs) h = absurd (omega arith)

module _ (limit : ℕ) (time : ℕ → Option ℕ) (q : Queue) (queue : IsQueue limit time q) where
  listed_once : (place : ℕ) → listed place (heap_items q.due) ≤ 1
  listed_once place = omega (arith, queue.once place, number-le (time place))

  listed_within : (place : ℕ) → limit ≤ place → listed place (heap_items q.due) ≡ 0
  listed_within place le = omega (arith, queue.once place, ap number (queue.within place le))

  -- where a place below the limit is not in the list, there is room for it
  pub has_room : (place : ℕ) → place < limit → listed place (heap_items q.due) ≡ 0 → heap_len q.due < heap_capacity q.due
  has_room place below absent =
      let turn : Reverse Turn = record { 0 = record { time = 0; place = place } } in
      let items = heap_items q.due in
      let most : length (turn ∷ items) ≤ limit =
      few limit (turn ∷ items)
      (λ other le. omega (arith, listed-cons other turn items, listed_within other le, at_other other turn (λ e. absurd (omega arith))))
      (λ other. elim (cases_eq place other) [
        | inl same ↦ omega (arith, listed-cons other turn items, ap (λ p. listed p items) same, at_same other turn same)
        | inr apart ↦ omega (arith, listed-cons other turn items, listed_once other, at_other other turn apart)
      ]) in
      omega (arith, queue.room, q.due.data.ok)

  -- a place that does not wait is not in the list
  pub absent : (place : ℕ) → time place ≡ None → listed place (heap_items q.due) ≡ 0
  absent place none = omega (arith, queue.once place, ap number none)

  -- where the list is empty, and then the wheel too, no place waits
  pub none_waits : IsReady q → heap_len q.due ≡ 0 → IsNoneWaiting time
  none_waits ready none place =
      let empty = no_items (heap_items q.due) (omega (arith, none, q.due.data.ok)) in
      number-none (time place)
      (omega (arith, queue.once place, ap (listed place) empty, number-unarmed (deadline_of q.wheel place) (ready none place)))

  -- the top of the list comes before each that waits: on the wheel, or in the list
  least_by : (top : Reverse Turn) (place when : ℕ) → top.0.time ≤ q.wheel.elapsed → IsUpperBound later_first top (heap_items q.due) → IsAhead q
      → time place ≡ Some when → (deadline : Option ℕ) → deadline_of q.wheel place ≡ deadline
      → (top.0.time < when) ⊎ ((top.0.time ≡ when) × (top.0.place ≤ place))
  least_by top place when reached upper ahead waits None unarmed =
      let items = heap_items q.due in
      let Below : Reverse Turn → Type 0 = λ t. is_lt (later_first top t) ≡ false in
      let there =
      found (Reached time q.wheel.elapsed) Below place items
      (recursion_from_All (Reached time q.wheel.elapsed) items queue.reached)
      upper
      (omega (arith, queue.once place, ap number waits, ap number unarmed)) in
      let at_place : time there.0.0.place ≡ time place = ap time there.3 in
      let some : Some there.0.0.time ≡ Some when = sym there.1.0 ∙ at_place ∙ waits in
      let same : there.0.0.time ≡ when = cc in
      elim (comes_first top there.0 there.2) [
        | inl earlier ↦ inl (omega (arith, same))
        | inr tie ↦ inr (omega (arith, same, tie.0), omega (arith, tie.1, there.3))
      ]
  least_by top place when reached upper ahead waits (Some armed) is =
      let some : Some armed ≡ Some when = sym (queue.armed place armed is) ∙ waits in
      let same : armed ≡ when = cc in
      inl (omega (arith, ahead place armed is, same))

  -- the top of the list is the first of all that wait
  pub top_is_first : IsAhead q → (top : Reverse Turn) → top ≡ get_or (heap_items q.due) 0 top → 0 < heap_len q.due
      → IsUpperBound later_first top (heap_items q.due) → IsFirst time top.0
  top_is_first ahead top is long upper =
      let items = heap_items q.due in
      let some : 0 < length items = omega (arith, long, q.due.data.ok) in
      let here : Reached time q.wheel.elapsed top = All-contains (Reached time q.wheel.elapsed) items top queue.reached (0, some, sym is) in
      record {
        waits = here.0;
        least = λ place when waits. least_by top place when here.1 upper ahead waits (deadline_of q.wheel place) refl;
      }

-- the same times in other words
pub same_times : (limit : ℕ) (time other : ℕ → Option ℕ) (q : Queue) → ((place : ℕ) → other place ≡ time place) → IsQueue limit time q
    → IsQueue limit other q
same_times limit time other q same queue = record {
  within = λ place le. same place ∙ queue.within place le;
  armed = λ place when is. same place ∙ queue.armed place when is;
  reached =
      All-weaker (Reached time q.wheel.elapsed) (Reached other q.wheel.elapsed) (λ t h. (same t.0.place ∙ h.0, h.1)) (heap_items q.due) queue.reached;
  once = λ place. queue.once place ∙ sym (ap number (same place));
  ordered = queue.ordered;
  room = queue.room;
  keys = queue.keys;
}

-- the same list in other memory
pub same_list : (limit : ℕ) (time : ℕ → Option ℕ) (old new : Queue) → IsQueue limit time old → heap_items new.due ≡ heap_items old.due
    → heap_capacity new.due ≡ heap_capacity old.due → new.wheel ≡ old.wheel → IsQueue limit time new
same_list limit time old new queue items room wheel = record {
  within = queue.within;
  armed = rw wheel queue.armed;
  reached = rw (items, wheel) queue.reached;
  once = rw (items, wheel) queue.once;
  ordered = rw items queue.ordered;
  room = rw room queue.room;
  keys = rw wheel queue.keys;
}

-- a place that waits is not one that does not
apart_from : (time : ℕ → Option ℕ) (place other when : ℕ) → time place ≡ None → time other ≡ Some when → other ≡ place → ⊥
apart_from time place other when none waits same = let clash : None ≡ Some when = sym none ∙ sym (ap time same) ∙ waits in cc

-- a place that did not wait is put into the list
module _ (limit : ℕ) (time : ℕ → Option ℕ) (old new : Queue) (turn : Reverse Turn) where
  pub put_listed : IsQueue limit time old → time turn.0.place ≡ None → turn.0.place < limit → turn.0.time ≤ old.wheel.elapsed
      → new.wheel ≡ old.wheel → IsPermutation (turn ∷ heap_items old.due) (heap_items new.due) → IsHeap later_first (heap_items new.due)
      → heap_capacity old.due ≤ heap_capacity new.due → IsQueue limit (with_time time turn.0.place (Some turn.0.time)) new
  put_listed queue none below reached wheel moved ordered room =
      let place = turn.0.place in
      let later = with_time time place (Some turn.0.time) in
      let P = Reached later new.wheel.elapsed in
      let kept = with_time-other time place (Some turn.0.time) in
      let elapsed = ap (λ w. w.elapsed) wheel in
      record {
        within = λ other le. kept other (λ e. omega arith) ∙ queue.within other le;
        armed = λ other when is.
            let waits = queue.armed other when (rw wheel at is) in
            kept other (apart_from time place other when none waits) ∙ waits;
        reached =
            All-permutation P (turn ∷ heap_items old.due) (heap_items new.due) moved
            (All-cons P turn (heap_items old.due) (with_time-same time place (Some turn.0.time), omega (arith, elapsed))
            (All-weaker (Reached time old.wheel.elapsed) P
            (λ t h. (kept t.0.place (apart_from time place t.0.place t.0.time none h.0) ∙ h.0, omega (arith, h.1, elapsed)))
            (heap_items old.due) queue.reached));
        once = λ other.
            let pushed = sum_by_pushed (at other) turn (heap_items old.due) (heap_items new.due) moved in
            let deadline = ap (λ w. number (deadline_of w other)) wheel in
            elim (cases_eq place other) [
              | inl same ↦
                  omega (
                    arith,
                    pushed,
                    deadline,
                    queue.once other,
                    at_same other turn same,
                    ap number (ap time (sym same) ∙ none),
                    ap number (ap later (sym same) ∙ with_time-same time place (Some turn.0.time)),
                  )
              | inr apart ↦
                  omega (arith, pushed, deadline, queue.once other, at_other other turn apart, ap number (kept other (λ e. apart (sym e))))
            ];
        ordered = ordered;
        room = omega (arith, queue.room);
        keys = rw wheel queue.keys;
      }

-- no place waits any longer under a time that is taken
cleared : (time : ℕ → Option ℕ) (place other : ℕ) → other ≡ place → with_time time place None other ≡ None
cleared time place other same = ap (with_time time place None) same ∙ with_time-same time place None

-- a place waits no longer that neither is on the wheel nor in the list
module _ (limit : ℕ) (time : ℕ → Option ℕ) (old new : Queue) (place : ℕ) where
  gone : IsQueue limit time old → All (Reached time new.wheel.elapsed) (heap_items new.due) → deadline_of new.wheel place ≡ None
      → listed place (heap_items new.due) ≡ 0 → ((other : ℕ) → (other ≡ place → ⊥) → deadline_of new.wheel other ≡ deadline_of old.wheel other)
      → ((other : ℕ) → (other ≡ place → ⊥) → listed other (heap_items new.due) ≡ listed other (heap_items old.due))
      → IsHeap later_first (heap_items new.due) → heap_capacity new.due ≡ heap_capacity old.due → key_limit new.wheel ≡ key_limit old.wheel
      → IsQueue limit (with_time time place None) new
  gone queue reached unarmed unlisted deadlines lists ordered room keys =
      let kept = with_time-other time place None in
      let Other : Reverse Turn → Type 0 = λ t. t.0.place ≡ place → ⊥ in
      let apart = All-from_recursion Other (heap_items new.due) (not_listed place (heap_items new.due) unlisted) in
      record {
        within = λ other le. elim (cases_eq other place) [
          | inl same ↦ cleared time place other same
          | inr apart ↦ kept other apart ∙ queue.within other le
        ];
        armed = λ other when is.
            let apart = apart_from (deadline_of new.wheel) place other when unarmed is in
            kept other apart ∙ queue.armed other when (sym (deadlines other apart) ∙ is);
        reached = λ k d h. let at = reached k d h in (kept (get_or (heap_items new.due) k d).0.place (apart k d h) ∙ at.0, at.1);
        once = λ other. elim (cases_eq other place) [
          | inl same ↦
              omega (
                arith,
                ap (λ p. listed p (heap_items new.due)) same,
                unlisted,
                ap number (ap (deadline_of new.wheel) same ∙ unarmed),
                ap number (cleared time place other same),
              )
          | inr apart ↦
              omega (arith, queue.once other, lists other apart, ap number (deadlines other apart), ap number (kept other apart))
        ];
        ordered = ordered;
        room = omega (arith, queue.room);
        keys = omega (arith, queue.keys);
      }

  -- it was on the wheel, which has gone on
  pub disarmed : IsQueue limit time old → (when : ℕ) → deadline_of old.wheel place ≡ Some when → Sets old.wheel new.wheel place None
      → old.wheel.elapsed ≤ new.wheel.elapsed → key_limit new.wheel ≡ key_limit old.wheel → new.due ≡ old.due
      → IsQueue limit (with_time time place None) new
  disarmed queue when was sets forward keys due =
      let same = ap heap_items due in
      let unlisted : listed place (heap_items old.due) ≡ 0 = omega (arith, queue.once place, ap number was, number-le (time place)) in
      gone queue
      (rw same (All-weaker (Reached time old.wheel.elapsed) (Reached time new.wheel.elapsed) (λ t h. (h.0, omega (arith, h.1, forward))) (heap_items old.due) queue.reached))
      sets.changed
      (ap (listed place) same ∙ unlisted)
      sets.others
      (λ other apart. ap (listed other) same)
      (rw due queue.ordered)
      (ap heap_capacity due)
      keys

  -- it was on top of the list
  pub taken : IsQueue limit time old → (turn : Reverse Turn) → turn.0.place ≡ place → IsPermutation (heap_items old.due) (turn ∷ heap_items new.due)
      → IsHeap later_first (heap_items new.due) → heap_capacity new.due ≡ heap_capacity old.due → new.wheel ≡ old.wheel
      → IsQueue limit (with_time time place None) new
  taken queue turn is moved ordered room wheel =
      let P = Reached time old.wheel.elapsed in
      let left = All-tail P turn (heap_items new.due) (All-permutation P (heap_items old.due) (turn ∷ heap_items new.due) moved queue.reached) in
      let popped : (other : ℕ) → listed other (heap_items new.due) + at other turn ≡ listed other (heap_items old.due) =
      λ other. sum_by_popped (at other) turn (heap_items old.due) (heap_items new.due) moved in
      let once : at place turn ≡ 1 = at_same place turn is in
      let unarmed : deadline_of old.wheel place ≡ None =
      number-none (deadline_of old.wheel place) (omega (arith, queue.once place, popped place, number-le (time place))) in
      gone queue
      (rw wheel left)
      (ap (λ w. deadline_of w place) wheel ∙ unarmed)
      (omega (arith, popped place, queue.once place, number-le (time place)))
      (λ other apart. ap (λ w. deadline_of w other) wheel)
      (λ other apart. let none = at_other other turn (λ e. apart (sym e ∙ is)) in omega (arith, popped other))
      ordered
      room
      (ap key_limit wheel)

-- what is armed has a deadline
deadline_from : (deadline : Option ℕ) (P : ℕ → Type 0) → IsSomeAnd deadline P → (when : ℕ) × (deadline ≡ Some when) × P when
deadline_from None P h = absurd h
deadline_from (Some when) P h = (when, refl, h)

-- a place moves from the wheel, which has gone on to its time, into the list
module _ (limit : ℕ) (time : ℕ → Option ℕ) (old : Queue) (place when : ℕ) (queue : IsQueue limit time old) (waits : time place ≡ Some when) where
  pub below_limit : place < limit
  below_limit = elim (cases_lt place limit) [
    | inl below ↦ below
    | inr past ↦ let clash : None ≡ Some when = sym (queue.within place past) ∙ waits in absurd (let no : ⊥ = cc in no)
  ]

  pub room_for_armed : (wheel : Wheel) → IsSomeAnd (deadline_of old.wheel place) (λ at. at ≤ wheel.elapsed) → heap_len old.due < heap_capacity old.due
  room_for_armed wheel due =
      let armed = deadline_from (deadline_of old.wheel place) (λ at. at ≤ wheel.elapsed) due in
      has_room limit time old queue place below_limit (omega (arith, queue.once place, ap number armed.1, number-le (time place)))

  pub moved_over : (new : Queue) → IsSomeAnd (deadline_of old.wheel place) (λ at. at ≤ new.wheel.elapsed)
      → Sets old.wheel new.wheel place None → old.wheel.elapsed ≤ new.wheel.elapsed → key_limit new.wheel ≡ key_limit old.wheel
      → IsPermutation (record { 0 = record { time = when; place = place } } ∷ heap_items old.due) (heap_items new.due)
      → IsHeap later_first (heap_items new.due) → heap_capacity old.due ≤ heap_capacity new.due → IsQueue limit time new
  moved_over new due sets forward keys items ordered room =
      let armed = deadline_from (deadline_of old.wheel place) (λ at. at ≤ new.wheel.elapsed) due in
      let some : Some armed.0 ≡ Some when = sym (queue.armed place armed.0 armed.1) ∙ waits in
      let same : armed.0 ≡ when = cc in
      let between : Queue = record { wheel = new.wheel; due = old.due } in
      let off = with_time time place None in
      let turn : Reverse Turn = record { 0 = record { time = when; place = place } } in
      let first = disarmed limit time old between place queue armed.0 armed.1 sets forward keys refl in
      let second =
      put_listed limit off between new turn first (with_time-same time place None) below_limit (omega (arith, armed.2, same)) refl items ordered room in
      same_times limit (with_time off place (Some when)) time new
      (λ other. elim (cases_eq other place) [
        | inl at ↦ ap time at ∙ waits ∙ sym (ap (with_time off place (Some when)) at ∙ with_time-same off place (Some when))
        | inr apart ↦ sym (with_time-other off place (Some when) other apart ∙ with_time-other time place None other apart)
      ])
      second
