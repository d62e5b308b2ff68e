-- For `next_time` and `poll` of the processes: the block that waits under the earliest time has the first of all events.
use Rattle.std.proofs.Common.{◌≡◌, ℕ, suc, zero, ◌+◌, ◌<◌, ◌≤◌, ◌⊎◌, List, [], ◌∷◌, ◌++◌, length, drop, take, get_or, set, map, Some, None}
use Rattle.std.proofs.Common.{inl, inr, refl, sym, ap, ◌∙◌, arith, length-take, length-drop, get_or-set_same, get_or-set_other, get_or-take, get_or-drop}
use Rattle.std.proofs.lemmas.Bool.{cases_eq, cases_lt}
use Rattle.std.proofs.lemmas.List.{set_split, set-get_or, get_or_past}
use Rattle.std.proofs.lemmas.List.Concat.{flat_map-append}
use Rattle.std.proofs.lemmas.List.Elements.{recursion_from_All, All-from_recursion}
use Rattle.std.specs.List.{AllByRecursion as Rec, All}
use Rattle.vg_script.specs.Events.{Event, in_order}
use Rattle.vg_process.specs.declared.queue.Turn.{Turn}
use Rattle.vg_process.specs.Left.{first_time}
use Rattle.vg_process.specs.Rest.{rest_at, left, IsRising, AreLinesAbove, IsOrderly}
use Rattle.vg_process.specs.Waiting.{time_at, IsFirst, IsNoneWaiting}
use Rattle.vg_process.proofs.OrderLemmas.{Before, before_time, before_line, in_order-least, Rec-in_order, Rec-append, Rec-joined, joined}

-- a block waits under the time of its next run
pub time_at-map : (rests : List (List Event)) (place : ℕ) → time_at (map first_time rests) place ≡ first_time (rest_at rests place)
time_at-map [] place = refl
time_at-map (es ∷ rests) zero = refl
time_at-map (es ∷ rests) (suc place) = time_at-map rests place

first_time-some : (events : List Event) (d : Event) → 0 < length events → first_time events ≡ Some (get_or events 0 d).time
first_time-some [] d some = absurd (omega arith)
first_time-some (e ∷ es) d some = refl

first_time-none : (events : List Event) → first_time events ≡ None → events ≡ []
first_time-none [] none = refl
first_time-none (e ∷ es) none = let no : ⊥ = cc in absurd no

-- what waits under a time has a run
pub has_run : (events : List Event) (time : ℕ) → first_time events ≡ Some time → (e : Event) × (es : List Event) × (events ≡ e ∷ es)
has_run [] time none = let no : ⊥ = cc in absurd no
has_run (e ∷ es) time is = (e, es, refl)

-- where no block waits, no event is left
pub left-none : (rests : List (List Event)) → IsNoneWaiting (time_at (map first_time rests)) → left rests ≡ []
left-none rests none = ap in_order (joined-none rests (λ place. first_time-none (rest_at rests place) (sym (time_at-map rests place) ∙ none place)))
  where
    joined-none : (rests : List (List Event)) → ((place : ℕ) → rest_at rests place ≡ []) → joined rests ≡ []
    joined-none [] none = refl
    joined-none (es ∷ rests) none = rw (none 0) (joined-none rests (λ place. none (suc place)))

-- from the runs of a block the first may be taken
rest_at-set : (rests : List (List Event)) (place : ℕ) (events : List Event) → place < length rests → (other : ℕ)
    → (n : ℕ) → events ≡ drop n (rest_at rests place) → (m : ℕ) × (rest_at (set rests place events) other ≡ drop m (rest_at rests other))
rest_at-set rests place events below other n is =
    elim (cases_eq other place) [
      | inl same ↦ (n, ap (rest_at (set rests place events)) same ∙ get_or-set_same rests place events [] below ∙ is ∙ ap (λ p. drop n (rest_at rests p)) (sym same))
      | inr apart ↦ (0, get_or-set_other rests place other events [] apart)
    ]

IsRising-drop : (n : ℕ) (events : List Event) → IsRising events → IsRising (drop n events)
IsRising-drop n events rising k m d less within =
    let len = length-drop n events in
    rw (get_or-drop n events k d, get_or-drop n events m d) (rising (n + k) (n + m) d (omega arith) (omega (arith, len)))

AreLinesAbove-drop : (n m : ℕ) (events others : List Event) → AreLinesAbove events others → AreLinesAbove (drop n events) (drop m others)
AreLinesAbove-drop n m events others above i j d within inside =
    let len = length-drop n events in
    let length = length-drop m others in
    rw (get_or-drop n events i d, get_or-drop m others j d) (above (n + i) (m + j) d (omega (arith, len)) (omega (arith, length)))

pub IsOrderly-set : (rests : List (List Event)) (place n : ℕ) (events : List Event) → place < length rests → events ≡ drop n (rest_at rests place)
    → IsOrderly rests → IsOrderly (set rests place events)
IsOrderly-set rests place n events below is orderly =
    let at = λ (p : ℕ). rest_at-set rests place events below p n is in
    record {
      rising = λ p. rw (at p).1 (IsRising-drop (at p).0 (rest_at rests p) (orderly.rising p));
      apart = λ p q less.
          rw ((at p).1, (at q).1) (AreLinesAbove-drop (at p).0 (at q).0 (rest_at rests p) (rest_at rests q) (orderly.apart p q less));
    }

module _ (rests : List (List Event)) (orderly : IsOrderly rests) (turn : Turn) (first : IsFirst (time_at (map first_time rests)) turn) where
  -- the next run of a block is not earlier
  next_time-le : (place : ℕ) (d : Event) → 0 < length (rest_at rests place)
      → (turn.time < (get_or (rest_at rests place) 0 d).time)
      ⊎ ((turn.time ≡ (get_or (rest_at rests place) 0 d).time) × (turn.place ≤ place))
  next_time-le place d some =
      first.least place (get_or (rest_at rests place) 0 d).time (time_at-map rests place ∙ first_time-some (rest_at rests place) d some)

  -- nor is any other run
  later : (place k : ℕ) (d : Event) → k < length (rest_at rests place)
      → (get_or (rest_at rests place) 0 d).time ≤ (get_or (rest_at rests place) k d).time
  later place zero d within = omega arith
  later place (suc k) d within = omega (arith, orderly.rising place 0 (suc k) d (omega arith) within)

  each_later : (place : ℕ) → Rec (λ f. turn.time ≤ f.time) (rest_at rests place)
  each_later place =
      recursion_from_All (λ f. turn.time ≤ f.time) (rest_at rests place)
      (λ k d within.
      let least = next_time-le place d (omega (arith, within)) in
      elim least [ inl less ↦ omega (arith, less, later place k d within) | inr tie ↦ omega (arith, tie.0, later place k d within) ])

  -- no event that is left is earlier
  pub none_earlier : All (λ f. turn.time ≤ f.time) (left rests)
  none_earlier =
      All-from_recursion (λ f. turn.time ≤ f.time) (left rests)
      (Rec-in_order (λ f. turn.time ≤ f.time) (joined rests) (Rec-joined (λ f. turn.time ≤ f.time) rests each_later))

  module _ (e : Event) (es : List Event) (is : rest_at rests turn.place ≡ e ∷ es) where
    pub time_is : e.time ≡ turn.time
    time_is = let some : Some e.time ≡ Some turn.time = sym (time_at-map rests turn.place ∙ ap first_time is) ∙ first.waits in cc

    pub place_within : turn.place < length rests
    place_within =
        elim (cases_lt turn.place (length rests)) [
          | inl below ↦ below
          | inr past ↦ let clash : [] ≡ e ∷ es = sym (get_or_past rests turn.place [] past) ∙ is in let no : ⊥ = cc in absurd no
        ]

    -- the runs of other blocks come later
    others_later : (other : ℕ) → (other ≡ turn.place → ⊥) → Rec (Before e) (rest_at rests other)
    others_later other apart =
        recursion_from_All (Before e) (rest_at rests other)
        (λ k d within.
        let f = get_or (rest_at rests other) k d in
        let late = later other k d within in
        let same = time_is in
        elim (cases_lt e.time f.time) [
          | inl less ↦ before_time e f less
          | inr tie ↦
              elim (next_time-le other d (omega (arith, within))) [
                | inl less ↦ absurd (omega (arith, less, late, tie, same))
                | inr least ↦
                    let below : turn.place < other = omega (arith, least.1, apart) in
                    let some : 0 < length (rest_at rests turn.place) = omega (arith, ap length is) in
                    let lines = orderly.apart turn.place other below 0 k d some within in
                    let line : e.line < f.line = rw is at lines in
                    before_line e f (omega (arith, least.0, late, tie, same)) line
              ]
        ])

    -- and so do the others of its block
    own_later : Rec (Before e) es
    own_later =
        recursion_from_All (Before e) es
        (λ k d within.
        let rising = rw is at (orderly.rising turn.place) in
        before_time e (get_or es k d) (rising 0 (suc k) d (omega arith) (omega (arith, within))))

    pub first_left : left rests ≡ e ∷ left (set rests turn.place es)
    first_left =
        let place = turn.place in
        let below = place_within in
        let before = take place rests in
        let behind = drop (suc place) rests in
        let whole : rests ≡ before ++ (e ∷ es) ∷ behind = sym (set-get_or rests place []) ∙ ap (set rests place) is ∙ set_split rests place (e ∷ es) below in
        let rest : set rests place es ≡ before ++ es ∷ behind = set_split rests place es below in
        let front =
        Rec-joined (Before e) before
        (λ p. elim (cases_lt p place) [
          | inl less ↦ rw (get_or-take place rests p [] less) (others_later p (λ same. omega arith))
          | inr past ↦
              let none : rest_at before p ≡ [] = get_or_past before p [] (omega (arith, length-take place rests)) in
              rw none tt
        ]) in
        let back =
        Rec-append (Before e) es (joined behind) own_later
        (Rec-joined (Before e) behind (λ p. rw (get_or-drop (suc place) rests p []) (others_later (suc place + p) (λ same. omega arith)))) in
        ap left whole
        ∙ ap in_order (flat_map-append (λ (events : List Event). events) before ((e ∷ es) ∷ behind))
        ∙ in_order-least e (joined before) (es ++ joined behind) front back
        ∙ ap (λ events. e ∷ in_order events) (sym (flat_map-append (λ (events : List Event). events) before (es ∷ behind)))
        ∙ ap (λ r. e ∷ left r) (sym rest)

  pub first_time-left : first_time (left rests) ≡ Some turn.time
  first_time-left =
      let waits = sym (time_at-map rests turn.place) ∙ first.waits in
      let run = has_run (rest_at rests turn.place) turn.time waits in
      ap first_time (first_left run.0 run.1 run.2) ∙ ap Some (time_is run.0 run.1 run.2)
