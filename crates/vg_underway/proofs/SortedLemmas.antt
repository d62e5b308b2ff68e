-- For the clause `dispatched` of `Work::dispatch_next`: a frame's indexes in sorted lists, taken together.
use Rattle.std.proofs.Common.{◌≡◌, ◌≢◌, ℕ, ◌+◌, ◌<◌, ◌≤◌, true, false, List, [], ◌∷◌, ◌++◌, map, refl, sym, ap, subst, ◌∙◌, inl, inr, ◌⊎◌, arith}
use Rattle.std.specs.Prelude.{Option, Some, None, option_map, option_and_then, unwrap_or, nat_eq, is_some, if◌then◌else◌}
use Rattle.std.specs.List.{sum_by, AllByRecursion, IsDistinct, cons_option}
use Rattle.std.proofs.lemmas.List.Sums.{sum_by-cons, sum_by-append}
use Rattle.std.proofs.lemmas.Option.{none-some, same_Some}
use Rattle.std.proofs.lemmas.Bool.Decides.{eqb_tells}
use Rattle.vg_model.specs.declared.kinds.DropError.{DropError}
use Rattle.vg_model.specs.declared.kinds.Step.{Step}
use Rattle.vg_model.specs.declared.kinds.Step.TheVariants.{Next, Tx, Dropped, Hand}
use Rattle.vg_pool.specs.Contents.{Contents}
use Rattle.vg_frame.specs.Placed.{buffer_at, IsLive}
use Rattle.vg_nodes.specs.declared.sorted.Sorted.{Sorted}
use Rattle.vg_nodes.specs.Dispatch.{NodeVisit, step_at, entries, next_entry, tx_entry, drop_entry, hand_entry, IsSortedBy}
use Rattle.vg_underway.specs.Underway.{live_at}
use Rattle.vg_underway.specs.Places.{same_one}
use Rattle.vg_underway.specs.Works.{next_step, tx_step, drop_step, hand_step, hand_of}
use Rattle.vg_underway.proofs.SumLemmas.{same_one_self}

-- what one list counts for an index, and for all
one_of : {V : Type 0} → (ℕ × Step → ℕ) → (ℕ × V → ℕ × Step) → Option (ℕ × V) → ℕ
one_of f step None = 0
one_of f step (Some e) = f (step e)

list_sum : {V : Type 0} → (ℕ × Step → ℕ) → (ℕ × V → ℕ × Step) → (ℕ → Step → Option (ℕ × V)) → NodeVisit → List (Option Contents) → List ℕ → ℕ
list_sum f step entry visit memory frame = sum_by f (map step (entries entry visit memory frame))

list_sum_cons : {V : Type 0} (f : ℕ × Step → ℕ) (step : ℕ × V → ℕ × Step) (entry : ℕ → Step → Option (ℕ × V)) (visit : NodeVisit) (memory : List (Option Contents)) (i : ℕ) (rest : List ℕ)
    → list_sum f step entry visit memory (i ∷ rest) ≡ one_of f step (option_and_then (entry i) (step_at visit memory i)) + list_sum f step entry visit memory rest
unfolding list_sum one_of
list_sum_cons {V} f step entry visit memory i rest = by (option_and_then (entry i) (step_at visit memory i)) (entries entry visit memory rest)
  where
    by : (o : Option (ℕ × V)) (es : List (ℕ × V)) → sum_by f (map step (cons_option o es)) ≡ one_of f step o + sum_by f (map step es)
    by None es = omega arith
    by (Some e) es = sum_by-cons f (step e) (map step es)

-- what a step of an index counts
abbrev pub step_sum : (ℕ × Step → ℕ) → NodeVisit → List (Option Contents) → ℕ → ℕ
step_sum f visit memory i = unwrap_or (option_map (λ step. f (i, step)) (step_at visit memory i)) 0

-- the step of an index stands in one list
one_list : (f : ℕ × Step → ℕ) (i : ℕ) (o : Option Step)
    → one_of f next_step (option_and_then (next_entry i) o) + (one_of f tx_step (option_and_then (tx_entry i) o) + (one_of f drop_step (option_and_then (drop_entry i) o) + one_of f hand_step (option_and_then (hand_entry i) o)))
    ≡ unwrap_or (option_map (λ step. f (i, step)) o) 0
unfolding one_of
one_list f i None = refl
one_list f i (Some (Next slot)) = omega arith
one_list f i (Some (Tx interface)) = omega arith
one_list f i (Some (Dropped error)) = omega arith
one_list f i (Some (Hand hash)) = omega arith

all_lists : (f : ℕ × Step → ℕ) (visit : NodeVisit) (memory : List (Option Contents)) (frame : List ℕ)
    → list_sum f next_step next_entry visit memory frame + (list_sum f tx_step tx_entry visit memory frame + (list_sum f drop_step drop_entry visit memory frame + list_sum f hand_step hand_entry visit memory frame))
    ≡ sum_by (step_sum f visit memory) frame
unfolding list_sum
all_lists f visit memory [] = refl
all_lists f visit memory (i ∷ rest) =
    let e = all_lists f visit memory rest in
    let one = one_list f i (step_at visit memory i) in
    omega (
      arith,
      e,
      one,
      sum_by-cons (step_sum f visit memory) i rest,
      list_sum_cons f next_step next_entry visit memory i rest,
      list_sum_cons f tx_step tx_entry visit memory i rest,
      list_sum_cons f drop_step drop_entry visit memory i rest,
      list_sum_cons f hand_step hand_entry visit memory i rest,
    )

-- a sum over all that is in hand after a dispatch
pub sum_hand : (f : ℕ × Step → ℕ) (visit : NodeVisit) (memory : List (Option Contents)) (frame : List ℕ) (sorted : Sorted) → IsSortedBy visit memory frame sorted
    → sum_by f (hand_of sorted) ≡ sum_by (step_sum f visit memory) frame
unfolding list_sum
sum_hand f visit memory frame sorted is =
    let n : sum_by f (map next_step sorted.next) ≡ list_sum f next_step next_entry visit memory frame = ap (λ es. sum_by f (map next_step es)) is.next in
    let x : sum_by f (map tx_step sorted.tx) ≡ list_sum f tx_step tx_entry visit memory frame = ap (λ es. sum_by f (map tx_step es)) is.tx in
    let d : sum_by f (map drop_step sorted.drops) ≡ list_sum f drop_step drop_entry visit memory frame = ap (λ es. sum_by f (map drop_step es)) is.drops in
    let h : sum_by f (map hand_step sorted.hands) ≡ list_sum f hand_step hand_entry visit memory frame = ap (λ es. sum_by f (map hand_step es)) is.hands in
    let all = all_lists f visit memory frame in
    omega (
      arith,
      n,
      x,
      d,
      h,
      all,
      sum_by-append f (map next_step sorted.next) (map tx_step sorted.tx ++ (map drop_step sorted.drops ++ map hand_step sorted.hands)),
      sum_by-append f (map tx_step sorted.tx) (map drop_step sorted.drops ++ map hand_step sorted.hands),
      sum_by-append f (map drop_step sorted.drops) (map hand_step sorted.hands),
    )

-- a fact on all of both lists
pub all_append : {X : Type 0} (P : X → Type 0) (xs ys : List X) → AllByRecursion P xs → AllByRecursion P ys → AllByRecursion P (xs ++ ys)
all_append P [] ys a b = b
all_append P (x ∷ xs) ys a b = (a.0, all_append P xs ys a.1 b)

-- what holds of the step of each index holds of what is in hand
abbrev pub HoldsOfStep : (ℕ × Step → Type 0) → NodeVisit → List (Option Contents) → ℕ → Type 0
HoldsOfStep Q visit memory i = (step : Step) → step_at visit memory i ≡ Some step → Q (i, step)

list_all : {V : Type 0} (Q : ℕ × Step → Type 0) (step : ℕ × V → ℕ × Step) (entry : ℕ → Step → Option (ℕ × V)) (visit : NodeVisit) (memory : List (Option Contents))
    → ((i : ℕ) (st : Step) (e : ℕ × V) → entry i st ≡ Some e → (i, st) ≡ step e) → (frame : List ℕ) → AllByRecursion (HoldsOfStep Q visit memory) frame
    → AllByRecursion Q (map step (entries entry visit memory frame))
list_all Q step entry visit memory back [] all = tt
list_all {V} Q step entry visit memory back (i ∷ rest) all = by (list_all Q step entry visit memory back rest all.1) (step_at visit memory i) refl
  where
    with_entry : AllByRecursion Q (map step (entries entry visit memory rest)) → (st : Step) (o : Option (ℕ × V)) → step_at visit memory i ≡ Some st → entry i st ≡ o
        → AllByRecursion Q (map step (cons_option o (entries entry visit memory rest)))
    with_entry more st None here is = more
    with_entry more st (Some e) here is = (subst Q (back i st e is) (all.0 st here), more)

    by : AllByRecursion Q (map step (entries entry visit memory rest)) → (o : Option Step) → step_at visit memory i ≡ o
        → AllByRecursion Q (map step (cons_option (option_and_then (entry i) o) (entries entry visit memory rest)))
    by more None here = more
    by more (Some st) here = with_entry more st (entry i st) here refl

next_back : (i : ℕ) (st : Step) (e : ℕ × ℕ) → next_entry i st ≡ Some e → (i, st) ≡ next_step e
next_back i (Next slot) e is = ap next_step (same_Some _ e is)
next_back i (Tx interface) e is = absurd (none-some e is)
next_back i (Dropped error) e is = absurd (none-some e is)
next_back i (Hand hash) e is = absurd (none-some e is)

tx_back : (i : ℕ) (st : Step) (e : ℕ × ℕ) → tx_entry i st ≡ Some e → (i, st) ≡ tx_step e
tx_back i (Next slot) e is = absurd (none-some e is)
tx_back i (Tx interface) e is = ap tx_step (same_Some _ e is)
tx_back i (Dropped error) e is = absurd (none-some e is)
tx_back i (Hand hash) e is = absurd (none-some e is)

drop_back : (i : ℕ) (st : Step) (e : ℕ × DropError) → drop_entry i st ≡ Some e → (i, st) ≡ drop_step e
drop_back i (Next slot) e is = absurd (none-some e is)
drop_back i (Tx interface) e is = absurd (none-some e is)
drop_back i (Dropped error) e is = ap drop_step (same_Some _ e is)
drop_back i (Hand hash) e is = absurd (none-some e is)

hand_back : (i : ℕ) (st : Step) (e : ℕ × ℕ) → hand_entry i st ≡ Some e → (i, st) ≡ hand_step e
hand_back i (Next slot) e is = absurd (none-some e is)
hand_back i (Tx interface) e is = absurd (none-some e is)
hand_back i (Dropped error) e is = absurd (none-some e is)
hand_back i (Hand hash) e is = ap hand_step (same_Some _ e is)

pub all_hand : (Q : ℕ × Step → Type 0) (visit : NodeVisit) (memory : List (Option Contents)) (frame : List ℕ) (sorted : Sorted) → IsSortedBy visit memory frame sorted
    → AllByRecursion (HoldsOfStep Q visit memory) frame → AllByRecursion Q (hand_of sorted)
all_hand Q visit memory frame sorted is all =
    let n : AllByRecursion Q (map next_step sorted.next) = subst (λ es. AllByRecursion Q (map next_step es)) (sym is.next) (list_all Q next_step next_entry visit memory next_back frame all) in
    let x : AllByRecursion Q (map tx_step sorted.tx) = subst (λ es. AllByRecursion Q (map tx_step es)) (sym is.tx) (list_all Q tx_step tx_entry visit memory tx_back frame all) in
    let d : AllByRecursion Q (map drop_step sorted.drops) = subst (λ es. AllByRecursion Q (map drop_step es)) (sym is.drops) (list_all Q drop_step drop_entry visit memory drop_back frame all) in
    let h : AllByRecursion Q (map hand_step sorted.hands) = subst (λ es. AllByRecursion Q (map hand_step es)) (sym is.hands) (list_all Q hand_step hand_entry visit memory hand_back frame all) in
    all_append Q (map next_step sorted.next) _ n (all_append Q (map tx_step sorted.tx) _ x (all_append Q (map drop_step sorted.drops) _ d h))

-- what a list of indexes has of an index
pub not_among : (i : ℕ) (frame : List ℕ) → sum_by (same_one i) frame ≡ 0 → AllByRecursion (λ other. other ≢ i) frame
not_among i [] none = tt
not_among i (x ∷ xs) none = (
  (λ same. let one : same_one i x ≡ 1 = ap (same_one i) same ∙ same_one_self i in absurd (omega (arith, none, one, sum_by-cons (same_one i) x xs))),
  not_among i xs (omega (arith, none, sum_by-cons (same_one i) x xs)),
)

pub among_holds : (P : ℕ → Type 0) (i : ℕ) (frame : List ℕ) → AllByRecursion P frame → 0 < sum_by (same_one i) frame → P i
among_holds P i [] all some = absurd (omega (arith, some))
among_holds P i (x ∷ xs) all some = elim (eqb_tells x i) [
  | inl same ↦ subst P same.1 all.0
  | inr other ↦
      let none : same_one i x ≡ 0 = ap (λ b. if b then 1 else 0) other.0 in
      among_holds P i xs all.1 (omega (arith, some, none, sum_by-cons (same_one i) x xs))
]

-- indexes that each stand in one live place are live, and differ
pub all_live : (memory : List (Option Contents)) (frame : List ℕ) → ((i : ℕ) → sum_by (same_one i) frame ≤ live_at memory i) → AllByRecursion (IsLive memory) frame
all_live memory [] most = tt
all_live memory (x ∷ xs) most = (
  some (buffer_at memory x) (let h = most x in omega (arith, h, same_one_self x, sum_by-cons (same_one x) x xs)),
  all_live memory xs (λ i. let h = most i in omega (arith, h, sum_by-cons (same_one i) x xs)),
)
  where
    some : (o : Option Contents) → 0 < (if is_some o then 1 else 0) → is_some o ≡ true
    some None h = absurd (omega (arith, h))
    some (Some c) h = refl

others_differ : (x : ℕ) (xs : List ℕ) → sum_by (same_one x) xs ≡ 0 → AllByRecursion (λ y. nat_eq x y ≡ false) xs
others_differ x [] none = tt
others_differ x (y ∷ ys) none =
    (differ (eqb_tells x y), others_differ x ys (omega (arith, none, sum_by-cons (same_one x) y ys)))
  where
    differ : ((nat_eq x y ≡ true) × (x ≡ y)) ⊎ ((nat_eq x y ≡ false) × (x ≢ y)) → nat_eq x y ≡ false
    differ (inl same) = let one : same_one x y ≡ 1 = ap (same_one x) (sym same.1) ∙ same_one_self x in absurd (omega (arith, none, one, sum_by-cons (same_one x) y ys))
    differ (inr other) = other.0

pub all_distinct : (frame : List ℕ) → ((i : ℕ) → sum_by (same_one i) frame ≤ 1) → IsDistinct nat_eq frame
unfolding IsDistinct
all_distinct [] most = tt
all_distinct (x ∷ xs) most = (
  others_differ x xs (let h = most x in omega (arith, h, same_one_self x, sum_by-cons (same_one x) x xs)),
  all_distinct xs (λ i. let h = most i in omega (arith, h, sum_by-cons (same_one i) x xs)),
)
