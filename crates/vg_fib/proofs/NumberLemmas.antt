-- For the clauses of `put_from` and `follow`, of levels and of spans, and of `Mtrie::target` and `Spans6::target`:
-- Numbers of routes: where all routes are put, an address's number is that of its best route.
use Rattle.std.proofs.Common.{◌≡◌, ℕ, zero, suc, ◌+◌, ◌-◌, ◌<◌, ◌≤◌, ◌≢◌, ◌⊎◌, inl, inr, true, false, List, [], ◌∷◌, ◌++◌, length, get_or, refl, sym, ◌∙◌, ap, subst, arith, append_assoc, append-nil, length-append}
use Rattle.std.proofs.lemmas.Bool.{cases_eq, cases_lt, false≢true, ltb-true, ltb-false}
use Rattle.std.proofs.lemmas.List.{get_or_append_left, get_or-append_right, get_or_default, get_or_past}
use Rattle.std.proofs.lemmas.List.Elements.{All-from_recursion}
use Rattle.std.specs.Prelude.{Option, Some, None, option_map, nat_lt, if◌then◌else◌}
use Rattle.std.specs.List.{Contains, AllByRecursion}
use Rattle.vg_model.specs.declared.routes.RouteTo.{RouteTo}
use Rattle.vg_model.specs.Route.{PrefixKind, best_of}
use Rattle.vg_fib.specs.Table.{HasOneEach}
use Rattle.vg_fib.specs.Numbers.{SlotsOf, routes_in, slot_at, length_if, length_at, length_of, longer_of, covers_if, covers_at, target_of, IsBestOf, AreFrom}
use Rattle.vg_fib.proofs.PrefixLemmas.{ArePrefixes}
use Rattle.vg_fib.proofs.BestLemmas.{covering, IsElsewhere, IsAtMost, no_answer, longest_match_is_best}

-- the places that were put so far: the first ones, and those that stand first in the order
abbrev pub ArePut : ℕ → List ℕ → ℕ → ℕ → Type 0
ArePut known order turn k = (k < known) ⊎ ((j : ℕ) × (j < turn) × (get_or order j 0 ≡ k))

-- before the first turn only the first ones are put
pub put_before : (known : ℕ) (order : List ℕ) (k : ℕ) → ArePut known order 0 k → k < known
put_before known order k (inl w) = w
put_before known order k (inr w) = absurd (omega (arith, w.1))

-- one turn more puts one place more
pub put_next : (known : ℕ) (order : List ℕ) (turn q k : ℕ) → get_or order turn 0 ≡ q → ArePut known order (turn + 1) k → ArePut known order turn k ⊎ (k ≡ q)
put_next known order turn q k is (inl w) = inl (inl w)
put_next known order turn q k is (inr w) = elim (cases_eq w.0 turn) [
  | inl e ↦ inr (sym w.2 ∙ (ap (λ j. get_or order j 0) e ∙ is))
  | inr ne ↦ inl (inr (w.0, omega (arith, w.1, ne), w.2))
]

-- after the last turn all are put
pub put_all : (known all : ℕ) (order : List ℕ) (k : ℕ) → AreFrom known all order → k < all → ArePut known order (length order) k
put_all known all order k from below = elim (cases_lt k known) [
  | inl first ↦ inl first
  | inr behind ↦ inr (from.each k behind below)
]

-- there are no places from one on below it
pub none_from : (known : ℕ) → AreFrom known known []
none_from known = record {
  count = omega arith;
  within = λ i inside. absurd (omega (arith, inside));
  each = λ k low high. absurd (omega (arith, low, high));
}

-- what stands before a number that is put in between, the number, and what stands behind it
front_kept : (front back : List ℕ) (x i : ℕ) → i < length front → get_or (front ++ (x ∷ back)) i 0 ≡ get_or (front ++ back) i 0
front_kept front back x i before = get_or_append_left front (x ∷ back) 0 i before ∙ sym (get_or_append_left front back 0 i before)

put_between : (front back : List ℕ) (x : ℕ) → get_or (front ++ (x ∷ back)) (length front) 0 ≡ x
put_between front back x =
    let none : length front - length front ≡ 0 = omega arith in
    get_or-append_right front (x ∷ back) (length front) (length front) 0 refl (omega arith) ∙ ap (λ j. get_or (x ∷ back) j 0) none

back_moved : (front back : List ℕ) (x i : ℕ) → length front ≤ i → get_or (front ++ (x ∷ back)) (i + 1) 0 ≡ get_or (front ++ back) i 0
back_moved front back x i behind =
    let next : i + 1 - length front ≡ suc (i - length front) = omega arith in
    get_or-append_right front (x ∷ back) (length front) (i + 1) 0 refl (omega arith)
    ∙ (ap (λ j. get_or (x ∷ back) j 0) next ∙ sym (get_or-append_right front back (length front) i 0 refl behind))

-- the next place is put somewhere among those so far
one_place_more : (known all : ℕ) (front back : List ℕ) → AreFrom known all (front ++ back) → AreFrom known (all + 1) (front ++ (all ∷ back))
one_place_more known all front back from =
    let before : length (front ++ back) ≡ length front + length back = length-append front back in
    let after : length (front ++ (all ∷ back)) ≡ length front + suc (length back) = length-append front (all ∷ back) in
    record {
      count = omega (arith, from.count, before, after);
      within = λ i inside. elim (cases_lt i (length front)) [
        | inl low ↦ omega (arith, front_kept front back all i low, from.within i (omega (arith, low, before)))
        | inr high ↦ elim (cases_eq i (length front)) [
          | inl here ↦ omega (arith, ap (λ j. get_or (front ++ (all ∷ back)) j 0) here ∙ put_between front back all)
          | inr other ↦
              let j : ℕ = i - 1 in
              let next : j + 1 ≡ i = omega (arith, high, other) in
              let is : get_or (front ++ (all ∷ back)) i 0 ≡ get_or (front ++ back) j 0 =
              ap (λ k. get_or (front ++ (all ∷ back)) k 0) (sym next) ∙ back_moved front back all j (omega (arith, high, other)) in
              omega (arith, is, from.within j (omega (arith, inside, before, after, next)))
        ]
      ];
      each = λ k low high. elim (cases_eq k all) [
        | inl last ↦ (length front, omega (arith, after), put_between front back all ∙ sym last)
        | inr other ↦
            let there = from.each k low (omega (arith, high, other)) in
            elim (cases_lt there.0 (length front)) [
              | inl near ↦ (there.0, omega (arith, near, after), front_kept front back all there.0 near ∙ there.2)
              | inr far ↦ (there.0 + 1, omega (arith, there.1, before, after), back_moved front back all there.0 far ∙ there.2)
            ]
      ];
    }

-- it is put behind those of the first of three lists, of the second, or of the third
pub placed_first : (known all : ℕ) (xs ys zs : List ℕ) → AreFrom known all ((xs ++ ys) ++ zs) → AreFrom known (all + 1) (((xs ++ all ∷ []) ++ ys) ++ zs)
placed_first known all xs ys zs from =
    subst (AreFrom known (all + 1)) (sym (append_assoc (xs ++ all ∷ []) ys zs ∙ append_assoc xs (all ∷ []) (ys ++ zs)))
    (one_place_more known all xs (ys ++ zs) (subst (AreFrom known all) (append_assoc xs ys zs) from))

pub placed_second : (known all : ℕ) (xs ys zs : List ℕ) → AreFrom known all ((xs ++ ys) ++ zs) → AreFrom known (all + 1) ((xs ++ (ys ++ all ∷ [])) ++ zs)
placed_second known all xs ys zs from =
    subst (AreFrom known (all + 1)) (sym (ap (λ front. front ++ zs) (sym (append_assoc xs ys (all ∷ []))) ∙ append_assoc (xs ++ ys) (all ∷ []) zs))
    (one_place_more known all (xs ++ ys) zs from)

pub placed_third : (known all : ℕ) (xs ys zs : List ℕ) → AreFrom known all ((xs ++ ys) ++ zs) → AreFrom known (all + 1) ((xs ++ ys) ++ (zs ++ all ∷ []))
placed_third known all xs ys zs from =
    subst (AreFrom known (all + 1)) (append_assoc (xs ++ ys) zs (all ∷ []))
    (one_place_more known all ((xs ++ ys) ++ zs) [] (subst (AreFrom known all) (sym (append-nil ((xs ++ ys) ++ zs))) from))

-- what was read in a slot stands there
pub slot_is : {P : Type 0} (slots : SlotsOf P) (place : ℕ) (read slot : Option (P × RouteTo)) → place < length slots → read ≡ get_or slots place read → read ≡ slot
    → slot_at slots place ≡ slot
slot_is slots place read slot within at is = get_or_default slots place None read within ∙ (sym at ∙ is)

-- at a place, slots and others have the same prefix or none
pub record HasSame {P : Type 0} (kind : PrefixKind P) (slots others : SlotsOf P) (address k : ℕ) : Type 0 where
  pub covers : covers_at kind others k address ≡ covers_at kind slots k address
  pub long : length_at kind others k ≡ length_at kind slots k

module _ {P : Type 0} {kind : PrefixKind P} (are : ArePrefixes kind) where
  -- the best number among some places is so among fewer
  pub best_among : (slots : SlotsOf P) (places fewer : ℕ → Type 0) (address number : ℕ) → ((k : ℕ) → k < length slots → fewer k → places k)
      → IsBestOf kind slots places address number → IsBestOf kind slots fewer address number
  best_among slots places fewer address zero each best = λ k within here. best k within (each k within here)
  best_among slots places fewer address (suc place) each best = record {
    within = best.within;
    covers = best.covers;
    longest = λ k within here. best.longest k within (each k within here);
  }

  -- the best number among places, with one more that doesn't cover the address
  best_with_other : (slots : SlotsOf P) (places more : ℕ → Type 0) (address q number : ℕ) → ((k : ℕ) → more k → places k ⊎ (k ≡ q))
      → covers_at kind slots q address ≡ false → IsBestOf kind slots places address number → IsBestOf kind slots more address number
  best_with_other slots places more address q zero each off best = λ k within here. elim (each k here) [
    | inl there ↦ best k within there
    | inr e ↦ subst (λ k. covers_at kind slots k address ≡ false) (sym e) off
  ]
  best_with_other slots places more address q (suc place) each off best = record {
    within = best.within;
    covers = best.covers;
    longest = λ k within here yes. elim (each k here) [
      | inl there ↦ best.longest k within there yes
      | inr e ↦ absurd (false≢true (sym off ∙ subst (λ k. covers_at kind slots k address ≡ true) e yes))
    ];
  }

  -- with one more that covers the address and is shorter
  best_with_shorter : (slots : SlotsOf P) (places more : ℕ → Type 0) (address q number : ℕ) → ((k : ℕ) → more k → places k ⊎ (k ≡ q))
      → length_at kind slots q < length_of kind slots number → IsBestOf kind slots places address number → IsBestOf kind slots more address number
  best_with_shorter slots places more address q zero each shorter best = absurd (omega (arith, shorter))
  best_with_shorter slots places more address q (suc place) each shorter best = record {
    within = best.within;
    covers = best.covers;
    longest = λ k within here yes. elim (each k here) [
      | inl there ↦ best.longest k within there yes
      | inr e ↦ subst (λ k. length_at kind slots k ≤ length_at kind slots place) (sym e) (omega (arith, shorter))
    ];
  }

  -- no place that covers the address is longer than its best number
  none_longer : (slots : SlotsOf P) (places : ℕ → Type 0) (address number k : ℕ) → IsBestOf kind slots places address number
      → k < length slots → places k → covers_at kind slots k address ≡ true → length_at kind slots k ≤ length_of kind slots number
  none_longer slots places address zero k best within here on = absurd (false≢true (sym (best k within here) ∙ on))
  none_longer slots places address (suc place) k best within here on = best.longest k within here on

  -- with one more that covers the address and is not shorter
  best_with_longer : (slots : SlotsOf P) (places more : ℕ → Type 0) (address q number : ℕ) → ((k : ℕ) → more k → places k ⊎ (k ≡ q))
      → q < length slots → covers_at kind slots q address ≡ true → length_of kind slots number ≤ length_at kind slots q
      → IsBestOf kind slots places address number → IsBestOf kind slots more address (suc q)
  best_with_longer slots places more address q number each inside on longer best = record {
    within = inside;
    covers = on;
    longest = λ k within here yes. elim (each k here) [
      | inl there ↦ omega (arith, none_longer slots places address number k best within there yes, longer)
      | inr e ↦ subst (λ k. length_at kind slots k ≤ length_at kind slots q) (sym e) (omega arith)
    ];
  }

  -- the best number among places, with one more
  pub best_with : (slots : SlotsOf P) (places more : ℕ → Type 0) (address q number : ℕ) → ((k : ℕ) → more k → places k ⊎ (k ≡ q))
      → q < length slots → IsBestOf kind slots places address number
      → IsBestOf kind slots more address (if covers_at kind slots q address then longer_of kind slots (suc q) number else number)
  best_with slots places more address q number each inside best =
      elim (covers_at kind slots q address) as (λ b. covers_at kind slots q address ≡ b
      → IsBestOf kind slots more address (if b then longer_of kind slots (suc q) number else number)) [
        | true ↦ λ on. elim (nat_lt (length_at kind slots q) (length_of kind slots number)) as (λ b. nat_lt (length_at kind slots q) (length_of kind slots number) ≡ b
            → IsBestOf kind slots more address (if b then number else suc q)) [
              | true ↦ λ is. best_with_shorter slots places more address q number each (ltb-true _ _ is) best
              | false ↦ λ is. best_with_longer slots places more address q number each inside on (ltb-false _ _ is) best
            ] refl
        | false ↦ λ off. best_with_other slots places more address q number each off best
      ] refl

  -- what holds of the route in each slot holds of each route
  all_in : (Q : P × RouteTo → Type 0) (slots : SlotsOf P) → ((k : ℕ) (route : P × RouteTo) → slot_at slots k ≡ Some route → Q route)
      → AllByRecursion Q (routes_in slots)
  all_in Q [] each = tt
  all_in Q (None ∷ slots) each = all_in Q slots (λ k. each (suc k))
  all_in Q (Some route ∷ slots) each = (each 0 route refl, all_in Q slots (λ k. each (suc k)))

  -- the route in a slot is one of the routes
  in_routes : (slots : SlotsOf P) (k : ℕ) (route : P × RouteTo) → slot_at slots k ≡ Some route → Contains (routes_in slots) route
  in_routes [] k route is = absurd (let bad : ⊥ = cc in bad)
  in_routes (None ∷ slots) zero route is = absurd (let bad : ⊥ = cc in bad)
  in_routes (None ∷ slots) (suc k) route is = in_routes slots k route is
  in_routes (Some first ∷ slots) zero route is = (0, omega arith, (cc))
  in_routes (Some first ∷ slots) (suc k) route is = let there = in_routes slots k route is in (suc there.0, omega (arith, there.1), there.2)

  -- a slot that covers an address is within the slots
  pub within_slots : (slots : SlotsOf P) (k address : ℕ) → covers_at kind slots k address ≡ true → k < length slots
  within_slots slots k address on = elim (cases_lt k (length slots)) [
    | inl within ↦ within
    | inr past ↦ absurd (false≢true (sym (ap (λ slot. covers_if kind slot address) (get_or_past slots k None past)) ∙ on))
  ]

  -- a route covers an address by its slot
  covered_there : (slots : SlotsOf P) (k address : ℕ) (route : P × RouteTo) → slot_at slots k ≡ Some route
      → covers_at kind slots k address ≡ covering kind address route
  covered_there slots k address route is = ap (λ slot. covers_if kind slot address) is

  -- where the slot at a place covers an address a route stands there
  stands_there : (slot : Option (P × RouteTo)) (address : ℕ) → covers_if kind slot address ≡ true → (route : P × RouteTo) × (slot ≡ Some route)
  stands_there None address on = absurd (false≢true on)
  stands_there (Some route) address on = (route, refl)

  -- the best number among all routes is that of the best route
  pub best_is_route : (slots : SlotsOf P) (address number : ℕ) → HasOneEach kind (routes_in slots)
      → IsBestOf kind slots (λ k. k < length slots) address number → target_of slots number ≡ best_of kind (routes_in slots) address
  best_is_route slots address zero distinct best =
      sym (no_answer are (routes_in slots) address (All-from_recursion (IsElsewhere kind address) (routes_in slots) (all_in (IsElsewhere kind address) slots
      (λ k route is yes.
      let on : covers_at kind slots k address ≡ true = covered_there slots k address route is ∙ yes in
      false≢true (sym (best k (within_slots slots k address on) (within_slots slots k address on)) ∙ on)))))
  best_is_route slots address (suc place) distinct best =
      let there = stands_there (slot_at slots place) address best.covers in
      let route = there.0 in
      ap (option_map (λ r. r.1)) there.1
      ∙ sym (longest_match_is_best are (routes_in slots) address route distinct (record {
        inside = in_routes slots place route there.1;
        covers = sym (covered_there slots place address route there.1) ∙ best.covers;
        longest = All-from_recursion (IsAtMost kind address (kind.len route.0)) (routes_in slots) (all_in (IsAtMost kind address (kind.len route.0)) slots
            (λ k other is yes.
            let on : covers_at kind slots k address ≡ true = covered_there slots k address other is ∙ yes in
            let less : length_at kind slots k ≤ length_at kind slots place = best.longest k (within_slots slots k address on) (within_slots slots k address on) on in
            omega (arith, less, ap (length_if kind) is, ap (length_if kind) there.1)));
      }))

  -- a best number is within the slots
  pub best_within : (slots : SlotsOf P) (places : ℕ → Type 0) (address number : ℕ) → IsBestOf kind slots places address number → number ≤ length slots
  best_within slots places address zero best = omega arith
  best_within slots places address (suc place) best = omega (arith, best.within)

  -- slots that begin with the same prefixes have the same best numbers among these
  pub best_moved : (slots others : SlotsOf P) (address number : ℕ) → length slots ≤ length others → ((k : ℕ) → k < length slots → HasSame kind slots others address k)
      → IsBestOf kind slots (λ k. k < length slots) address number → IsBestOf kind others (λ k. k < length slots) address number
  best_moved slots others address zero few same best = λ k within here. (same k here).covers ∙ best k here here
  best_moved slots others address (suc place) few same best = record {
    within = omega (arith, best.within, few);
    covers = (same place best.within).covers ∙ best.covers;
    longest = λ k within here yes.
        omega (arith, best.longest k here here (sym (same k here).covers ∙ yes), (same k here).long, (same place best.within).long);
  }

  -- an address's number after one turn
  pub number_after_turn : (slots : SlotsOf P) (known turn q address number new : ℕ) (order : List ℕ) → get_or order turn 0 ≡ q → q < length slots
      → IsBestOf kind slots (ArePut known order turn) address number
      → new ≡ (if covers_at kind slots q address then longer_of kind slots (q + 1) number else number)
      → IsBestOf kind slots (ArePut known order (turn + 1)) address new
  number_after_turn slots known turn q address number new order at inside best is =
      let next : q + 1 ≡ suc q = omega arith in
      let whole : (if covers_at kind slots q address then longer_of kind slots (suc q) number else number) ≡ new =
      ap (λ m. if covers_at kind slots q address then longer_of kind slots m number else number) (sym next) ∙ sym is in
      subst (IsBestOf kind slots (ArePut known order (turn + 1)) address) whole
      (best_with slots (ArePut known order turn) (ArePut known order (turn + 1)) address q number (λ k. put_next known order turn q k at) inside best)

  -- no address's number is any where no route is put
  pub nothing_best : (places : ℕ → Type 0) (address number : ℕ) → number ≡ 0 → IsBestOf kind [] places address number
  nothing_best places address number none = subst (IsBestOf kind [] places address) (sym none) (λ k within. absurd (omega (arith, within)))

  -- what stands in the slot before a number
  pub read_slot : (slots : SlotsOf P) (number : ℕ) (x : Option (P × RouteTo)) → number ≢ 0 → number ≤ length slots → x ≡ get_or slots (number - 1) x
      → target_of slots number ≡ option_map (λ r. r.1) x
  read_slot slots zero x some few is = absurd (some refl)
  read_slot slots (suc place) x some few is =
      let before : suc place - 1 ≡ place = omega arith in
      let read : x ≡ get_or slots place x = subst (λ k. x ≡ get_or slots k x) before is in
      ap (option_map (λ r. r.1)) (get_or_default slots place None x (omega (arith, few)) ∙ sym read)
