-- For the clauses of `place_in_order`, and for `new`, `set` and `remove` of `Fib` and `Fib6`:
-- The order of a table's prefixes: what stands in it, and how it changes with the table.
use Rattle.std.proofs.Common.{◌≡◌, ℕ, zero, suc, take, drop, ◌+◌, ◌-◌, ◌<◌, ◌≤◌, true, false, List, [], ◌∷◌, ◌++◌, map, length, get_or, refl, sym, ◌∙◌, ap, subst, arith, inl, inr}
use Rattle.std.proofs.Math.ListN.{set}
use Rattle.std.proofs.Math.Seq.{map-set_same}
use Rattle.std.proofs.lemmas.Bool.{cases_order, cases_lt, lt-ltb, le-ltb}
use Rattle.std.proofs.lemmas.List.{get_or_append_left, get_or_push, get_or-map, length-map, length_push, map_push, get_or_default, map-append, take-map, drop-map, take_at}
use Rattle.std.proofs.lemmas.List.Edits.{length-insert, get_or-insert_below, get_or-insert_at, get_or-insert_above, length-remove, get_or-remove_below, get_or-remove_above}
use Rattle.std.specs.Prelude.{Some, None, remove, nat_lt, if◌then◌else◌}
use Rattle.std.specs.List.{insert, AllByRecursion}
use Rattle.vg_model.specs.declared.routes.RouteTo.{RouteTo}
use Rattle.vg_model.specs.declared.routes.RouteTo.TheVariants.{Local}
use Rattle.vg_model.specs.Edit.{most_routes, place_in}
use Rattle.vg_model.specs.Route.{PrefixKind, RoutesOf, is_same}
use Rattle.vg_fib.specs.Table.{IsTable}
use Rattle.vg_fib.specs.Order.{rank, ranks, rank_at, IsOrder, StandsIn, IsGap, moved_down}
use Rattle.vg_fib.proofs.ListLemmas.{position_none}
use Rattle.vg_fib.proofs.PrefixLemmas.{ArePrefixes, same_itself}
use Rattle.vg_fib.proofs.TableLemmas.{stands_where_found, table_push, table_remove}

-- nothing is in order
pub order_empty : IsOrder [] []
order_empty = record {
  all = refl;
  within = λ i h. absurd (omega (arith, h));
  rising = λ i j h k. absurd (omega (arith, k));
  each = λ place h. absurd (omega (arith, h));
}

-- what stands at a place of an order into which a new place was put
pub data Inserted (ranks order : List ℕ) (r at i : ℕ) : Type 0 where
  Before : i < at → get_or (insert order at (length ranks)) i 0 ≡ get_or order i 0
      → rank_at (ranks ++ r ∷ []) (insert order at (length ranks)) i ≡ rank_at ranks order i → Inserted ranks order r at i
  Here : i ≡ at → get_or (insert order at (length ranks)) i 0 ≡ length ranks
      → rank_at (ranks ++ r ∷ []) (insert order at (length ranks)) i ≡ r → Inserted ranks order r at i
  Behind : (k : ℕ) → i ≡ k + 1 → at ≤ k → k < length order → get_or (insert order at (length ranks)) i 0 ≡ get_or order k 0
      → rank_at (ranks ++ r ∷ []) (insert order at (length ranks)) i ≡ rank_at ranks order k → Inserted ranks order r at i

-- a place that stands in the order has the same rank where one more is added
kept_rank : (ranks order : List ℕ) (r i : ℕ) (place : ℕ) → IsOrder ranks order → i < length order → place ≡ get_or order i 0
    → get_or (ranks ++ r ∷ []) place 0 ≡ rank_at ranks order i
kept_rank ranks order r i place is inside e =
    get_or_append_left ranks (r ∷ []) 0 place (subst (λ n. n < length ranks) (sym e) (is.within i inside)) ∙ ap (λ n. get_or ranks n 0) e

inserted : (ranks order : List ℕ) (r at : ℕ) → IsOrder ranks order → at ≤ length order → (i : ℕ) → i < length order + 1
    → Inserted ranks order r at i
inserted ranks order r at is fits i inside =
    elim (cases_order i at) [
      | inl here ↦
          let there : get_or (insert order at (length ranks)) i 0 ≡ length ranks =
          ap (λ n. get_or (insert order at (length ranks)) n 0) here ∙ get_or-insert_at order at (length ranks) 0 fits in
          Here here there (ap (λ n. get_or (ranks ++ r ∷ []) n 0) there ∙ get_or_push ranks r 0 (length ranks) refl)
      | inr other ↦ elim other [
        | inl below ↦
            let there = get_or-insert_below order at (length ranks) 0 i below fits in
            Before below there (kept_rank ranks order r i _ is (omega arith) there)
        | inr above ↦
            let k : ℕ = i - 1 in
            let next : i ≡ k + 1 = omega arith in
            let there : get_or (insert order at (length ranks)) i 0 ≡ get_or order k 0 =
            ap (λ n. get_or (insert order at (length ranks)) n 0) next ∙ get_or-insert_above order at (length ranks) 0 k (omega arith) fits in
            Behind k next (omega arith) (omega arith) there (kept_rank ranks order r k _ is (omega arith) there)
      ]
    ]

-- a place behind the others is put into the gap of its rank
pub order_insert : (ranks order : List ℕ) (r at : ℕ) → IsOrder ranks order → IsGap ranks order r at
    → IsOrder (ranks ++ r ∷ []) (insert order at (length ranks))
order_insert ranks order r at is gap =
    let longer : length (insert order at (length ranks)) ≡ length order + 1 = length-insert order at (length ranks) gap.inside in
    let more : length (ranks ++ r ∷ []) ≡ length ranks + 1 = length_push ranks r in
    record {
      all = omega (arith, longer, more, is.all);
      within = λ i inside. elim (inserted ranks order r at is gap.inside i (omega (arith, longer, inside))) [
        | Before h there rank ↦ omega (arith, there, more, is.within i (omega (arith, gap.inside)))
        | Here h there rank ↦ omega (arith, there, more)
        | Behind k h past within there rank ↦ omega (arith, there, more, is.within k within)
      ];
      rising = λ i j before inside.
          elim (inserted ranks order r at is gap.inside i (omega (arith, longer, inside))) [
            | Before hi there rank ↦ elim (inserted ranks order r at is gap.inside j (omega (arith, longer, inside))) [
              | Before hj there' rank' ↦ omega (arith, rank, rank', is.rising i j before (omega (arith, gap.inside)))
              | Here hj there' rank' ↦ omega (arith, rank, rank', gap.lower i hi)
              | Behind k hj past within there' rank' ↦ omega (arith, rank, rank', is.rising i k (omega arith) within)
            ]
            | Here hi there rank ↦ elim (inserted ranks order r at is gap.inside j (omega (arith, longer, inside))) [
              | Before hj there' rank' ↦ absurd (omega arith)
              | Here hj there' rank' ↦ absurd (omega arith)
              | Behind k hj past within there' rank' ↦ omega (arith, rank, rank', gap.higher k past within)
            ]
            | Behind m hi behind inner there rank ↦ elim (inserted ranks order r at is gap.inside j (omega (arith, longer, inside))) [
              | Before hj there' rank' ↦ absurd (omega arith)
              | Here hj there' rank' ↦ absurd (omega arith)
              | Behind k hj past within there' rank' ↦ omega (arith, rank, rank', is.rising m k (omega arith) within)
            ]
          ];
      each = λ place inside.
          elim (cases_lt place (length ranks)) [
            | inl old ↦
                let stands = is.each place old in
                elim (cases_lt stands.0 at) [
                  | inl below ↦ (stands.0, omega (arith, longer, stands.1), get_or-insert_below order at (length ranks) 0 stands.0 below gap.inside ∙ stands.2)
                  | inr above ↦ (stands.0 + 1, omega (arith, longer, stands.1), get_or-insert_above order at (length ranks) 0 stands.0 above gap.inside ∙ stands.2)
                ]
            | inr new ↦
                let last : place ≡ length ranks = omega (arith, more, inside) in
                (at, omega (arith, longer, gap.inside), get_or-insert_at order at (length ranks) 0 gap.inside ∙ sym last)
          ];
    }

-- where a rank is below another, the place of the one isn't the place of the other
ranks_apart : (ranks order : List ℕ) (i j : ℕ) → IsOrder ranks order → i < j → j < length order → get_or order i 0 ≡ get_or order j 0 → ⊥
ranks_apart ranks order i j is before inside same =
    let equal : rank_at ranks order i ≡ rank_at ranks order j = ap (λ n. get_or ranks n 0) same in
    omega (arith, equal, is.rising i j before inside)

-- one place stands at one place of the order
pub stands_once : (ranks order : List ℕ) (i j : ℕ) → IsOrder ranks order → i < length order → j < length order
    → rank_at ranks order i ≡ rank_at ranks order j → i ≡ j
stands_once ranks order i j is inside within same =
    elim (cases_order i j) [
      | inl e ↦ e
      | inr other ↦ elim other [
        | inl below ↦ absurd (omega (arith, same, is.rising i j below within))
        | inr above ↦ absurd (omega (arith, same, is.rising j i above inside))
      ]
    ]

-- a place of the order behind one that is taken out
abbrev past : ℕ → ℕ → ℕ
past at i = if nat_lt i at then i else i + 1

past_below : (at i : ℕ) → i < at → past at i ≡ i
past_below at i h = rw (lt-ltb i at h) refl

past_above : (at i : ℕ) → at ≤ i → past at i ≡ i + 1
past_above at i h = rw (le-ltb i at h) refl

past_rises : (at i j : ℕ) → i < j → past at i < past at j
past_rises at i j h = elim (cases_lt i at) [
  | inl a ↦ elim (cases_lt j at) [
    | inl b ↦ omega (arith, past_below at i a, past_below at j b)
    | inr b ↦ omega (arith, past_below at i a, past_above at j b)
  ]
  | inr a ↦ omega (arith, past_above at i a, past_above at j (omega arith))
]

past_within : (at i n : ℕ) → i + 1 < n → past at i < n
past_within at i n h = elim (cases_lt i at) [
  | inl a ↦ omega (arith, past_below at i a)
  | inr a ↦ omega (arith, past_above at i a)
]

past_apart : (at i : ℕ) → past at i ≡ at → ⊥
past_apart at i h = elim (cases_lt i at) [
  | inl a ↦ omega (arith, past_below at i a, h)
  | inr a ↦ omega (arith, past_above at i a, h)
]

removed_is : {X : Type 0} (xs : List X) (at i : ℕ) (d : X) → at < length xs → get_or (remove xs at) i d ≡ get_or xs (past at i) d
removed_is xs at i d h = elim (cases_lt i at) [
  | inl a ↦ get_or-remove_below xs at d i a h ∙ sym (ap (λ k. get_or xs k d) (past_below at i a))
  | inr a ↦ get_or-remove_above xs at d i a h ∙ sym (ap (λ k. get_or xs k d) (past_above at i a))
]

-- a place that isn't the one that is taken out moves down, and has the same rank among those that are left
moved_rank : (xs : List ℕ) (gone place : ℕ) → gone < length xs → (place ≡ gone → ⊥) → get_or (remove xs gone) (moved_down gone place) 0 ≡ get_or xs place 0
moved_rank xs gone place inside apart = elim (cases_order place gone) [
  | inl e ↦ absurd (apart e)
  | inr other ↦ elim other [
    | inl below ↦
        rw (le-ltb gone place (omega arith)) (get_or-remove_below xs gone 0 place below inside)
    | inr above ↦
        let next : place - 1 + 1 ≡ place = omega arith in
        rw (lt-ltb gone place above) (get_or-remove_above xs gone 0 (place - 1) (omega arith) inside ∙ ap (λ k. get_or xs k 0) next)
  ]
]

moved_bound : (gone place n : ℕ) → gone < n → place < n → (place ≡ gone → ⊥) → moved_down gone place + 1 < n
moved_bound gone place n h k apart = elim (cases_order place gone) [
  | inl e ↦ absurd (apart e)
  | inr other ↦ elim other [
    | inl below ↦ rw (le-ltb gone place (omega arith)) (omega arith)
    | inr above ↦ rw (lt-ltb gone place above) (omega arith)
  ]
]

moved_back : (gone place : ℕ) → moved_down gone (past gone place) ≡ place
moved_back gone place = elim (cases_lt place gone) [
  | inl a ↦ rw (past_below gone place a, le-ltb gone place (omega arith)) refl
  | inr a ↦ rw (past_above gone place a, lt-ltb gone (place + 1) (omega arith)) (omega arith)
]

-- the order once the place that stands here is taken out
pub order_remove : (ranks order after : List ℕ) (at gone : ℕ) → IsOrder ranks order → at < length order → gone ≡ get_or order at 0
    → after ≡ map (moved_down gone) (remove order at) → IsOrder (remove ranks gone) after
order_remove ranks order after at gone is inside e same =
    let place : gone < length ranks = subst (λ n. n < length ranks) (sym e) (is.within at inside) in
    let shorter : length (remove order at) + 1 ≡ length order = length-remove order at inside in
    let len : length after ≡ length (remove order at) = ap length same ∙ length-map (remove order at) (moved_down gone) in
    let fewer : length (remove ranks gone) + 1 ≡ length ranks = length-remove ranks gone place in
    let apart : (i : ℕ) → i < length after → get_or order (past at i) 0 ≡ gone → ⊥ = λ i h same'.
    let fits : past at i < length order = past_within at i (length order) (omega (arith, len, shorter, h)) in
    past_apart at i (stands_once ranks order (past at i) at is fits inside (ap (λ n. get_or ranks n 0) (same' ∙ e))) in
    let item : (i : ℕ) → i < length after → get_or after i 0 ≡ moved_down gone (get_or order (past at i) 0) = λ i h.
    ap (λ xs. get_or xs i 0) same ∙ get_or-map (moved_down gone) (remove order at) i 0 0 (omega (arith, len, h)) ∙ ap (moved_down gone) (removed_is order at i 0 inside) in
    let ranked : (i : ℕ) → i < length after → rank_at (remove ranks gone) after i ≡ rank_at ranks order (past at i) = λ i h.
    ap (λ n. get_or (remove ranks gone) n 0) (item i h) ∙ moved_rank ranks gone (get_or order (past at i) 0) place (apart i h) in
    record {
      all = omega (arith, len, shorter, fewer, is.all);
      within = λ i h.
          let fits : past at i < length order = past_within at i (length order) (omega (arith, len, shorter, h)) in
          let low = moved_bound gone (get_or order (past at i) 0) (length ranks) place (is.within (past at i) fits) (apart i h) in
          omega (arith, item i h, low, fewer);
      rising = λ i j h k.
          let fits : past at j < length order = past_within at j (length order) (omega (arith, len, shorter, k)) in
          omega (arith, ranked i (omega arith), ranked j k, is.rising (past at i) (past at j) (past_rises at i j h) fits);
      each = λ p h.
          let fits : past gone p < length ranks = past_within gone p (length ranks) (omega (arith, fewer, h)) in
          let stands = is.each (past gone p) fits in
          let other : stands.0 ≡ at → ⊥ = λ same'. past_apart gone p (sym stands.2 ∙ ap (λ k. get_or order k 0) same' ∙ sym e) in
          elim (cases_order stands.0 at) [
            | inl same' ↦ absurd (other same')
            | inr side ↦ elim side [
              | inl below ↦
                  let here : stands.0 < length after = omega (arith, len, shorter, below, inside) in
                  (stands.0, here, item stands.0 here ∙ ap (moved_down gone) (ap (λ k. get_or order k 0) (past_below at stands.0 below) ∙ stands.2) ∙ moved_back gone p)
              | inr above ↦
                  let k : ℕ = stands.0 - 1 in
                  let here : k < length after = omega (arith, len, shorter, above, stands.1) in
                  let up : past at k ≡ stands.0 = past_above at k (omega (arith, above)) ∙ (omega (arith, above)) in
                  (k, here, item k here ∙ ap (moved_down gone) (ap (λ n. get_or order n 0) up ∙ stands.2) ∙ moved_back gone p)
            ]
          ];
    }

map-remove : {X Y : Type 0} (f : X → Y) (xs : List X) (i : ℕ) → map f (remove xs i) ≡ remove (map f xs) i
map-remove f xs i =
    map-append f (take i xs) (drop (suc i) xs)
    ∙ ap (λ ys. ys ++ map f (drop (suc i) xs)) (sym (take-map f i xs))
    ∙ ap (λ ys. take i (map f xs) ++ ys) (sym (drop-map f (suc i) xs))

-- where the rank here is lower, those before it are
pub lower_up_to : (ranks order : List ℕ) (i rank : ℕ) → IsOrder ranks order → i < length order → rank_at ranks order i < rank
    → (k : ℕ) → k < i + 1 → rank_at ranks order k < rank
lower_up_to ranks order i rank is inside low k h = elim (cases_order k i) [
  | inl e ↦ omega (arith, ap (rank_at ranks order) e, low)
  | inr other ↦ elim other [
    | inl below ↦ omega (arith, is.rising k i below inside, low)
    | inr above ↦ absurd (omega arith)
  ]
]

-- where the rank here is higher, those behind it are
pub higher_from : (ranks order : List ℕ) (i rank : ℕ) → IsOrder ranks order → rank < rank_at ranks order i
    → (k : ℕ) → i ≤ k → k < length order → rank < rank_at ranks order k
higher_from ranks order i rank is high k h inside = elim (cases_order k i) [
  | inl e ↦ omega (arith, ap (rank_at ranks order) e, high)
  | inr other ↦ elim other [
    | inl below ↦ absurd (omega arith)
    | inr above ↦ omega (arith, is.rising i k above inside, high)
  ]
]

-- what is written over a vector's elements are its elements
pub written : (n : ℕ) (xs ys : List ℕ) → length xs ≡ n → length ys ≡ n → take n (xs ++ drop (length xs) ys) ≡ xs
written n xs ys e f = take_at xs (drop (length xs) ys) n e

module _ {P : Type 0} {kind : PrefixKind P} (are : ArePrefixes kind) where
  -- two prefixes of one rank are one
  pub one_rank : (p q : P) → rank kind p ≡ rank kind q → (kind.addr p ≡ kind.addr q) × (kind.len p ≡ kind.len q)
  one_rank p q e = let few : kind.len p ≤ kind.width = are.few p in let few' : kind.len q ≤ kind.width = are.few q in let narrow : kind.width < 256 = are.narrow in
      (omega (arith, e, few, few', narrow), omega (arith, e, few, few', narrow))

  same_by_rank : (p q : P) → rank kind p ≡ rank kind q → p ≡ q
  same_by_rank p q e =
      let parts = one_rank p q e in
      let same : is_same kind p q ≡ true = rw (parts.0, parts.1) (same_itself are q) in
      are.one p q same

  -- what fails of all fails of each
  fails_at : (prefix : P) (routes : RoutesOf P) (i : ℕ) (d : P × RouteTo)
      → AllByRecursion (λ route. is_same kind route.0 prefix ≡ false) routes → i < length routes → is_same kind (get_or routes i d).0 prefix ≡ false
  fails_at prefix [] i d all h = absurd (omega (arith, h))
  fails_at prefix (route ∷ routes) zero d all h = all.0
  fails_at prefix (route ∷ routes) (suc i) d all h = fails_at prefix routes i d all.1 (omega (arith, h))

  -- the rank at a place is that of the route there
  rank_there : (routes : RoutesOf P) (place : ℕ) (d : P × RouteTo) → place < length routes → get_or (ranks kind routes) place 0 ≡ rank kind (get_or routes place d).0
  rank_there routes place d h = get_or-map (λ route. rank kind route.0) routes place d 0 h

  -- a prefix that has a route stands in the order
  found_stands : (prefix : P) (routes : RoutesOf P) (order : List ℕ) (place : ℕ) → IsOrder (ranks kind routes) order → place_in kind prefix routes ≡ Some place
      → (j : ℕ) × (j < length order) × (get_or order j 0 ≡ place) × (rank_at (ranks kind routes) order j ≡ rank kind prefix)
  found_stands prefix routes order place is e =
      let stands = stands_where_found are prefix routes place (prefix, Local) e in
      let len : length (ranks kind routes) ≡ length routes = length-map routes (λ route. rank kind route.0) in
      let there = is.each place (omega (arith, len, stands.within)) in
      (there.0, there.1, there.2, ap (λ n. get_or (ranks kind routes) n 0) there.2 ∙ rank_there routes place (prefix, Local) stands.within ∙ ap (rank kind) stands.is)

  -- what stands in the order is found
  pub place_found : (prefix : P) (routes : RoutesOf P) (order : List ℕ) (i : ℕ) → IsOrder (ranks kind routes) order
      → StandsIn (ranks kind routes) order (rank kind prefix) i → place_in kind prefix routes ≡ Some (get_or order i 0)
  place_found prefix routes order i is stands =
      elim (place_in kind prefix routes) as (λ found. place_in kind prefix routes ≡ found → found ≡ Some (get_or order i 0)) [
        | Some place ↦ λ e.
            let there = found_stands prefix routes order place is e in
            let same = stands_once (ranks kind routes) order there.0 i is there.1 stands.inside (there.3 ∙ sym stands.is) in
            ap Some (sym there.2 ∙ ap (λ k. get_or order k 0) same)
        | None ↦ λ e.
            let len : length (ranks kind routes) ≡ length routes = length-map routes (λ route. rank kind route.0) in
            let within : get_or order i 0 < length routes = omega (arith, len, is.within i stands.inside) in
            let fails = fails_at prefix routes (get_or order i 0) (prefix, Local) (position_none (λ route. is_same kind route.0 prefix) 0 routes e) within in
            let one = same_by_rank (get_or routes (get_or order i 0) (prefix, Local)).0 prefix (sym (rank_there routes (get_or order i 0) (prefix, Local) within) ∙ stands.is) in
            let passes : is_same kind (get_or routes (get_or order i 0) (prefix, Local)).0 prefix ≡ true = subst (λ p. is_same kind p prefix ≡ true) (sym one) (same_itself are prefix) in
            absurd (let bad : ⊥ = cc in bad)
      ] refl

  -- where there is a gap, nothing is found
  pub gap_none : (prefix : P) (routes : RoutesOf P) (order : List ℕ) (i : ℕ) → IsOrder (ranks kind routes) order
      → IsGap (ranks kind routes) order (rank kind prefix) i → place_in kind prefix routes ≡ None
  gap_none prefix routes order i is gap =
      elim (place_in kind prefix routes) as (λ found. place_in kind prefix routes ≡ found → found ≡ None) [
        | Some place ↦ λ e.
            let there = found_stands prefix routes order place is e in
            elim (cases_lt there.0 i) [
              | inl below ↦ absurd (omega (arith, there.3, gap.lower there.0 below))
              | inr above ↦ absurd (omega (arith, there.3, gap.higher there.0 above there.1))
            ]
        | None ↦ λ e. refl
      ] refl

  -- a route changed in its place leaves the order
  pub order_set : (prefix : P) (to : RouteTo) (routes : RoutesOf P) (order : List ℕ) (place : ℕ) → IsOrder (ranks kind routes) order
      → place_in kind prefix routes ≡ Some place → IsOrder (ranks kind (set routes place (prefix, to))) order
  order_set prefix to routes order place is e =
      let stands = stands_where_found are prefix routes place (prefix, to) e in
      subst (λ rs. IsOrder rs order) (sym (map-set_same (λ route. rank kind route.0) routes place (prefix, to) (prefix, to) (ap (rank kind) (sym stands.is)))) is

  -- a new route behind the others, with its place in the gap, leaves an order
  pub order_push : (prefix : P) (to : RouteTo) (routes : RoutesOf P) (order : List ℕ) (at : ℕ) → IsOrder (ranks kind routes) order
      → IsGap (ranks kind routes) order (rank kind prefix) at → IsOrder (ranks kind (routes ++ (prefix, to) ∷ [])) (insert order at (length routes))
  order_push prefix to routes order at is gap =
      let len : length (ranks kind routes) ≡ length routes = length-map routes (λ route. rank kind route.0) in
      subst (λ rs. IsOrder rs (insert order at (length routes))) (sym (map_push (λ route. rank kind route.0) routes (prefix, to)))
      (subst (λ n. IsOrder (ranks kind routes ++ rank kind prefix ∷ []) (insert order at n)) len (order_insert (ranks kind routes) order (rank kind prefix) at is gap))

  -- a route that is taken out, and the places behind it moved down, leave an order
  pub order_take : (routes : RoutesOf P) (order after : List ℕ) (at gone : ℕ) → IsOrder (ranks kind routes) order → at < length order → gone ≡ get_or order at 0
      → after ≡ map (moved_down gone) (remove order at) → IsOrder (ranks kind (remove routes gone)) after
  order_take routes order after at gone is inside e same =
      subst (λ rs. IsOrder rs after) (sym (map-remove (λ route. rank kind route.0) routes gone)) (order_remove (ranks kind routes) order after at gone is inside e same)

  -- the rank that was read at a place of the order
  pub rank_read : (routes : RoutesOf P) (order : List ℕ) (i place : ℕ) (route : P × RouteTo) → IsOrder (ranks kind routes) order → i < length order
      → place ≡ get_or order i 0 → route ≡ get_or routes place route → rank_at (ranks kind routes) order i ≡ rank kind (get_or routes place route).0
  rank_read routes order i place route is inside e read =
      let len : length (ranks kind routes) ≡ length routes = length-map routes (λ route. rank kind route.0) in
      let within : place < length routes = omega (arith, e, len, is.within i inside) in
      ap (λ n. get_or (ranks kind routes) n 0) (sym e) ∙ rank_there routes place route within

  -- a prefix has its route at this place, of which the order says so here
  pub record IsAt (prefix : P) (seen kept : RoutesOf P) (order : List ℕ) (at place : ℕ) : Type 0 where
    pub of_seen : place_in kind prefix seen ≡ Some place
    pub of_kept : place_in kind prefix kept ≡ Some place
    pub within : place < length kept
    pub inside : at < length order
    pub item : place ≡ get_or order at 0

  -- a place that was found and read
  pub place_read : (prefix : P) (seen kept shown : RoutesOf P) (order row : List ℕ) (at item place : ℕ) → kept ≡ seen → shown ≡ kept → row ≡ order
      → (at < length row) × (place_in kind prefix shown ≡ Some (get_or row at 0)) → item ≡ get_or order at item → place ≡ item
      → IsAt prefix seen kept order at place
  place_read prefix seen kept shown order row at item place view rows orders found read is =
      let inside : at < length order = subst (λ xs. at < length xs) orders found.0 in
      let here : place ≡ get_or order at 0 = is ∙ (read ∙ get_or_default order at item 0 inside) in
      let of_kept : place_in kind prefix kept ≡ Some place =
      ap (place_in kind prefix) (sym rows) ∙ found.1 ∙ ap (λ xs. Some (get_or xs at 0)) orders ∙ ap Some (sym here) in
      record {
        of_seen = ap (place_in kind prefix) (sym view) ∙ of_kept;
        of_kept = of_kept;
        within = (stands_where_found are prefix kept place (prefix, Local) of_kept).within;
        inside = inside;
        item = here;
      }

  -- a table and its order, once the route that was found is taken out and the places behind it are moved down
  pub taken : (prefix : P) (seen kept left : RoutesOf P) (order middle after : List ℕ) (at gone place : ℕ) → IsTable kind kept × IsOrder (ranks kind kept) order
      → IsAt prefix seen kept order at place → place ≡ gone → left ≡ remove kept place → middle ≡ remove order at → after ≡ map (moved_down gone) middle
      → IsTable kind left × IsOrder (ranks kind left) after
  taken prefix seen kept left order middle after at gone place is found same rows row moved =
      let table : IsTable kind (remove kept place) = table_remove are kept place (prefix, Local) is.0 found.within in
      let here : IsOrder (ranks kind (remove kept place)) after = order_take kept order after at place is.1 found.inside found.item
      (moved ∙ ap (λ xs. map (moved_down gone) xs) row ∙ ap (λ n. map (moved_down n) (remove order at)) (sym same)) in
      (subst (IsTable kind) (sym rows) table, subst (λ rs. IsOrder (ranks kind rs) after) (sym rows) here)

  -- a table and its order, once a route is put behind the others and its place into the gap
  pub pushed : (prefix : P) (to : RouteTo) (kept shown more : RoutesOf P) (order row after : List ℕ) (at : ℕ) → IsTable kind kept × IsOrder (ranks kind kept) order
      → shown ≡ kept → row ≡ order → (place_in kind prefix shown ≡ None) × IsGap (ranks kind shown) row (rank kind prefix) at → length kept < most_routes
      → more ≡ kept ++ (prefix, to) ∷ [] → after ≡ insert order at (length kept) → IsTable kind more × IsOrder (ranks kind more) after
  pushed prefix to kept shown more order row after at is rows orders gap room longer filled =
      let none : place_in kind prefix kept ≡ None = ap (place_in kind prefix) (sym rows) ∙ gap.0 in
      let here : IsGap (ranks kind kept) order (rank kind prefix) at =
      subst (λ rs. IsGap (ranks kind rs) order (rank kind prefix) at) rows (subst (λ xs. IsGap (ranks kind shown) xs (rank kind prefix) at) orders gap.1) in (
        subst (IsTable kind) (sym longer) (table_push are prefix to kept is.0 none room),
        subst (λ rs. IsOrder (ranks kind rs) after) (sym longer) (subst (IsOrder (ranks kind (kept ++ (prefix, to) ∷ []))) (sym filled) (order_push prefix to kept order at is.1 here)),
      )

  -- a table and its order that stay
  pub stayed : (kept more : RoutesOf P) (order after : List ℕ) → IsTable kind kept × IsOrder (ranks kind kept) order → more ≡ kept → after ≡ order → IsTable kind more × IsOrder (ranks kind more) after
  stayed kept more order after is rows row =
      (subst (IsTable kind) (sym rows) is.0, subst (λ rs. IsOrder (ranks kind rs) after) (sym rows) (subst (IsOrder (ranks kind kept)) (sym row) is.1))
