-- For `matches`: the order of prefixes in which an address is searched, and the longest of those that cover it.
use Rattle.std.proofs.Common.{◌≡◌, ℕ, ◌+◌, ◌-◌, ◌*◌, ◌/◌, ◌%◌, ◌^◌, ◌<◌, ◌≤◌, Bool, true, false, ◌==◌, ◌||◌, ◌&&◌, cond, List, [], ◌∷◌, ◌++◌, length, get_or, refl, sym, ap, ap₂, subst, ◌∙◌, inl, inr, arith, length-append}
use Rattle.std.specs.Prelude.{nat_le, nat_lt, Contains, Some, None}
use Rattle.std.specs.List.{All, filter}
use Rattle.std.specs.List.Sorted.{IsNonDecreasingBy, IsPartitionPoint, IsPermutation, IsSortedByKey}
use Rattle.std.specs.Ordering.{is_lt, ordering_then, nat_cmp}
use Rattle.std.specs.declared.cmp.Ordering.{Ordering}
use Rattle.std.specs.declared.cmp.Ordering.TheVariants.{Less, Equal, Greater}
use Rattle.std.proofs.Math.Nat.{div-add-mod}
use Rattle.std.proofs.Math.Seq.{get_or-append_seam}
use Rattle.std.proofs.lemmas.Bool.{both_ways, cases_lt, eqb-true, false_from_ne_true, leb-false, leb-true}
use Rattle.std.proofs.lemmas.Bool.Decides.{nat_tests}
use Rattle.std.proofs.lemmas.List.{get_or_append_left, get_or_default}
use Rattle.std.proofs.lemmas.List.Elements.{All-contains, All-contains_itself, All-filter, All-from_recursion, filter_passes, recursion_from_All}
use Rattle.std.proofs.lemmas.List.Sorted.{All-permutation, Contains-permutation, IsNonDecreasingBy-from_all_adjacent, IsPermutation-sym}
use Rattle.std.proofs.lemmas.Nat.{mod-pow-add}
use Rattle.vg_model.specs.Route.{PrefixKind, covers_of, is_same, longest}
use Rattle.vg_fib.specs.Order.{rank}
use Rattle.vg_fib.proofs.ListLemmas.{All-from_filter, filter_nothing}
use Rattle.vg_fib.proofs.LongestLemmas.{longest_most, longest_none, longest_passes}
use Rattle.vg_fib.proofs.PrefixLemmas.{ArePrefixes, covering_is_one}
use Rattle.vg_fib.proofs.SpanLemmas.{InSpan, covers_from_span, span_from_covers}
use Rattle.vg_story.specs.Matches.{AreAround, AreByRank, AreIndexed, HasOneLineEach, IsBegun, IsNearest, IsSearched}

-- ---- the order of prefixes

-- what prefixes are sorted by
abbrev pub key_cmp : ℕ × ℕ → ℕ × ℕ → Ordering
key_cmp a b = ordering_then (nat_cmp a.0 b.0) (nat_cmp a.1 b.1)

-- the order of pairs is by their first numbers, then by their second ones
before_by_cmp : (a b l m : ℕ) → is_lt (ordering_then (nat_cmp a b) (nat_cmp l m)) ≡ (nat_lt a b || (a == b && nat_lt l m))
before_by_cmp a b l m = by_tests (nat_lt a b) (a == b) (nat_lt l m) (l == m)
  where
    by_tests : (lower same shorter even : Bool)
        → is_lt (ordering_then (cond lower Less (cond same Equal Greater)) (cond shorter Less (cond even Equal Greater))) ≡ (lower || (same && shorter))
    by_tests true same shorter even = refl
    by_tests false true true even = refl
    by_tests false true false true = refl
    by_tests false true false false = refl
    by_tests false false shorter even = refl

-- a pair that doesn't come before another has no lower rank
rank_up : (a b l m : ℕ) → l ≤ 255 → m ≤ 255 → (nat_lt b a || (b == a && nat_lt m l)) ≡ false → 256 * a + l ≤ 256 * b + m
rank_up a b l m few few' later = grind (arith, nat_tests)

module _ {P : Type 0} {kind : PrefixKind P} (are : ArePrefixes kind) where
  -- routes that are sorted by address and length stand by their ranks
  pub ranks_rise : (routes : List (P × ℕ)) → IsSortedByKey (λ (r : P × ℕ). (kind.addr r.0, kind.len r.0)) key_cmp routes → AreByRank kind routes
  ranks_rise routes sorted =
      IsNonDecreasingBy-from_all_adjacent (λ (r : P × ℕ). rank kind r.0) routes (λ k d inside.
      let this = get_or routes k d in
      let next = get_or routes (k + 1) d in
      rank_up (kind.addr this.0) (kind.addr next.0) (kind.len this.0) (kind.len next.0)
      (omega (arith, are.few this.0, are.narrow)) (omega (arith, are.few next.0, are.narrow))
      (sym (before_by_cmp (kind.addr next.0) (kind.addr this.0) (kind.len next.0) (kind.len this.0)) ∙ sorted k d (omega arith) inside))

  -- of two prefixes by their ranks the first begins no later
  begins_first : (p q : P) → rank kind p ≤ rank kind q → kind.addr p ≤ kind.addr q
  begins_first p q up = omega (arith, up, are.few p, are.few q, are.narrow)

  -- so their addresses rise
  pub addresses_rise : (routes : List (P × ℕ)) → AreByRank kind routes → IsNonDecreasingBy (λ (r : P × ℕ). kind.addr r.0) routes
  addresses_rise routes order i j d before inside = begins_first (get_or routes i d).0 (get_or routes j d).0 (order i j d before inside)

  -- those up to the place that a binary search gives begin no later than the address
  pub begun_at : (routes : List (P × ℕ)) (address begun : ℕ) → begun ≤ length routes
      → IsPartitionPoint (λ (r : P × ℕ). nat_le (kind.addr r.0) address ≡ true) (λ (r : P × ℕ). nat_le (kind.addr r.0) address ≡ false) routes begun
      → IsBegun kind routes address begun
  begun_at routes address begun inside point = record {
    inside = inside;
    begins = λ k d before. leb-true _ _ (point.0 k d (omega arith) before);
    later = λ k d behind below. leb-false _ _ (point.1 k d behind below);
  }

  -- what a prefix covers reaches down to its own address
  covers_between : (p : P) (low address : ℕ) → kind.addr p ≤ low → low ≤ address → covers_of kind p address ≡ true → covers_of kind p low ≡ true
  covers_between p low address from to covers =
      let here : InSpan kind p address = span_from_covers are p address covers in
      covers_from_span are p low (from, omega (arith, here.1))

  -- of two prefixes by their ranks that cover one address the first is no longer
  outer_is_shorter : (p q : P) (address : ℕ) → rank kind p ≤ rank kind q → covers_of kind p address ≡ true → covers_of kind q address ≡ true
      → kind.len p ≤ kind.len q
  outer_is_shorter p q address up over under = elim (cases_lt (kind.len q) (kind.len p)) [
    | inr no_longer ↦ no_longer
    | inl longer ↦
        let bits = kind.width - kind.len p in
        let more = kind.len p - kind.len q in
        let few = are.few p in
        let sum : kind.width - kind.len q ≡ more + bits = omega (arith, few, longer) in
        let whole : kind.addr q % 2 ^ (more + bits) ≡ 0 = subst (λ n. kind.addr q % 2 ^ n ≡ 0) sum (are.host_bits q) in
        let parts : (kind.addr q / 2 ^ bits % 2 ^ more) * 2 ^ bits + kind.addr q % 2 ^ bits ≡ 0 = sym (mod-pow-add (kind.addr q) more bits) ∙ whole in
        let rest : kind.addr q % 2 ^ bits ≡ 0 = omega arith in
        let inside : InSpan kind q address = span_from_covers are q address under in
        let same : kind.addr p / 2 ^ bits ≡ kind.addr q / 2 ^ bits = eqb-true _ _ (covers_between p (kind.addr q) address (begins_first p q up) inside.0 over) in
        let addr : kind.addr p ≡ kind.addr q =
        sym (div-add-mod (kind.addr p) (2 ^ bits)) ∙ (ap₂ (λ n r. 2 ^ bits * n + r) same (are.host_bits p ∙ sym rest) ∙ div-add-mod (kind.addr q) (2 ^ bits)) in
        omega (arith, up, addr)
  ]

  -- ---- the nearest prefix around an address

  module _ (routes : List (P × ℕ)) (around : List ℕ) (begun address : ℕ) (is : IsSearched kind routes around begun address) where
    -- the routes from this number on, up to the ones that begin behind the address, don't cover it
    pub record AreElsewhere (number : ℕ) : Type 0 where
      pub within : number ≤ begun
      pub none : (k : ℕ) (d : P × ℕ) → number ≤ k → k < begun → covers_of kind (get_or routes k d).0 address ≡ false

    pub none_yet : AreElsewhere begun
    none_yet = record { within = omega arith; none = λ k d from below. absurd (omega (arith, from, below)) }

    -- the number of the one around this one is less
    pub around_before : (number : ℕ) (d : P × ℕ) → 0 < number → number ≤ begun → get_or around (number - 1) 0 < number
    around_before number d some few =
        let here = is.nested.each (number - 1) d (omega (arith, is.within)) in
        omega (arith, here.within, some)

    -- where it doesn't cover the address, the search goes on with the one around it
    module _ (number : ℕ) (so_far : AreElsewhere number) (some : 0 < number) (route : P × ℕ)
        (read : route ≡ get_or routes (number - 1) route) (not : covers_of kind route.0 address ≡ false) where
      none_between : (k : ℕ) (d : P × ℕ) → get_or around (number - 1) 0 ≤ k → k < number - 1 → covers_of kind (get_or routes k d).0 address ≡ false
      none_between k d from before =
          let inside : number - 1 < length around = (let few = so_far.within in omega (arith, few, is.within, some)) in
          let long : number - 1 < length routes = omega (arith, inside, is.nested.few) in
          let up : kind.addr (get_or routes k d).0 ≤ kind.addr (get_or routes (number - 1) d).0 =
          addresses_rise routes is.order k (number - 1) d (omega (arith, before)) long in
          let begins : kind.addr (get_or routes (number - 1) d).0 ≤ address = is.begins (number - 1) d (let few = so_far.within in omega (arith, few, some)) in
          false_from_ne_true (covers_of kind (get_or routes k d).0 address) (λ covers.
          both_ways (covers_of kind (get_or routes k d).0 (kind.addr (get_or routes (number - 1) d).0))
          ((is.nested.each (number - 1) d inside).none k d from before)
          (covers_between (get_or routes k d).0 (kind.addr (get_or routes (number - 1) d).0) address up begins covers))

      none_here : (k : ℕ) (d : P × ℕ) → k ≡ number - 1 → covers_of kind (get_or routes k d).0 address ≡ false
      none_here k d at =
          let long : number - 1 < length routes = (let few = so_far.within in omega (arith, few, is.within, is.nested.few, some)) in
          ap (λ n. covers_of kind (get_or routes n d).0 address) at
          ∙ (ap (λ (r : P × ℕ). covers_of kind r.0 address) (get_or_default routes (number - 1) d route long ∙ sym read) ∙ not)

      pub elsewhere_more : AreElsewhere (get_or around (number - 1) 0)
      elsewhere_more = record {
        within = (let less = around_before number route some so_far.within in let few = so_far.within in omega (arith, less, few));
        none = λ k d from below. elim (cases_lt k number) [
          | inr behind ↦ so_far.none k d behind below
          | inl before ↦ elim (cases_lt k (number - 1)) [
            | inl between ↦ none_between k d from between
            | inr last ↦ none_here k d (omega (arith, before, last))
          ]
        ];
      }

    -- where it covers the address it is the nearest
    pub nearest_here : (number : ℕ) → AreElsewhere number → 0 < number → (route : P × ℕ) → route ≡ get_or routes (number - 1) route
        → covers_of kind route.0 address ≡ true → IsNearest kind routes address begun number
    nearest_here number so_far some route read covers = record {
      within = so_far.within;
      covers = λ d more.
          let long : number - 1 < length routes = (let few = so_far.within in omega (arith, few, is.within, is.nested.few, some)) in
          ap (λ (r : P × ℕ). covers_of kind r.0 address) (get_or_default routes (number - 1) d route long ∙ sym read) ∙ covers;
      none = so_far.none;
    }

    pub nearest_none : AreElsewhere 0 → IsNearest kind routes address begun 0
    nearest_none so_far = record {
      within = so_far.within;
      covers = λ d some. absurd (omega (arith, some));
      none = so_far.none;
    }

  -- none stands around no routes
  pub around_none : (routes : List (P × ℕ)) → AreAround kind routes []
  around_none routes = record { few = omega arith; each = λ i d inside. absurd (omega (arith, inside)) }

  -- the number of one route more
  module _ (routes : List (P × ℕ)) (around : List ℕ) (are_so_far : AreAround kind routes around) (more : length around < length routes) where
    -- the routes before it are searched for its address
    pub searched_before : (route : P × ℕ) → AreByRank kind routes → route ≡ get_or routes (length around) route
        → IsSearched kind routes around (length around) (kind.addr route.0)
    searched_before route order read = record {
      order = order;
      nested = are_so_far;
      within = omega arith;
      begins = λ k d before.
          let up = addresses_rise routes order k (length around) d (omega (arith, before)) more in
          let same : get_or routes (length around) d ≡ route = get_or_default routes (length around) d route more ∙ sym read in
          subst (λ (r : P × ℕ). kind.addr (get_or routes k d).0 ≤ kind.addr r.0) same up;
    }

    pub around_more : (route : P × ℕ) (number : ℕ) → route ≡ get_or routes (length around) route
        → IsNearest kind routes (kind.addr route.0) (length around) number → AreAround kind routes (around ++ number ∷ [])
    around_more route number read nearest = record {
      few = (let long = length-append around (number ∷ []) in omega (arith, long, more));
      each = λ i d inside. elim (cases_lt i (length around)) [
        | inl before ↦
            subst (λ n. IsNearest kind routes (kind.addr (get_or routes i d).0) i n) (sym (get_or_append_left around (number ∷ []) 0 i before)) (are_so_far.each i d before)
        | inr behind ↦
            let at : length around ≡ i = (let long = length-append around (number ∷ []) in omega (arith, long, inside, behind)) in
            let same : route ≡ get_or routes (length around) d = read ∙ get_or_default routes (length around) route d more in
            subst (λ n. IsNearest kind routes (kind.addr (get_or routes n d).0) n (get_or (around ++ number ∷ []) n 0)) at
            (subst (λ n. IsNearest kind routes (kind.addr (get_or routes (length around) d).0) (length around) n) (sym (get_or-append_seam around number [] 0))
            (subst (λ (r : P × ℕ). IsNearest kind routes (kind.addr r.0) (length around) number) same nearest))
      ];
    }

  -- ---- the longest of the prefixes that cover an address

  -- a route covers the address
  abbrev covering : ℕ → P × ℕ → Bool
  covering address route = covers_of kind route.0 address

  -- a route covers the address, and no longer one does
  pub record IsLongestAt (routes : List (P × ℕ)) (address : ℕ) (route : P × ℕ) : Type 0 where
    pub inside : Contains routes route
    pub covers : covers_of kind route.0 address ≡ true
    pub longest : All (λ (r : P × ℕ). covers_of kind r.0 address ≡ true → kind.len r.0 ≤ kind.len route.0) routes

  -- the longest of those that cover is one
  longest_is : (routes : List (P × ℕ)) (address : ℕ) (r : P × ℕ) → longest kind.len (filter (covering address) routes) ≡ Some r → IsLongestAt routes address r
  longest_is routes address r e = record {
    inside = longest_passes (Contains routes) kind.len _ r
        (recursion_from_All (Contains routes) _ (All-filter (covering address) (Contains routes) routes (All-contains_itself routes))) e;
    covers = longest_passes (λ route. covering address route ≡ true) kind.len _ r
        (recursion_from_All _ _ (filter_passes (covering address) routes)) e;
    longest = All-from_filter (covering address) (λ route. kind.len route.0 ≤ kind.len r.0) routes (longest_most kind.len _ r e);
  }

  -- where there is no longest, none covers
  none_covers : (routes : List (P × ℕ)) (address : ℕ) → longest kind.len (filter (covering address) routes) ≡ None
      → All (λ (r : P × ℕ). covers_of kind r.0 address ≡ true → ⊥) routes
  none_covers routes address e =
      let empty : filter (covering address) routes ≡ [] = longest_none kind.len _ e in
      All-from_filter (covering address) (λ _. ⊥) routes (All-from_recursion (λ _. ⊥) _ (rw empty tt))

  -- two of them are one
  one_longest : (routes : List (P × ℕ)) (address : ℕ) (r s : P × ℕ) → HasOneLineEach kind routes → IsLongestAt routes address r → IsLongestAt routes address s → r ≡ s
  one_longest routes address r s one first second =
      let below : kind.len r.0 ≤ kind.len s.0 = All-contains (λ (t : P × ℕ). covers_of kind t.0 address ≡ true → kind.len t.0 ≤ kind.len s.0) routes r second.longest first.inside first.covers in
      let above : kind.len s.0 ≤ kind.len r.0 = All-contains (λ (t : P × ℕ). covers_of kind t.0 address ≡ true → kind.len t.0 ≤ kind.len r.0) routes s first.longest second.inside second.covers in
      let same : is_same kind r.0 s.0 ≡ true = covering_is_one are r.0 s.0 address first.covers second.covers (omega arith) in
      ap₂ (λ p line. (p, line)) (are.one r.0 s.0 same) (one r s first.inside second.inside same)

  -- it is the longest of those that cover
  longest_found : (routes : List (P × ℕ)) (address : ℕ) (r : P × ℕ) → HasOneLineEach kind routes → IsLongestAt routes address r
      → Some r ≡ longest kind.len (filter (covering address) routes)
  longest_found routes address r one is =
      elim (longest kind.len (filter (covering address) routes)) as (λ o. longest kind.len (filter (covering address) routes) ≡ o → Some r ≡ o) [
        | None ↦ λ e. absurd (All-contains (λ (t : P × ℕ). covers_of kind t.0 address ≡ true → ⊥) routes r (none_covers routes address e) is.inside is.covers)
        | Some s ↦ λ e. ap (λ t. Some t) (one_longest routes address r s one is (longest_is routes address s e))
      ] refl

  -- the order doesn't matter
  longest_moved : (routes others : List (P × ℕ)) (address : ℕ) (r : P × ℕ) → IsPermutation routes others → IsLongestAt routes address r → IsLongestAt others address r
  longest_moved routes others address r moved is = record {
    inside = Contains-permutation routes others r moved is.inside;
    covers = is.covers;
    longest = All-permutation (λ (t : P × ℕ). covers_of kind t.0 address ≡ true → kind.len t.0 ≤ kind.len r.0) routes others moved is.longest;
  }

  -- an address is looked up among the routes that begin no later
  pub begun_searched : (listed sorted : List (P × ℕ)) (around : List ℕ) (address begun : ℕ) → AreIndexed kind listed sorted around
      → IsBegun kind sorted address begun → IsSearched kind sorted around begun address
  begun_searched listed sorted around address begun is begins = record {
    order = is.order;
    nested = is.nested;
    within = (let all = is.all in let inside = begins.inside in omega (arith, all, inside));
    begins = begins.begins;
  }

  module _ (listed sorted : List (P × ℕ)) (around : List ℕ) (is : AreIndexed kind listed sorted around)
      (address begun number : ℕ) (at : IsBegun kind sorted address begun) (nearest : IsNearest kind sorted address begun number) where
    -- none behind it covers the address
    none_behind : (k : ℕ) (d : P × ℕ) → number ≤ k → k < length sorted → covers_of kind (get_or sorted k d).0 address ≡ false
    none_behind k d from below = elim (cases_lt k begun) [
      | inl before ↦ nearest.none k d from before
      | inr behind ↦
          false_from_ne_true (covers_of kind (get_or sorted k d).0 address) (λ covers.
          let later = at.later k d behind below in
          let span : InSpan kind (get_or sorted k d).0 address = span_from_covers are (get_or sorted k d).0 address covers in
          absurd (omega (arith, later, span.0)))
    ]

    pub found_none : number ≡ 0 → None ≡ longest kind.len (filter (covering address) listed)
    found_none zero =
        let none : All (λ (r : P × ℕ). covers_of kind r.0 address ≡ true → ⊥) sorted =
        λ k d below covers. both_ways (covers_of kind (get_or sorted k d).0 address) (none_behind k d (omega (arith, zero)) below) covers in
        sym (ap (longest kind.len) (filter_nothing (covering address) listed
        (recursion_from_All _ _ (All-permutation (λ (r : P × ℕ). covers_of kind r.0 address ≡ true → ⊥) sorted listed (IsPermutation-sym listed sorted is.moved) none))))

    module _ (route : P × ℕ) (some : 0 < number) (read : route ≡ get_or sorted (number - 1) route) where
      here : number - 1 < length sorted
      here = (let few = nearest.within in let all = at.inside in omega (arith, some, few, all))

      covers_here : covers_of kind route.0 address ≡ true
      covers_here = ap (λ (r : P × ℕ). covers_of kind r.0 address) read ∙ nearest.covers route some

      no_longer : (k : ℕ) (d : P × ℕ) → k < length sorted → covers_of kind (get_or sorted k d).0 address ≡ true → kind.len (get_or sorted k d).0 ≤ kind.len route.0
      no_longer k d below covers = elim (cases_lt k number) [
        | inr behind ↦ absurd (both_ways (covers_of kind (get_or sorted k d).0 address) (none_behind k d behind below) covers)
        | inl before ↦
            let same : get_or sorted (number - 1) d ≡ route = get_or_default sorted (number - 1) d route here ∙ sym read in
            let up : rank kind (get_or sorted k d).0 ≤ rank kind route.0 =
            subst (λ (r : P × ℕ). rank kind (get_or sorted k d).0 ≤ rank kind r.0) same (is.order k (number - 1) d (omega (arith, before)) here) in
            outer_is_shorter (get_or sorted k d).0 route.0 address up covers covers_here
      ]

      pub found : Some route ≡ longest kind.len (filter (covering address) listed)
      found =
          longest_found listed address route is.one_line_each (longest_moved sorted listed address route (IsPermutation-sym listed sorted is.moved) (record {
            inside = (number - 1, here, sym read);
            covers = covers_here;
            longest = no_longer;
          }))

  -- lines that a prefix determines
  pub one_line_each : (line : P → ℕ) (routes : List (P × ℕ)) → All (λ (r : P × ℕ). r.1 ≡ line r.0) routes → HasOneLineEach kind routes
  one_line_each line routes all r s first second same =
      All-contains (λ (t : P × ℕ). t.1 ≡ line t.0) routes r all first
      ∙ (ap line (are.one r.0 s.0 same) ∙ sym (All-contains (λ (t : P × ℕ). t.1 ≡ line t.0) routes s all second))
