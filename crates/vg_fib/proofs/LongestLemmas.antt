-- For the clauses of `Fib::find` and `Fib6::find`, and for the laws of the best route:
-- The longest of a list of routes.
use Rattle.std.proofs.Common.{◌≡◌, ℕ, ◌+◌, ◌<◌, ◌≤◌, Bool, true, false, cond, List, [], ◌∷◌, ◌++◌, take, length, get_or, refl, sym, ◌∙◌, ap, subst, arith, append-nil}
use Rattle.std.specs.Prelude.{Option, Some, None, nat_lt, if◌then◌else◌}
use Rattle.std.specs.List.{All, AllByRecursion, filter}
use Rattle.std.proofs.lemmas.Bool.Decides.{nat_tests}
use Rattle.std.proofs.lemmas.List.Elements.{All-from_recursion, filter_more}
use Rattle.vg_model.specs.Route.{longer, longest}
use Rattle.vg_fib.specs.Table.{longer_behind}

-- of three routes it doesn't matter which two are compared first
longer-longer_behind : {P T : Type 0} (len : P → ℕ) (first last : P × T) (between : Option (P × T))
    → longer len first (Some (longer_behind len between last)) ≡ longer_behind len (Some (longer len first between)) last
longer-longer_behind len first last None = refl
longer-longer_behind len first last (Some middle) = grind (arith, nat_tests)

-- the longest of a list with one more route at its end
pub longest-push : {P T : Type 0} (len : P → ℕ) (routes : List (P × T)) (last : P × T)
    → longest len (routes ++ last ∷ []) ≡ Some (longer_behind len (longest len routes) last)
longest-push len [] last = refl
longest-push len (route ∷ routes) last =
    ap (λ rest. Some (longer len route rest)) (longest-push len routes last)
    ∙ ap (λ route. Some route) (longer-longer_behind len route last (longest len routes))

-- only an empty list has no longest
pub longest_none : {P T : Type 0} (len : P → ℕ) (routes : List (P × T)) → longest len routes ≡ None → routes ≡ []
longest_none len [] e = refl
longest_none len (route ∷ routes) e = absurd (let bad : ⊥ = cc in bad)

-- what holds of two routes holds of the longer
longer_passes : {P T : Type 0} (Q : P × T → Type 0) (len : P → ℕ) (route : P × T) (other : Option (P × T))
    → Q route → ((o : P × T) → other ≡ Some o → Q o) → Q (longer len route other)
longer_passes Q len route None here there = here
longer_passes Q len route (Some o) here there =
    elim (nat_lt (len route.0) (len o.0)) as (λ b. Q (if b then o else route)) [ true ↦ there o refl | false ↦ here ]

-- what holds of all routes holds of the longest
pub longest_passes : {P T : Type 0} (Q : P × T → Type 0) (len : P → ℕ) (routes : List (P × T)) (r : P × T)
    → AllByRecursion Q routes → longest len routes ≡ Some r → Q r
longest_passes Q len [] r all e = absurd (let bad : ⊥ = cc in bad)
longest_passes Q len (route ∷ routes) r all e =
    let same : longer len route (longest len routes) ≡ r = cc in
    subst Q same (longer_passes Q len route (longest len routes) all.0 (λ o is. longest_passes Q len routes o all.1 is))

-- a filter of one more element, which it keeps
filter_one_more : {X : Type 0} (test : X → Bool) (xs : List X) (i : ℕ) (x : X) → i < length xs → x ≡ get_or xs i x → test x ≡ true
    → filter test (take (i + 1) xs) ≡ filter test (take i xs) ++ x ∷ []
filter_one_more test xs i x within is passes =
    filter_more test xs i x within
    ∙ subst (λ y. filter test (take i xs) ++ cond (test y) (y ∷ []) [] ≡ filter test (take i xs) ++ x ∷ []) is (rw passes refl)

-- a filter of one more element, which it drops
filter_no_more : {X : Type 0} (test : X → Bool) (xs : List X) (i : ℕ) (x : X) → i < length xs → x ≡ get_or xs i x → test x ≡ false
    → filter test (take (i + 1) xs) ≡ filter test (take i xs)
filter_no_more test xs i x within is passes =
    filter_more test xs i x within
    ∙ subst (λ y. filter test (take i xs) ++ cond (test y) (y ∷ []) [] ≡ filter test (take i xs)) is (rw (passes, append-nil) refl)

-- the longest of those that pass, with one more route, which passes
pub longest_more : {P T : Type 0} (test : P × T → Bool) (len : P → ℕ) (routes : List (P × T)) (i : ℕ) (route : P × T) (so_far : Option (P × T))
    → i < length routes → route ≡ get_or routes i route → so_far ≡ longest len (filter test (take i routes)) → test route ≡ true
    → Some (longer_behind len so_far route) ≡ longest len (filter test (take (i + 1) routes))
longest_more test len routes i route so_far within is known passes =
    rw (known, filter_one_more test routes i route within is passes) (sym (longest-push len (filter test (take i routes)) route))

-- the longest of those that pass, with one more route, which doesn't pass
pub longest_no_more : {P T : Type 0} (test : P × T → Bool) (len : P → ℕ) (routes : List (P × T)) (i : ℕ) (route : P × T) (so_far : Option (P × T))
    → i < length routes → route ≡ get_or routes i route → so_far ≡ longest len (filter test (take i routes)) → test route ≡ false
    → so_far ≡ longest len (filter test (take (i + 1) routes))
longest_no_more test len routes i route so_far within is known passes = rw (filter_no_more test routes i route within is passes) known

-- the first of two routes isn't longer than the longer of them
first_at_most : {P T : Type 0} (len : P → ℕ) (route : P × T) (other : Option (P × T)) → len route.0 ≤ len (longer len route other).0
first_at_most len route None = omega arith
first_at_most len route (Some other) =
    elim (nat_lt (len route.0) (len other.0)) as (λ b. nat_lt (len route.0) (len other.0) ≡ b → len route.0 ≤ len (if b then other else route).0)
    [ true ↦ λ is. grind (arith, nat_tests) | false ↦ λ is. omega arith ] refl

-- the second of two routes isn't longer than the longer of them
second_at_most : {P T : Type 0} (len : P → ℕ) (route other : P × T) → len other.0 ≤ len (longer len route (Some other)).0
second_at_most len route other =
    elim (nat_lt (len route.0) (len other.0)) as (λ b. nat_lt (len route.0) (len other.0) ≡ b → len other.0 ≤ len (if b then other else route).0)
    [ true ↦ λ is. omega arith | false ↦ λ is. grind (arith, nat_tests) ] refl

-- where the longest isn't longer than a bound, no route is
pub none_longer : {P T : Type 0} (len : P → ℕ) (bound : ℕ) (routes : List (P × T))
    → ((o : P × T) → longest len routes ≡ Some o → len o.0 ≤ bound) → AllByRecursion (λ route. len route.0 ≤ bound) routes
none_longer len bound [] small = tt
none_longer len bound (route ∷ routes) small =
    let most : len (longer len route (longest len routes)).0 ≤ bound = small _ refl in
    let first : len route.0 ≤ len (longer len route (longest len routes)).0 = first_at_most len route (longest len routes) in (
      omega arith,
      none_longer len bound routes (λ o is.
          let second : len o.0 ≤ len (longer len route (longest len routes)).0 = rw is (second_at_most len route o) in
          omega arith),
    )

-- no route is longer than the longest
pub longest_most : {P T : Type 0} (len : P → ℕ) (routes : List (P × T)) (r : P × T)
    → longest len routes ≡ Some r → All (λ route. len route.0 ≤ len r.0) routes
longest_most len routes r e =
    All-from_recursion _ _ (none_longer len (len r.0) routes (λ o is. let same : o ≡ r = cc in subst (λ r. len o.0 ≤ len r.0) same (omega arith)))
