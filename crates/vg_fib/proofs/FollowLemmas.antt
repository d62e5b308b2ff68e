-- For `follow`, `take_out`, `anew` and `grown`, of levels and of spans: what they have of slots that change.
use Rattle.std.proofs.Common.{◌≡◌, ℕ, ◌+◌, ◌<◌, ◌≤◌, [], ◌∷◌, ◌++◌, ◌-◌, map, take, drop, length, get_or, refl, sym, ◌∙◌, ap, subst, arith, length-append}
use Rattle.std.proofs.Math.ListN.{set, length-set}
use Rattle.std.proofs.lemmas.List.{length-map, length-drop, length-take-le, take_all}
use Rattle.std.specs.Prelude.{Some, None}
use Rattle.vg_model.specs.declared.routes.Prefix.{Prefix}
use Rattle.vg_model.specs.declared.routes.Prefix6.{Prefix6}
use Rattle.vg_model.specs.declared.routes.RouteTo.{RouteTo}
use Rattle.vg_model.specs.Route.{RoutesOf, ip4, ip6}
use Rattle.vg_fib.specs.declared.numbers.Change.TheVariants.{Goes}
use Rattle.vg_fib.specs.declared.trie.Levels.{Levels}
use Rattle.vg_fib.specs.declared.spans.Spans.{Spans}
use Rattle.vg_fib.specs.Numbers.{SlotsOf, slot_at, routes_in, AreFirstOf, IsBestOf, IsHeir, HasPrefix, changed_by, covers_if, longer_of}
use Rattle.vg_fib.specs.Trie.{HasFirst, IsLevels, IsChanged, IsPut, IsPutAt, number_at}
use Rattle.vg_fib.specs.Spans.{AreSpans, IsSpans, HasNumber, HasFirst6, AreChanged, IsSpread, IsSpreadAt}
use Rattle.vg_fib.proofs.PrefixLemmas.{are4, are6}
use Rattle.vg_fib.proofs.NumberLemmas.{best_moved, nothing_best}
use Rattle.vg_fib.proofs.HeirLemmas.{added_same, target_same, number_after, has_within}

-- there are at most as many routes as slots
length_routes : {P : Type 0} (slots : SlotsOf P) → length (routes_in slots) ≤ length slots
length_routes [] = omega arith
length_routes (None ∷ slots) = omega (arith, length_routes slots)
length_routes (Some route ∷ slots) = omega (arith, length_routes slots)

pub known_few : {P : Type 0} (routes : RoutesOf P) (known : ℕ) (slots : SlotsOf P) → AreFirstOf routes known slots → known ≤ length slots
known_few routes known slots first = omega (arith, length_routes slots, ap length first.same, length-take-le known routes first.few)

-- slots are added for the routes that were read behind the first ones: these are all others of the table
pub rest_added : {P : Type 0} (routes read : RoutesOf P) (known : ℕ) (slots more : SlotsOf P) → read ≡ routes
    → more ≡ slots ++ map (λ route. Some route) (take (length read - known) (drop known read)) → more ≡ slots ++ map (λ route. Some route) (drop known routes)
rest_added routes read known slots more same is =
    let whole : take (length read - known) (drop known read) ≡ drop known read =
    take_all (length read - known) (drop known read) (omega (arith, length-drop known read)) in
    is ∙ (ap (λ rest. slots ++ map (λ route. Some route) rest) whole ∙ ap (λ rs. slots ++ map (λ route. Some route) (drop known rs)) same)

-- the slots of the routes that were not there are behind the others
pub added_length : {P : Type 0} (routes : RoutesOf P) (known : ℕ) (slots more : SlotsOf P) → more ≡ slots ++ map (λ route. Some route) (drop known routes)
    → length more ≡ length slots + (length routes - known)
added_length routes known slots more is =
    ap length is ∙ (length-append slots (map (λ route. Some route) (drop known routes))
    ∙ ap (λ n. length slots + n) (length-map (drop known routes) (λ route. Some route) ∙ length-drop known routes))

-- slots are added
pub levels_added : (slots added more : SlotsOf Prefix) (levels : Levels) → more ≡ slots ++ added → HasFirst slots (length slots) levels
    → HasFirst more (length slots) levels
levels_added slots added more levels is has = record {
  shape = has.shape;
  numbers = λ address bound. best_moved are4 slots more address (number_at levels address) (omega (arith, ap length is, length-append slots added))
      (λ k inside. added_same ip4 slots added more address k is inside) (has.numbers address bound);
}

pub spans_added : (slots added more : SlotsOf Prefix6) (spans : Spans) → more ≡ slots ++ added → HasFirst6 slots (length slots) spans
    → HasFirst6 more (length slots) spans
spans_added slots added more spans is has = record {
  shape = has.shape;
  numbers = λ address number bound there. best_moved are6 slots more address number (omega (arith, ap length is, length-append slots added))
      (λ k inside. added_same ip6 slots added more address k is inside) (has.numbers address number bound there);
}

-- a route gets another target
pub levels_kept : (slots : SlotsOf Prefix) (place : ℕ) (route : Prefix × RouteTo) (levels : Levels) → HasPrefix slots place route.0
    → HasFirst slots (length slots) levels → HasFirst (set slots place (Some route)) (length (set slots place (Some route))) levels
levels_kept slots place route levels stands has =
    let same : length (set slots place (Some route)) ≡ length slots = length-set slots place (Some route) in
    let inside : place < length slots = has_within are4 slots place route.0 stands in
    subst (λ n. HasFirst (set slots place (Some route)) n levels) (sym same) (record {
      shape = has.shape;
      numbers = λ address bound. best_moved are4 slots (set slots place (Some route)) address (number_at levels address) (omega (arith, same))
          (λ k _. target_same ip4 slots place route address k inside stands) (has.numbers address bound);
    })

pub spans_kept : (slots : SlotsOf Prefix6) (place : ℕ) (route : Prefix6 × RouteTo) (spans : Spans) → HasPrefix slots place route.0
    → HasFirst6 slots (length slots) spans → HasFirst6 (set slots place (Some route)) (length (set slots place (Some route))) spans
spans_kept slots place route spans stands has =
    let same : length (set slots place (Some route)) ≡ length slots = length-set slots place (Some route) in
    let inside : place < length slots = has_within are6 slots place route.0 stands in
    subst (λ n. HasFirst6 (set slots place (Some route)) n spans) (sym same) (record {
      shape = has.shape;
      numbers = λ address number bound there. best_moved are6 slots (set slots place (Some route)) address number (omega (arith, same))
          (λ k _. target_same ip6 slots place route address k inside stands) (has.numbers address number bound there);
    })

-- a route is taken out, and its heir takes its addresses over
pub levels_after : (slots : SlotsOf Prefix) (place heir : ℕ) (prefix : Prefix) (old new : Levels) → HasPrefix slots place prefix
    → IsHeir ip4 (set slots place None) prefix heir → HasFirst slots (length slots) old
    → IsPut prefix (changed_by ip4 (set slots place None) (Goes (place + 1) heir)) old new
    → HasFirst (set slots place None) (length (set slots place None)) new
levels_after slots place heir prefix old new stands is has put = record {
  shape = put.shape;
  numbers = λ address bound.
      subst (IsBestOf ip4 (set slots place None) (λ k. k < length (set slots place None)) address) (sym (put.numbers address bound))
      (number_after are4 slots place prefix stands (has_within are4 slots place prefix stands) address heir (number_at old address) is (has.numbers address bound));
}

pub spans_after : (slots : SlotsOf Prefix6) (place heir : ℕ) (prefix : Prefix6) (old new : Spans) → HasPrefix slots place prefix
    → IsHeir ip6 (set slots place None) prefix heir → HasFirst6 slots (length slots) old
    → IsSpread prefix (changed_by ip6 (set slots place None) (Goes (place + 1) heir)) old new
    → HasFirst6 (set slots place None) (length (set slots place None)) new
spans_after slots place heir prefix old new stands is has spread = record {
  shape = spread.shape;
  numbers = λ address number bound there.
      let raised = spread.numbers address number bound there in
      subst (IsBestOf ip6 (set slots place None) (λ k. k < length (set slots place None)) address) (sym raised.is)
      (number_after are6 slots place prefix stands (has_within are6 slots place prefix stands) address heir raised.old is
      (has.numbers address raised.old bound raised.had));
}

-- the route in a slot is put in
pub levels_put : (slots : SlotsOf Prefix) (place : ℕ) (route : Prefix × RouteTo) (old new : Levels) → slot_at slots place ≡ Some route
    → IsPut route.0 (longer_of ip4 slots (place + 1)) old new → IsPutAt slots place old new
levels_put slots place route old new is put =
    subst (λ slot. IsChanged (covers_if ip4 slot) (longer_of ip4 slots (place + 1)) old new) (sym is) put

pub spans_put : (slots : SlotsOf Prefix6) (place : ℕ) (route : Prefix6 × RouteTo) (old new : Spans) → slot_at slots place ≡ Some route
    → IsSpread route.0 (longer_of ip6 slots (place + 1)) old new → IsSpreadAt slots place old new
spans_put slots place route old new is spread =
    subst (λ slot. AreChanged (covers_if ip6 slot) (longer_of ip6 slots (place + 1)) old new) (sym is) spread

-- or there is none
pub levels_put_none : (slots : SlotsOf Prefix) (place : ℕ) (levels : Levels) → slot_at slots place ≡ None → IsLevels levels → IsPutAt slots place levels levels
levels_put_none slots place levels is shape =
    subst (λ slot. IsChanged (covers_if ip4 slot) (longer_of ip4 slots (place + 1)) levels levels) (sym is)
    (record { shape = shape; numbers = λ address bound. refl; second_grows = omega arith; third_grows = omega arith })

pub spans_put_none : (slots : SlotsOf Prefix6) (place : ℕ) (spans : Spans) → slot_at slots place ≡ None → IsSpans spans → IsSpreadAt slots place spans spans
spans_put_none slots place spans is shape =
    subst (λ slot. AreChanged (covers_if ip6 slot) (longer_of ip6 slots (place + 1)) spans spans) (sym is)
    (record { shape = shape; numbers = λ address number bound has. record { old = number; had = has; is = refl } })

-- nothing is put in yet
pub levels_begin : (slots : SlotsOf Prefix) (levels : Levels) → slots ≡ [] → IsLevels levels → ((address : ℕ) → number_at levels address ≡ 0)
    → HasFirst slots (length slots) levels
levels_begin slots levels none shape numbers = subst (λ xs. HasFirst xs (length xs) levels) (sym none) (record {
  shape = shape;
  numbers = λ address bound. nothing_best are4 (λ k. k < 0) address (number_at levels address) (numbers address);
})

-- one span with no route
one_span : AreSpans (0 ∷ []) (0 ∷ [])
one_span = record {
  some = omega arith;
  first = refl;
  rising = λ i j before inside. absurd (omega (arith, before, inside));
  numbered = refl;
}

only_number : (a n : ℕ) → HasNumber (0 ∷ []) (0 ∷ []) a n → n ≡ 0
only_number a n has =
    let here : has.place ≡ 0 = omega (arith, has.lies.inside) in
    sym has.is ∙ ap (λ k. get_or (0 ∷ []) k 0) here

pub spans_begin : (slots : SlotsOf Prefix6) (spans : Spans) → slots ≡ [] → spans.starts.items ≡ 0 ∷ [] → spans.numbers.items ≡ 0 ∷ []
    → HasFirst6 slots (length slots) spans
spans_begin slots spans none starts numbers = subst (λ xs. HasFirst6 xs (length xs) spans) (sym none) (record {
  shape = rw (starts, numbers) one_span;
  numbers = λ address number bound there.
      let has : HasNumber (0 ∷ []) (0 ∷ []) address number = subst (λ xs. HasNumber xs (0 ∷ []) address number) starts
      (subst (λ xs. HasNumber spans.starts.items xs address number) numbers there) in
      nothing_best are6 (λ k. k < 0) address number (only_number address number has);
})
