-- For `take_out`, `heir` and `follow`: a route that is taken out of its slot, and the route that takes its addresses over.
use Rattle.std.proofs.Common.{◌≡◌, ◌≢◌, ℕ, zero, suc, ◌+◌, ◌-◌, ◌*◌, ◌/◌, ◌^◌, ◌<◌, ◌≤◌, inl, inr, Bool, true, false, [], ◌∷◌, ◌++◌, take, drop, map, length, get_or, refl, sym, ◌∙◌, ap, subst, arith, append-nil}
use Rattle.std.proofs.Math.ListN.{set, length-set}
use Rattle.std.proofs.Math.Nat.{div-div-eq-div-mul}
use Rattle.std.proofs.lemmas.Bool.{cases_eq, eqb-true, eq-eqb, false≢true}
use Rattle.std.proofs.lemmas.List.{get_or_append_left, get_or-set_same, get_or-set_other, take_more, take_more_set, take-append-drop, take_all}
use Rattle.std.proofs.lemmas.List.Elements.{filter_map-append}
use Rattle.std.proofs.lemmas.Nat.{pow_pos, pow-add}
use Rattle.std.specs.Prelude.{Option, Some, None, nat_lt, ◌==◌, if◌then◌else◌}
use Rattle.vg_model.specs.declared.routes.RouteTo.{RouteTo}
use Rattle.vg_model.specs.Route.{PrefixKind, RoutesOf, covers_of}
use Rattle.vg_fib.specs.Numbers.{SlotsOf, routes_in, slot_at, length_if, length_at, length_of, longer_of, covers_if, covers_at, IsBestOf, IsHeir, HasPrefix, AreFirstOf}
use Rattle.vg_fib.proofs.PrefixLemmas.{ArePrefixes}
use Rattle.vg_fib.proofs.SpanLemmas.{covers_from_span}
use Rattle.vg_fib.proofs.NumberLemmas.{HasSame, best_among, best_with, within_slots}

-- the heir of a prefix among the first so many places
pub record IsHeirOf {P : Type 0} (kind : PrefixKind P) (slots : SlotsOf P) (prefix : P) (count number : ℕ) : Type 0 where
  pub short : length_of kind slots number ≤ kind.len prefix
  pub best : IsBestOf kind slots (λ k. (k < count) × (length_at kind slots k ≤ kind.len prefix)) (kind.addr prefix) number

-- a route here is around a prefix
abbrev pub IsAround : {P : Type 0} → PrefixKind P → SlotsOf P → P → ℕ → Type 0
IsAround kind slots prefix place = (length_at kind slots place ≤ kind.len prefix) × (covers_at kind slots place (kind.addr prefix) ≡ true)

-- the routes in the first so many slots are the first of a table
pub record HasFollowed {P : Type 0} (routes : RoutesOf P) (known : ℕ) (slots : SlotsOf P) (place : ℕ) : Type 0 where
  pub few : known ≤ length routes
  pub same : routes_in (take place slots) ≡ take known routes

-- routes that stand in slots, one behind the other
routes_of_some : {P : Type 0} (routes : RoutesOf P) → routes_in (map (λ route. Some route) routes) ≡ routes
routes_of_some [] = refl
routes_of_some (route ∷ routes) = ap (λ rest. route ∷ rest) (routes_of_some routes)

module _ {P : Type 0} where
  -- no slot is looked at yet
  pub followed_begins : (routes : RoutesOf P) (slots : SlotsOf P) → HasFollowed routes 0 slots 0
  followed_begins routes slots = record { few = omega arith; same = refl }

  -- the next slot is empty
  pub followed_empty : (routes : RoutesOf P) (known : ℕ) (slots : SlotsOf P) (place : ℕ) → place < length slots → slot_at slots place ≡ None
      → HasFollowed routes known slots place → HasFollowed routes known slots (place + 1)
  followed_empty routes known slots place inside empty so = record {
    few = so.few;
    same = ap routes_in (take_more slots place None inside)
        ∙ (filter_map-append (λ slot. slot) (take place slots) (slot_at slots place ∷ [])
        ∙ (ap (λ slot. routes_in (take place slots) ++ routes_in (slot ∷ [])) empty
        ∙ (append-nil (routes_in (take place slots)) ∙ so.same)));
  }

  -- the next slot is emptied
  pub followed_gone : (routes : RoutesOf P) (known : ℕ) (slots new : SlotsOf P) (place : ℕ) → place < length slots → new ≡ set slots place None
      → HasFollowed routes known slots place → HasFollowed routes known new (place + 1)
  followed_gone routes known slots new place inside is so = record {
    few = so.few;
    same = ap (λ xs. routes_in (take (place + 1) xs)) is
        ∙ (ap routes_in (take_more_set slots place None inside)
        ∙ (filter_map-append (λ slot. slot) (take place slots) (None ∷ [])
        ∙ (append-nil (routes_in (take place slots)) ∙ so.same)));
  }

  -- the next slot gets the table's next route
  pub followed_kept : (routes : RoutesOf P) (known : ℕ) (slots : SlotsOf P) (place : ℕ) (route : P × RouteTo) → place < length slots → known < length routes
      → route ≡ get_or routes known route → HasFollowed routes known slots place → HasFollowed routes (known + 1) (set slots place (Some route)) (place + 1)
  followed_kept routes known slots place route inside within read so = record {
    few = omega (arith, within);
    same = ap routes_in (take_more_set slots place (Some route) inside)
        ∙ (filter_map-append (λ slot. slot) (take place slots) (Some route ∷ [])
        ∙ (ap (λ rest. rest ++ route ∷ []) so.same
        ∙ (ap (λ r. take known routes ++ r ∷ []) read ∙ sym (take_more routes known route within))));
  }

  -- all slots are looked at
  pub followed_ends : (routes : RoutesOf P) (known : ℕ) (slots : SlotsOf P) (place : ℕ) → length slots ≤ place
      → HasFollowed routes known slots place → AreFirstOf routes known slots
  followed_ends routes known slots place all so = record {
    few = so.few;
    same = sym (ap routes_in (take_all place slots all)) ∙ so.same;
  }

  -- the routes of a table that were not there are put behind the others
  pub all_there : (routes : RoutesOf P) (known : ℕ) (slots more : SlotsOf P) → AreFirstOf routes known slots
      → more ≡ slots ++ map (λ route. Some route) (drop known routes) → routes_in more ≡ routes
  all_there routes known slots more first is =
      ap routes_in is
      ∙ (filter_map-append (λ slot. slot) slots (map (λ route. Some route) (drop known routes))
      ∙ (ap (λ rest. rest ++ routes_in (map (λ route. Some route) (drop known routes))) first.same
      ∙ (ap (λ rest. take known routes ++ rest) (routes_of_some (drop known routes)) ∙ take-append-drop known routes)))

  -- slots that are added leave the others
  pub added_same : (kind : PrefixKind P) (slots added more : SlotsOf P) (address k : ℕ) → more ≡ slots ++ added → k < length slots → HasSame kind slots more address k
  added_same kind slots added more address k is inside =
      let there : slot_at more k ≡ slot_at slots k = ap (λ xs. slot_at xs k) is ∙ get_or_append_left slots added None k inside in
      record { covers = ap (λ slot. covers_if kind slot address) there; long = ap (length_if kind) there }

  -- a slot that gets another target has the same prefix
  pub target_same : (kind : PrefixKind P) (slots : SlotsOf P) (place : ℕ) (route : P × RouteTo) (address k : ℕ) → place < length slots → HasPrefix slots place route.0
      → HasSame kind slots (set slots place (Some route)) address k
  target_same kind slots place route address k inside has = elim (cases_eq k place) [
    | inl e ↦
        let new : slot_at (set slots place (Some route)) k ≡ Some route =
        ap (slot_at (set slots place (Some route))) e ∙ get_or-set_same slots place (Some route) None inside in
        let old : slot_at slots k ≡ Some (route.0, has.to) = ap (slot_at slots) e ∙ has.is in
        record {
          covers = ap (λ slot. covers_if kind slot address) new ∙ sym (ap (λ slot. covers_if kind slot address) old);
          long = ap (length_if kind) new ∙ sym (ap (length_if kind) old);
        }
    | inr ne ↦
        let there : slot_at (set slots place (Some route)) k ≡ slot_at slots k = get_or-set_other slots place k (Some route) None ne in
        record { covers = ap (λ slot. covers_if kind slot address) there; long = ap (length_if kind) there }
  ]

module _ {P : Type 0} {kind : PrefixKind P} (are : ArePrefixes kind) where
  -- a prefix covers its first address
  covers_itself : (prefix : P) → covers_of kind prefix (kind.addr prefix) ≡ true
  covers_itself prefix = covers_from_span are prefix (kind.addr prefix) (omega arith, omega (arith, pow_pos (kind.width - kind.len prefix)))

  -- of two addresses of a prefix, a shorter one covers both or none
  nested : (outer inner : P) (x y : ℕ) → kind.len outer ≤ kind.len inner → covers_of kind inner x ≡ true → covers_of kind inner y ≡ true
      → covers_of kind outer x ≡ true → covers_of kind outer y ≡ true
  nested outer inner x y shorter over_x over_y is =
      let low : ℕ = kind.width - kind.len inner in
      let high : ℕ = kind.len inner - kind.len outer in
      let few : kind.len inner ≤ kind.width = are.few inner in
      let width : kind.width - kind.len outer ≡ low + high = omega (arith, few, shorter) in
      let power : 2 ^ (kind.width - kind.len outer) ≡ 2 ^ low * 2 ^ high = ap (λ w. 2 ^ w) width ∙ pow-add 2 low high in
      let whole : (z : ℕ) → z / 2 ^ (kind.width - kind.len outer) ≡ z / 2 ^ low / 2 ^ high =
      λ z. ap (λ d. z / d) power ∙ sym (div-div-eq-div-mul z (2 ^ low) (2 ^ high)) in
      let both : x / 2 ^ low ≡ y / 2 ^ low = sym (eqb-true _ _ over_x) ∙ eqb-true _ _ over_y in
      eq-eqb _ _ (eqb-true _ _ is ∙ (whole x ∙ (ap (λ q. q / 2 ^ high) both ∙ sym (whole y))))

  -- the same of the prefix in a slot
  nested_if : (slot : Option (P × RouteTo)) (inner : P) (x y : ℕ) → length_if kind slot ≤ kind.len inner → covers_of kind inner x ≡ true → covers_of kind inner y ≡ true
      → covers_if kind slot x ≡ true → covers_if kind slot y ≡ true
  nested_if None inner x y shorter over_x over_y is = absurd (false≢true is)
  nested_if (Some route) inner x y shorter over_x over_y is = nested route.0 inner x y shorter over_x over_y is

  -- a test is true or false
  false_unless : (b : Bool) → (b ≡ true → ⊥) → b ≡ false
  false_unless true not = absurd (not refl)
  false_unless false not = refl

  module _ (slots : SlotsOf P) (q : ℕ) (prefix : P) (has : HasPrefix slots q prefix) (inside : q < length slots) where
    abbrev left : SlotsOf P
    left = set slots q None

    same_length : length left ≡ length slots
    same_length = length-set slots q None

    kept : (k : ℕ) → k ≢ q → slot_at left k ≡ slot_at slots k
    kept k ne = get_or-set_other slots q k None None ne

    empty : slot_at left q ≡ None
    empty = get_or-set_same slots q None None inside

    -- an empty slot covers nothing
    elsewhere : (k address : ℕ) → covers_at kind left k address ≡ true → k ≢ q
    elsewhere k address on = λ e.
        false≢true (sym (ap (λ slot. covers_if kind slot address) empty) ∙ subst (λ k. covers_at kind left k address ≡ true) e on)

    covers_kept : (k address : ℕ) → k ≢ q → covers_at kind left k address ≡ covers_at kind slots k address
    covers_kept k address ne = ap (λ slot. covers_if kind slot address) (kept k ne)

    length_kept : (k : ℕ) → k ≢ q → length_at kind left k ≡ length_at kind slots k
    length_kept k ne = ap (length_if kind) (kept k ne)

    covers_gone : (address : ℕ) → covers_at kind slots q address ≡ covers_of kind prefix address
    covers_gone address = ap (λ slot. covers_if kind slot address) has.is

    length_gone : length_at kind slots q ≡ kind.len prefix
    length_gone = ap (length_if kind) has.is

    abbrev IsBest : ℕ → ℕ → Type 0
    IsBest address number = IsBestOf kind slots (λ k. k < length slots) address number

    abbrev IsBestLeft : ℕ → ℕ → Type 0
    IsBestLeft address number = IsBestOf kind left (λ k. k < length left) address number

    -- another route stays the best
    stays : (address number : ℕ) → number ≢ q + 1 → IsBest address number → IsBestLeft address number
    stays address zero ne best = λ k within here. false_unless (covers_at kind left k address) (λ on.
        let other : k ≢ q = elsewhere k address on in
        let there : k < length slots = omega (arith, same_length, within) in
        false≢true (sym (best k there there) ∙ (sym (covers_kept k address other) ∙ on)))
    stays address (suc place) ne best =
        let other : place ≢ q = λ e. ne (omega (arith, e)) in
        record {
          within = omega (arith, same_length, best.within);
          covers = covers_kept place address other ∙ best.covers;
          longest = λ k within here on.
              let apart : k ≢ q = elsewhere k address on in
              let there : k < length slots = omega (arith, same_length, within) in
              omega (arith, best.longest k there there (sym (covers_kept k address apart) ∙ on), length_kept k apart, length_kept place other);
        }

    -- what covers an address whose best route is gone covers the first address of its prefix, and isn't longer
    around : (address k : ℕ) → covers_of kind prefix address ≡ true → IsBest address (suc q) → covers_at kind left k address ≡ true
        → (length_at kind left k ≤ kind.len prefix) × (covers_at kind left k (kind.addr prefix) ≡ true)
    around address k over best on =
        let apart : k ≢ q = elsewhere k address on in
        let before : covers_at kind slots k address ≡ true = sym (covers_kept k address apart) ∙ on in
        let there : k < length slots = within_slots are slots k address before in
        let shorter : length_at kind left k ≤ kind.len prefix = omega (arith, best.longest k there there before, length_kept k apart, length_gone) in
        (shorter, nested_if (slot_at left k) prefix address (kind.addr prefix) shorter over (covers_itself prefix) on)

    -- where the best route is gone, its heir is the best
    taken_over : (address heir : ℕ) → IsHeir kind left prefix heir → covers_of kind prefix address ≡ true → IsBest address (suc q) → IsBestLeft address heir
    taken_over address zero is over best = λ k within here. false_unless (covers_at kind left k address) (λ on.
        let near = around address k over best on in
        false≢true (sym (is.best k within near.0) ∙ near.1))
    taken_over address (suc place) is over best = record {
      within = is.best.within;
      covers = nested_if (slot_at left place) prefix (kind.addr prefix) address is.short (covers_itself prefix) over is.best.covers;
      longest = λ k within here on. let near = around address k over best on in is.best.longest k within near.0 near.1;
    }

    -- an address's number after a route is gone
    pub number_after : (address heir number : ℕ) → IsHeir kind left prefix heir → IsBest address number
        → IsBestLeft address (if covers_of kind prefix address then (if number == q + 1 then heir else number) else number)
    number_after address heir number is best =
        elim (covers_of kind prefix address) as (λ b. covers_of kind prefix address ≡ b
        → IsBestLeft address (if b then (if number == q + 1 then heir else number) else number)) [
          | true ↦ λ over.
              elim (number == q + 1) as (λ b. (number == q + 1) ≡ b → IsBestLeft address (if b then heir else number)) [
                | true ↦ λ e.
                    let next : number ≡ suc q = omega (arith, eqb-true _ _ e) in
                    taken_over address heir is over (subst (IsBest address) next best)
                | false ↦ λ e. stays address number (λ same. false≢true (sym e ∙ eq-eqb number (q + 1) same)) best
              ] refl
          | false ↦ λ off. stays address number (apart number best off) best
        ] refl
      where
        apart : (number : ℕ) → IsBest address number → covers_of kind prefix address ≡ false → number ≢ q + 1
        apart zero best off = λ e. omega (arith, e)
        apart (suc place) best off = λ e.
            let here : place ≡ q = omega (arith, e) in
            let on : covers_at kind slots q address ≡ true = subst (λ k. covers_at kind slots k address ≡ true) here best.covers in
            false≢true (sym off ∙ (sym (covers_gone address) ∙ on))

  -- a place that a route was read at is within the slots
  pub has_within : (slots : SlotsOf P) (place : ℕ) (prefix : P) → HasPrefix slots place prefix → place < length slots
  has_within slots place prefix has =
      within_slots are slots place (kind.addr prefix) (ap (λ slot. covers_if kind slot (kind.addr prefix)) has.is ∙ covers_itself prefix)

  -- no place is looked at yet
  pub heir_begins : (slots : SlotsOf P) (prefix : P) → IsHeirOf kind slots prefix 0 0
  heir_begins slots prefix = record { short = omega arith; best = λ k within here. absurd (omega (arith, here.0)) }

  -- the next place has a route around the prefix
  pub heir_more : (slots : SlotsOf P) (prefix : P) (place heir : ℕ) → place < length slots → IsAround kind slots prefix place
      → IsHeirOf kind slots prefix place heir → IsHeirOf kind slots prefix (place + 1) (longer_of kind slots (place + 1) heir)
  heir_more slots prefix place heir inside around so =
      let next : place + 1 ≡ suc place = omega arith in
      let best = best_with are slots (λ k. (k < place) × (length_at kind slots k ≤ kind.len prefix)) (λ k. (k < place + 1) × (length_at kind slots k ≤ kind.len prefix))
      (kind.addr prefix) place heir (λ k here. elim (cases_eq k place) [
        | inl e ↦ inr e
        | inr ne ↦ inl (omega (arith, here.0, ne), here.1)
      ]) inside so.best in
      let longest : IsBestOf kind slots (λ k. (k < place + 1) × (length_at kind slots k ≤ kind.len prefix)) (kind.addr prefix) (longer_of kind slots (suc place) heir) =
      subst (λ b. IsBestOf kind slots (λ k. (k < place + 1) × (length_at kind slots k ≤ kind.len prefix)) (kind.addr prefix)
      (if b then longer_of kind slots (suc place) heir else heir)) around.1 best in
      subst (λ n. IsHeirOf kind slots prefix (place + 1) (longer_of kind slots n heir)) (sym next) (record {
        short = elim (nat_lt (length_at kind slots place) (length_of kind slots heir)) as (λ b. length_of kind slots
            (if b then heir else suc place) ≤ kind.len prefix) [
              | true ↦ so.short
              | false ↦ around.0
            ];
        best = longest;
      })

  -- the next place has none
  pub heir_skips : (slots : SlotsOf P) (prefix : P) (place heir : ℕ) → place < length slots → (IsAround kind slots prefix place → ⊥)
      → IsHeirOf kind slots prefix place heir → IsHeirOf kind slots prefix (place + 1) heir
  heir_skips slots prefix place zero inside not so = record {
    short = so.short;
    best = λ k within here. elim (cases_eq k place) [
      | inl e ↦ false_unless (covers_at kind slots k (kind.addr prefix)) (λ on. not (subst (IsAround kind slots prefix) e (here.1, on)))
      | inr ne ↦ so.best k within (omega (arith, here.0, ne), here.1)
    ];
  }
  heir_skips slots prefix place (suc heir) inside not so = record {
    short = so.short;
    best = record {
      within = so.best.within;
      covers = so.best.covers;
      longest = λ k within here on. elim (cases_eq k place) [
        | inl e ↦ absurd (not (subst (IsAround kind slots prefix) e (here.1, on)))
        | inr ne ↦ so.best.longest k within (omega (arith, here.0, ne), here.1) on
      ];
    };
  }

  -- all places are looked at
  pub heir_ends : (slots : SlotsOf P) (prefix : P) (place heir : ℕ) → length slots ≤ place → IsHeirOf kind slots prefix place heir → IsHeir kind slots prefix heir
  heir_ends slots prefix place heir all so = record {
    short = so.short;
    best = best_among are slots (λ k. (k < place) × (length_at kind slots k ≤ kind.len prefix)) (λ k. length_at kind slots k ≤ kind.len prefix) (kind.addr prefix) heir
        (λ k within here. (omega (arith, within, all), here)) so.best;
  }
