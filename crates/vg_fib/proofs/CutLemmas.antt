-- For the clauses of `Spans::{cut, put, put_from}`, and for `Spans6::target`:
-- Spans of addresses that are cut, and numbers that are raised in them.
use Rattle.std.proofs.Common.{◌≡◌, ◌≢◌, ℕ, ◌+◌, ◌-◌, ◌<◌, ◌≤◌, ◌^◌, ◌⊎◌, List, map, length, get_or, refl, sym, ◌∙◌, ap, subst, arith, inl, inr}
use Rattle.std.proofs.lemmas.Bool.{cases_order, cases_lt, cases_eq}
use Rattle.std.proofs.lemmas.List.Edits.{length-insert, get_or-insert_below, get_or-insert_at, get_or-insert_above}
use Rattle.std.proofs.lemmas.List.{length-map, get_or-map, get_or_default}
use Rattle.std.specs.List.{insert}
use Rattle.vg_model.specs.declared.routes.Prefix6.{Prefix6}
use Rattle.vg_model.specs.Route.{ip6, covers_of}
use Rattle.vg_fib.specs.Table.{Routes6}
use Rattle.vg_fib.specs.Numbers.{SlotsOf, IsBestOf}
use Rattle.vg_fib.specs.Order.{IsOrder, rank, ranks}
use Rattle.vg_fib.specs.Trie.{IsRaised}
use Rattle.vg_fib.specs.Spans.{start_of, IsLast, AreRising, AreSpans, HasNumber, IsCut, IsChangedAt, IsSpreadAt, end_of, HasFirst6, AreRoutesOf}
use Rattle.vg_fib.specs.declared.spans.Spans.{Spans}
use Rattle.vg_fib.proofs.PrefixLemmas.{are6}
use Rattle.vg_fib.proofs.SpanLemmas.{InSpan, chosen_by_span}
use Rattle.vg_fib.proofs.NumberLemmas.{ArePut, best_among, number_after_turn, put_before, put_next}

-- starts rise from a place to one that isn't before it
pub rises : (starts : List ℕ) (i j : ℕ) → AreRising starts → i ≤ j → j < length starts → start_of starts i ≤ start_of starts j
rises starts i j rising before inside = elim (cases_eq i j) [
  | inl e ↦ subst (λ k. start_of starts i ≤ start_of starts k) e (omega arith)
  | inr ne ↦ let less : start_of starts i < start_of starts j = rising i j (omega (arith, ne)) inside in omega (arith, less)
]

-- what stands at a place of a list into which a value was put
pub data Stands (xs : List ℕ) (at x i : ℕ) : Type 0 where
  Before : i < at → get_or (insert xs at x) i 0 ≡ get_or xs i 0 → Stands xs at x i
  Here : i ≡ at → get_or (insert xs at x) i 0 ≡ x → Stands xs at x i
  Behind : (k : ℕ) → i ≡ k + 1 → at ≤ k → get_or (insert xs at x) i 0 ≡ get_or xs k 0 → Stands xs at x i

pub stands : (xs : List ℕ) (at x i : ℕ) → at ≤ length xs → Stands xs at x i
stands xs at x i fits = elim (cases_order i at) [
  | inl here ↦ Here here (ap (λ n. get_or (insert xs at x) n 0) here ∙ get_or-insert_at xs at x 0 fits)
  | inr other ↦ elim other [
    | inl below ↦ Before below (get_or-insert_below xs at x 0 i below fits)
    | inr above ↦
        let k : ℕ = i - 1 in
        let next : i ≡ k + 1 = omega arith in
        Behind k next (omega arith) (ap (λ n. get_or (insert xs at x) n 0) next ∙ get_or-insert_above xs at x 0 k (omega arith) fits)
  ]
]

-- a span that is cut in two: both have its number
module _ (starts numbers : List ℕ) (address place : ℕ) (shape : AreSpans starts numbers) (last : IsLast starts 1 address place) (ne : start_of starts place ≢ address) where
  abbrev new_starts : List ℕ
  new_starts = insert starts (place + 1) address

  abbrev new_numbers : List ℕ
  new_numbers = insert numbers (place + 1) (get_or numbers place 0)

  fits : place + 1 ≤ length starts
  fits = omega (arith, last.inside)

  fits_too : place + 1 ≤ length numbers
  fits_too = omega (arith, last.inside, shape.numbered)

  longer : length new_starts ≡ length starts + 1
  longer = length-insert starts (place + 1) address fits

  longer_too : length new_numbers ≡ length numbers + 1
  longer_too = length-insert numbers (place + 1) (get_or numbers place 0) fits_too

  low : (i : ℕ) → i ≤ place → start_of starts i < address
  low i before =
      let up : start_of starts i ≤ start_of starts place = rises starts i place shape.rising before last.inside in
      omega (arith, up, last.from, ne)

  high : (k : ℕ) → place + 1 ≤ k → k < length starts → address < start_of starts k
  high k behind inside =
      let up : start_of starts (place + 1) ≤ start_of starts k = rises starts (place + 1) k shape.rising behind inside in
      let next : address < start_of starts (place + 1) = last.below (omega arith) in
      omega (arith, up, next)

  cut_rising : AreRising new_starts
  cut_rising i j before inside =
      elim (stands starts (place + 1) address i fits) [
        | Before hi there ↦ elim (stands starts (place + 1) address j fits) [
          | Before hj there' ↦ omega (arith, there, there', shape.rising i j before (omega (arith, last.inside)))
          | Here hj there' ↦ omega (arith, there, there', low i (omega arith))
          | Behind k hj past there' ↦ omega (arith, there, there', low i (omega arith), high k past (omega (arith, longer)))
        ]
        | Here hi there ↦ elim (stands starts (place + 1) address j fits) [
          | Before hj there' ↦ absurd (omega arith)
          | Here hj there' ↦ absurd (omega arith)
          | Behind k hj past there' ↦ omega (arith, there, there', high k past (omega (arith, longer)))
        ]
        | Behind m hi behind there ↦ elim (stands starts (place + 1) address j fits) [
          | Before hj there' ↦ absurd (omega arith)
          | Here hj there' ↦ absurd (omega arith)
          | Behind k hj past there' ↦ omega (arith, there, there', shape.rising m k (omega arith) (omega (arith, longer)))
        ]
      ]

  cut_shape : AreSpans new_starts new_numbers
  cut_shape = record {
    some = omega (arith, longer);
    first = get_or-insert_below starts (place + 1) address 0 0 (omega arith) fits ∙ shape.first;
    rising = cut_rising;
    numbered = omega (arith, longer, longer_too, shape.numbered);
  }

  cut_numbers : (a n : ℕ) → HasNumber new_starts new_numbers a n → HasNumber starts numbers a n
  cut_numbers a n has =
      elim (stands starts (place + 1) address has.place fits) [
        | Before before there ↦ record {
          place = has.place;
          lies = record {
            inside = omega (arith, last.inside);
            from = omega (arith, there, has.lies.from);
            below = λ within. elim (stands starts (place + 1) address (has.place + 1) fits) [
              | Before e there' ↦ omega (arith, there', has.lies.below (omega (arith, longer)))
              | Here e there' ↦ omega (arith, there', has.lies.below (omega (arith, longer)), high (has.place + 1) (omega arith) within)
              | Behind k e past there' ↦ absurd (omega arith)
            ];
          };
          is = sym (get_or-insert_below numbers (place + 1) (get_or numbers place 0) 0 has.place before fits_too) ∙ has.is;
        }
        | Here e there ↦ record {
          place = place;
          lies = record {
            inside = last.inside;
            from = omega (arith, there, has.lies.from, last.from);
            below = λ within.
                let there' : start_of new_starts (place + 1 + 1) ≡ start_of starts (place + 1) = get_or-insert_above starts (place + 1) address 0 (place + 1) (omega arith) fits in
                let next : a < start_of new_starts (has.place + 1) = has.lies.below (omega (arith, longer)) in
                let same : start_of new_starts (has.place + 1) ≡ start_of new_starts (place + 1 + 1) = ap (λ k. start_of new_starts (k + 1)) e in
                omega (arith, there', next, same);
          };
          is = sym (get_or-insert_at numbers (place + 1) (get_or numbers place 0) 0 fits_too) ∙ (ap (λ k. get_or new_numbers k 0) (sym e) ∙ has.is);
        }
        | Behind k e past there ↦ record {
          place = k;
          lies = record {
            inside = omega (arith, has.lies.inside, longer);
            from = omega (arith, there, has.lies.from);
            below = λ within.
                let there' : start_of new_starts (k + 1 + 1) ≡ start_of starts (k + 1) = get_or-insert_above starts (place + 1) address 0 (k + 1) (omega arith) fits in
                let next : a < start_of new_starts (has.place + 1) = has.lies.below (omega (arith, longer)) in
                let same : start_of new_starts (has.place + 1) ≡ start_of new_starts (k + 1 + 1) = ap (λ k. start_of new_starts (k + 1)) e in
                omega (arith, there', next, same);
          };
          is = sym (get_or-insert_above numbers (place + 1) (get_or numbers place 0) 0 k past fits_too) ∙ (ap (λ k. get_or new_numbers k 0) (sym e) ∙ has.is);
        }
      ]

  pub cut_new : IsCut address (place + 1) starts numbers new_starts new_numbers
  cut_new = record {
    shape = cut_shape;
    inside = omega (arith, longer, last.inside);
    is = get_or-insert_at starts (place + 1) address 0 fits;
    before = λ k within below. elim (cases_lt k (place + 1)) [
      | inl less ↦ (less, get_or-insert_below starts (place + 1) address 0 k less fits)
      | inr more ↦ absurd (omega (arith, below, high k more within))
    ];
    numbers = cut_numbers;
  }

-- spans that begin and end with a prefix: those from one place on and before another are its addresses
pub record AreMarked (prefix : Prefix6) (from to : ℕ) (old_starts old_numbers starts numbers : List ℕ) : Type 0 where
  pub shape : AreSpans starts numbers
  pub order : from ≤ to
  pub inside : from < length starts
  pub begins : start_of starts from ≡ prefix.addr
  pub few : to ≤ length starts
  pub ends : to < length starts → start_of starts to ≡ end_of prefix
  pub beyond : to ≡ length starts → 2 ^ 128 ≤ end_of prefix
  pub same : (a n : ℕ) → HasNumber starts numbers a n → HasNumber old_starts old_numbers a n

-- where the prefix's addresses are the last, one cut marks them
pub marked_last : (prefix : Prefix6) (from : ℕ) (old_starts old_numbers starts numbers : List ℕ) → IsCut prefix.addr from old_starts old_numbers starts numbers
    → 2 ^ 128 ≤ end_of prefix → AreMarked prefix from (length starts) old_starts old_numbers starts numbers
marked_last prefix from old_starts old_numbers starts numbers cut far = record {
  shape = cut.shape;
  order = omega (arith, cut.inside);
  inside = cut.inside;
  begins = cut.is;
  few = omega arith;
  ends = λ h. absurd (omega (arith, h));
  beyond = λ h. far;
  same = cut.numbers;
}

-- else two cuts mark them
pub marked_twice : (prefix : Prefix6) (from to address : ℕ) (old_starts old_numbers mid_starts mid_numbers starts numbers : List ℕ)
    → IsCut prefix.addr from old_starts old_numbers mid_starts mid_numbers → address ≡ end_of prefix → prefix.addr < end_of prefix
    → IsCut address to mid_starts mid_numbers starts numbers → AreMarked prefix from to old_starts old_numbers starts numbers
marked_twice prefix from to address old_starts old_numbers mid_starts mid_numbers starts numbers first is behind second =
    let kept = second.before from first.inside (omega (arith, first.is, is, behind)) in
    record {
      shape = second.shape;
      order = omega (arith, kept.0);
      inside = omega (arith, kept.0, second.inside);
      begins = kept.1 ∙ first.is;
      few = omega (arith, second.inside);
      ends = λ h. second.is ∙ is;
      beyond = λ h. absurd (omega (arith, h, second.inside));
      same = λ a n has. first.numbers a n (second.numbers a n has);
    }

-- spans whose numbers are raised stay spans
raised_shape : (f : ℕ → ℕ) (from count : ℕ) (starts numbers new : List ℕ) → AreSpans starts numbers → IsRaised f from count numbers new → AreSpans starts new
raised_shape f from count starts numbers new shape raised = record {
  some = shape.some;
  first = shape.first;
  rising = shape.rising;
  numbered = raised.same_length ∙ shape.numbered;
}

-- the numbers of a prefix's addresses are raised where the numbers of its spans are
module _ (prefix : Prefix6) (f : ℕ → ℕ) (from to : ℕ) (old_starts old_numbers starts numbers new : List ℕ)
    (marked : AreMarked prefix from to old_starts old_numbers starts numbers) (raised : IsRaised f from (to - from) numbers new) where
  pub spread_shape : AreSpans starts new
  spread_shape = raised_shape f from (to - from) starts numbers new marked.shape raised

  module _ (a n : ℕ) (bound : a < 2 ^ 128) (has : HasNumber starts new a n) where
    abbrev old : ℕ
    old = get_or numbers has.place 0

    had : HasNumber old_starts old_numbers a old
    had = marked.same a old (record { place = has.place; lies = has.lies; is = refl })

    -- where the span is one of the prefix's, the address is covered
    covered : from ≤ has.place → has.place < to → InSpan ip6 prefix a
    covered low high =
        let up : start_of starts from ≤ start_of starts has.place = rises starts from has.place marked.shape.rising low has.lies.inside in
        (omega (arith, up, marked.begins, has.lies.from), before_end (cases_lt (has.place + 1) (length starts)))
      where
        before_end : ((has.place + 1 < length starts) ⊎ (length starts ≤ has.place + 1)) → a < end_of prefix
        before_end (inl more) = elim (cases_lt to (length starts)) [
          | inl within ↦
              let up : start_of starts (has.place + 1) ≤ start_of starts to = rises starts (has.place + 1) to marked.shape.rising (omega arith) within in
              omega (arith, up, marked.ends within, has.lies.below more)
          | inr whole ↦ omega (arith, bound, marked.beyond (omega (arith, whole, marked.few)))
        ]
        before_end (inr none) = omega (arith, bound, marked.beyond (omega (arith, none, high, marked.few, has.lies.inside)))

    -- and where it is none of them, not
    not_before : has.place < from → InSpan ip6 prefix a → ⊥
    not_before low there =
        let up : start_of starts (has.place + 1) ≤ start_of starts from = rises starts (has.place + 1) from marked.shape.rising (omega arith) marked.inside in
        let next : a < start_of starts (has.place + 1) = has.lies.below (omega (arith, marked.inside)) in
        omega (arith, up, next, marked.begins, there.0)

    not_behind : to ≤ has.place → InSpan ip6 prefix a → ⊥
    not_behind high there =
        let up : start_of starts to ≤ start_of starts has.place = rises starts to has.place marked.shape.rising high has.lies.inside in
        let end : start_of starts to ≡ end_of prefix = marked.ends (omega (arith, has.lies.inside)) in
        omega (arith, up, end, has.lies.from, there.1)

    pub spread_number : IsChangedAt (covers_of ip6 prefix) f old_starts old_numbers a n
    spread_number = elim (cases_lt has.place from) [
      | inl low ↦
          let same : get_or new has.place 0 ≡ old = raised.outside has.place (λ h _. omega (arith, h, low)) in
          record { old = old; had = had; is = chosen_by_span are6 prefix a (f old) old n (λ there. absurd (not_before low there)) (λ _. sym has.is ∙ same) }
      | inr more ↦ elim (cases_lt has.place to) [
        | inl less ↦
            let same : get_or new has.place 0 ≡ f old = raised.inside has.place more (omega (arith, more, less)) in
            record { old = old; had = had; is = chosen_by_span are6 prefix a (f old) old n (λ _. sym has.is ∙ same) (λ not. absurd (not (covered more less))) }
        | inr high ↦
            let same : get_or new has.place 0 ≡ old = raised.outside has.place (λ h k. omega (arith, h, k, high, more, marked.order)) in
            record { old = old; had = had; is = chosen_by_span are6 prefix a (f old) old n (λ there. absurd (not_behind high there)) (λ _. sym has.is ∙ same) }
      ]
    ]

-- the number of an address among the places that were put so far
pub record HasPut (slots : SlotsOf Prefix6) (known : ℕ) (order : List ℕ) (turn : ℕ) (spans : Spans) : Type 0 where
  pub shape : AreSpans spans.starts.items spans.numbers.items
  pub numbers : (address number : ℕ) → address < 2 ^ 128 → HasNumber spans.starts.items spans.numbers.items address number
      → IsBestOf ip6 slots (ArePut known order turn) address number

-- before the first turn the first slots' routes are put
pub put_begins : (slots : SlotsOf Prefix6) (known : ℕ) (order : List ℕ) (spans : Spans) → HasFirst6 slots known spans → HasPut slots known order 0 spans
put_begins slots known order spans has = record {
  shape = has.shape;
  numbers = λ address number bound there.
      best_among are6 slots (λ k. k < known) (ArePut known order 0) address number (λ k within here. put_before known order k here)
      (has.numbers address number bound there);
}

-- in a turn the next place of the order is put
pub put_turn : (slots : SlotsOf Prefix6) (known turn q : ℕ) (order : List ℕ) (before after : Spans) → get_or order turn 0 ≡ q → q < length slots
    → IsSpreadAt slots q before after → HasPut slots known order turn before → HasPut slots known order (turn + 1) after
put_turn slots known turn q order before after at inside spread put = record {
  shape = spread.shape;
  numbers = λ address number bound has.
      let raised = spread.numbers address number bound has in
      number_after_turn are6 slots known turn q address raised.old number order at inside (put.numbers address raised.old bound raised.had) raised.is;
}

-- or it is one that was put before
pub put_skips : (slots : SlotsOf Prefix6) (known turn q : ℕ) (order : List ℕ) (spans : Spans) → get_or order turn 0 ≡ q → q < known
    → HasPut slots known order turn spans → HasPut slots known order (turn + 1) spans
put_skips slots known turn q order spans at first put = record {
  shape = put.shape;
  numbers = λ address number bound has.
      best_among are6 slots (ArePut known order turn) (ArePut known order (turn + 1)) address number (λ k within here. still k here)
      (put.numbers address number bound has);
}
  where
    still : (k : ℕ) → ArePut known order (turn + 1) k → ArePut known order turn k
    still k here = elim (put_next known order turn q k at here) [
      | inl there ↦ there
      | inr e ↦ inl (omega (arith, e, first))
    ]

-- the slots of places in a table, which are the last
abbrev pub slots_of : ℕ → List ℕ → List ℕ
slots_of empty order = map (λ place. empty + place) order

-- the slot of a place that was read
pub slot_read : (empty turn place : ℕ) (order : List ℕ) → turn < length order → place ≡ get_or order turn 0 → get_or (slots_of empty order) turn 0 ≡ empty + place
slot_read empty turn place order inside is = get_or-map (λ place. empty + place) order turn 0 0 inside ∙ ap (λ n. empty + n) (sym is)

-- after the last turn all are put
pub put_ends : (slots : SlotsOf Prefix6) (routes : Routes6) (known turn empty : ℕ) (order : List ℕ) (spans : Spans) → IsOrder (ranks ip6 routes) order
    → length order ≤ turn
    → empty + length routes ≡ length slots → empty ≤ known → HasPut slots known (slots_of empty order) turn spans → HasFirst6 slots (length slots) spans
put_ends slots routes known turn empty order spans is past last low put = record {
  shape = put.shape;
  numbers = λ address number bound has.
      best_among are6 slots (ArePut known (slots_of empty order) turn) (λ k. k < length slots) address number (λ k within _. all k within)
      (put.numbers address number bound has);
}
  where
    all : (k : ℕ) → k < length slots → ArePut known (slots_of empty order) turn k
    all k within = elim (cases_lt k empty) [
      | inl before ↦ inl (omega (arith, before, low))
      | inr behind ↦
          let len : length (ranks ip6 routes) ≡ length routes = length-map routes (λ route. rank ip6 route.0) in
          let stands = is.each (k - empty) (omega (arith, len, last, within, behind)) in
          let here : get_or (slots_of empty order) stands.0 0 ≡ empty + (k - empty) = slot_read empty stands.0 (k - empty) order stands.1 (sym stands.2) in
          inr (stands.0, omega (arith, stands.1, past), omega (arith, here, behind))
    ]

-- a place of the order is one of the routes
pub order_within : (routes : Routes6) (order : List ℕ) (turn : ℕ) → IsOrder (ranks ip6 routes) order → turn < length order → get_or order turn 0 < length routes
order_within routes order turn is inside =
    let len : length (ranks ip6 routes) ≡ length routes = length-map routes (λ route. rank ip6 route.0) in
    omega (arith, len, is.within turn inside)

-- the number that was read at an address's span is its best
pub best_read : (slots : SlotsOf Prefix6) (spans : Spans) (address place number : ℕ) → AreRoutesOf slots spans → address < 2 ^ 128
    → IsLast spans.starts.items 1 address place → number ≡ get_or spans.numbers.items place number → IsBestOf ip6 slots (λ k. k < length slots) address number
best_read slots spans address place number are bound lies read =
    let inside : place < length spans.numbers.items = omega (arith, are.has.shape.numbered, lies.inside) in
    are.has.numbers address number bound (record { place = place; lies = lies; is = get_or_default spans.numbers.items place 0 number inside ∙ sym read })
