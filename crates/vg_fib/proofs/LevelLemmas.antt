-- For the clauses of `Levels::{emptied, number, put_short, put_middle, put_long, first_child, second_child}`:
-- What a trie's levels give, after an entry gets a child and after a prefix's places are filled.
use Rattle.std.proofs.Common.{◌≡◌, ℕ, ◌+◌, ◌-◌, ◌*◌, ◌/◌, ◌%◌, ◌^◌, ◌<◌, ◌≤◌, ◌≢◌, ◌⊎◌, inl, inr, List, [], ◌++◌, length, get_or, refl, sym, ◌∙◌, ap, subst, arith, append_assoc, length-append, get_or-set_other, get_or-set_same}
use Rattle.std.proofs.Math.ListN.{set, length-set, replicate}
use Rattle.std.proofs.lemmas.List.{get_or_append_left, get_or-append_right, get_or-replicate, length-replicate, replicate-append-replicate, get_or_past, get_or_default}
use Rattle.std.proofs.lemmas.Bool.{cases_eq, cases_lt}
use Rattle.std.specs.Prelude.{if◌then◌else◌}
use Rattle.vg_model.specs.declared.routes.Prefix.{Prefix}
use Rattle.vg_model.specs.Route.{ip4, covers_of}
use Rattle.vg_fib.specs.declared.entries.Entry.{Entry}
use Rattle.vg_fib.specs.declared.entries.Entry.TheVariants.{Leaf, Child}
use Rattle.vg_fib.specs.Trie.{number_in, number_under, number_by, HasChildren, AreLevels, IsRaised, IsRaisedSecond, AreRaised}
use Rattle.vg_fib.proofs.PrefixLemmas.{are4}
use Rattle.vg_fib.proofs.SpanLemmas.{addresses, chosen_by_span, short_span, middle_span, long_span}

-- what stands at a place, where a place without an entry has no route
abbrev pub entry : List Entry → ℕ → Entry
entry entries place = get_or entries place (Leaf 0)

-- a leaf is no child
pub leaf_is_no_child : (number child : ℕ) → Leaf number ≡ Child child → ⊥
leaf_is_no_child number child e = cc

-- two children that are one have one number
same_child : (one other : ℕ) → Child one ≡ Child other → one ≡ other
same_child one other e = cc

-- a number is one of these or not
pub is_or_not : (k n : ℕ) → (k ≡ n) ⊎ (k ≢ n)
is_or_not k n = cases_eq k n

-- a place is one of so many from one on, or not
pub within_or_not : (from count k : ℕ) → ((from ≤ k) × (k < from + count)) ⊎ (from ≤ k → k < from + count → ⊥)
within_or_not from count k =
    elim (cases_lt k from) [
      | inl below ↦ inr (λ low high. omega arith)
      | inr low ↦ elim (cases_lt k (from + count)) [
        | inl high ↦ inl (low, high)
        | inr behind ↦ inr (λ _ high. omega arith)
      ]
    ]

-- children in a table with more places, of which no new ones came
pub fewer_children : (old new : List Entry) (places more : ℕ) → HasChildren old places → places ≤ more
    → ((i c : ℕ) → entry new i ≡ Child c → entry old i ≡ Child c) → HasChildren new more
fewer_children old new places more has up back = record {
  within = λ i c e. omega (arith, has.within i c (back i c e));
  once = λ i j c e f. has.once i j c (back i c e) (back j c f);
}

-- entries that are added and are leaves have no child
pub added_back : (old : List Entry) (count number : ℕ) (i c : ℕ) → entry (old ++ replicate count (Leaf number)) i ≡ Child c → entry old i ≡ Child c
added_back old count number i c e =
    let more = replicate count (Leaf number) in
    elim (cases_lt i (length old)) [
      | inl here ↦ sym (get_or_append_left old more (Leaf 0) i here) ∙ e
      | inr behind ↦
          let new : entry (old ++ more) i ≡ get_or more (i - length old) (Leaf 0) = get_or-append_right old more (length old) i (Leaf 0) refl behind in
          elim (cases_lt (i - length old) count) [
            | inl within ↦ absurd (leaf_is_no_child number c (sym (new ∙ get_or-replicate count (i - length old) (Leaf number) (Leaf 0) within) ∙ e))
            | inr past ↦ absurd (leaf_is_no_child 0 c (sym (new ∙ get_or_past more (i - length old) (Leaf 0) (omega (arith, past, length-replicate count (Leaf number)))) ∙ e))
          ]
    ]

-- the leaves of one child more
pub leaves_more : (old now : List Entry) (n : ℕ) → now ≡ old ++ replicate (256 * n) (Leaf 0) → now ++ replicate 256 (Leaf 0) ≡ old ++ replicate (256 * (n + 1)) (Leaf 0)
leaves_more old now n is =
    let sum : 256 * n + 256 ≡ 256 * (n + 1) = omega arith in
    ap (λ xs. xs ++ replicate 256 (Leaf 0)) is
    ∙ (append_assoc old (replicate (256 * n) (Leaf 0)) (replicate 256 (Leaf 0))
    ∙ ap (λ xs. old ++ xs) (replicate-append-replicate (256 * n) 256 (Leaf 0) ∙ ap (λ k. replicate k (Leaf 0)) sum))

-- what was read at a place and seen as an entry, with the default of a place without an entry
pub entry_read : (entries : List Entry) (place : ℕ) (read seen is : Entry) → place < length entries → read ≡ get_or entries place read → seen ≡ read → seen ≡ is
    → entry entries place ≡ is
entry_read entries place read seen is within at same e = get_or_default entries place (Leaf 0) read within ∙ (sym at ∙ (sym same ∙ e))

-- one entry more has a child, the one behind the others
pub one_child_more : (entries : List Entry) (place child places : ℕ) → HasChildren entries places → place < length entries → places ≡ 256 * child
    → HasChildren (set entries place (Child child)) (places + 256)
one_child_more entries place child places has here whole =
    let elsewhere : (i : ℕ) → i ≢ place → entry (set entries place (Child child)) i ≡ entry entries i = λ i ne. get_or-set_other entries place i (Child child) (Leaf 0) ne in
    let at : entry (set entries place (Child child)) place ≡ Child child = get_or-set_same entries place (Child child) (Leaf 0) here in
    record {
      within = λ i c e. elim (is_or_not i place) [
        | inl is ↦ let same : child ≡ c = same_child child c (sym at ∙ (subst (λ k. entry (set entries place (Child child)) k ≡ Child c) is e)) in omega arith
        | inr ne ↦ omega (arith, has.within i c (sym (elsewhere i ne) ∙ e))
      ];
      once = λ i j c e f. elim (is_or_not i place) [
        | inl is ↦ elim (is_or_not j place) [
          | inl js ↦ is ∙ sym js
          | inr nj ↦
              let same : child ≡ c = same_child child c (sym at ∙ (subst (λ k. entry (set entries place (Child child)) k ≡ Child c) is e)) in
              absurd (omega (arith, has.within j c (sym (elsewhere j nj) ∙ f)))
        ]
        | inr ni ↦ elim (is_or_not j place) [
          | inl js ↦
              let same : child ≡ c = same_child child c (sym at ∙ (subst (λ k. entry (set entries place (Child child)) k ≡ Child c) js f)) in
              absurd (omega (arith, has.within i c (sym (elsewhere i ni) ∙ e)))
          | inr nj ↦ has.once i j c (sym (elsewhere i ni) ∙ e) (sym (elsewhere j nj) ∙ f)
        ]
      ];
    }

-- an entry gives one number where the entries of its child are the same
pub same_under : (second new : List Entry) (third : List ℕ) (e : Entry) (address : ℕ)
    → ((c : ℕ) → e ≡ Child c → entry new (256 * c + address / 256 % 256) ≡ entry second (256 * c + address / 256 % 256))
    → number_under new third e address ≡ number_under second third e address
same_under second new third (Leaf number) address same = refl
same_under second new third (Child child) address same = ap (λ e. number_in third e address) (same child refl)

-- an entry of the second level gives one number where the numbers of its child are the same
pub same_in : (third new : List ℕ) (e : Entry) (address : ℕ)
    → ((c : ℕ) → e ≡ Child c → get_or new (256 * c + address % 256) 0 ≡ get_or third (256 * c + address % 256) 0)
    → number_in new e address ≡ number_in third e address
same_in third new (Leaf number) address same = refl
same_in third new (Child child) address same = same child refl

-- an entry of the first level gives one number where its child's entries give one
pub same_below : (second others : List Entry) (third new : List ℕ) (e : Entry) (address : ℕ)
    → ((c : ℕ) → e ≡ Child c → number_in new (entry others (256 * c + address / 256 % 256)) address ≡ number_in third (entry second (256 * c + address / 256 % 256)) address)
    → number_under others new e address ≡ number_under second third e address
same_below second others third new (Leaf number) address same = refl
same_below second others third new (Child child) address same = same child refl

-- a place of the first level gets a child with what its entry said
pub first_child_numbers : (first second : List Entry) (third : List ℕ) (place child number : ℕ) → AreLevels first second third
    → place < 65536 → entry first place ≡ Leaf number → length second ≡ 256 * child
    → (address : ℕ) → number_by (set first place (Child child)) (second ++ replicate 256 (Leaf number)) third address ≡ number_by first second third address
first_child_numbers first second third place child number levels here was whole address =
    let more = second ++ replicate 256 (Leaf number) in
    let within : place < length first = omega (arith, levels.all) in
    elim (is_or_not (address / 65536) place) [
      | inl is ↦
          let now : entry (set first place (Child child)) (address / 65536) ≡ Child child =
          subst (λ k. entry (set first place (Child child)) k ≡ Child child) (sym is) (get_or-set_same first place (Child child) (Leaf 0) within) in
          let before : entry first (address / 65536) ≡ Leaf number = subst (λ k. entry first k ≡ Leaf number) (sym is) was in
          let new : entry more (256 * child + address / 256 % 256) ≡ Leaf number =
          get_or-append_right second (replicate 256 (Leaf number)) (256 * child) (256 * child + address / 256 % 256) (Leaf 0) whole (omega arith)
          ∙ get_or-replicate 256 (256 * child + address / 256 % 256 - 256 * child) (Leaf number) (Leaf 0) (omega arith) in
          ap (λ e. number_under more third e address) now ∙ ap (λ e. number_in third e address) new ∙ sym (ap (λ e. number_under second third e address) before)
      | inr ne ↦
          ap (λ e. number_under more third e address) (get_or-set_other first place (address / 65536) (Child child) (Leaf 0) ne)
          ∙ same_under second more third (entry first (address / 65536)) address (λ c e.
          get_or_append_left second (replicate 256 (Leaf number)) (Leaf 0) (256 * c + address / 256 % 256)
          (omega (arith, levels.first_children.within (address / 65536) c e)))
    ]

-- the same levels with a child of the first level
pub first_child_levels : (first second : List Entry) (third : List ℕ) (place child number : ℕ) → AreLevels first second third
    → place < 65536 → length second ≡ 256 * child
    → AreLevels (set first place (Child child)) (second ++ replicate 256 (Leaf number)) third
first_child_levels first second third place child number levels here whole =
    let grown : length (second ++ replicate 256 (Leaf number)) ≡ length second + 256 =
    length-append second (replicate 256 (Leaf number)) ∙ ap (λ n. length second + n) (length-replicate 256 (Leaf number)) in
    record {
      all = length-set first place (Child child) ∙ levels.all;
      second_whole = omega (arith, grown, levels.second_whole);
      third_whole = levels.third_whole;
      first_children = subst (HasChildren (set first place (Child child))) (sym grown)
          (one_child_more first place child (length second) levels.first_children (omega (arith, levels.all)) whole);
      second_children = fewer_children second (second ++ replicate 256 (Leaf number)) (length third) (length third) levels.second_children (omega arith)
          (added_back second 256 number);
    }

-- a place of the second level gets a child with what its entry said
pub second_child_numbers : (first second : List Entry) (third : List ℕ) (place child number : ℕ) → AreLevels first second third
    → place < length second → entry second place ≡ Leaf number → length third ≡ 256 * child
    → (address : ℕ) → number_by first (set second place (Child child)) (third ++ replicate 256 number) address ≡ number_by first second third address
second_child_numbers first second third place child number levels here was whole address =
    let more = third ++ replicate 256 number in
    same_below second (set second place (Child child)) third more (entry first (address / 65536)) address (λ c of.
    let p = 256 * c + address / 256 % 256 in
    elim (is_or_not p place) [
      | inl is ↦
          let now : entry (set second place (Child child)) p ≡ Child child =
          subst (λ k. entry (set second place (Child child)) k ≡ Child child) (sym is) (get_or-set_same second place (Child child) (Leaf 0) here) in
          let before : entry second p ≡ Leaf number = subst (λ k. entry second k ≡ Leaf number) (sym is) was in
          let new : get_or more (256 * child + address % 256) 0 ≡ number =
          get_or-append_right third (replicate 256 number) (256 * child) (256 * child + address % 256) 0 whole (omega arith)
          ∙ get_or-replicate 256 (256 * child + address % 256 - 256 * child) number 0 (omega arith) in
          ap (λ e. number_in more e address) now ∙ new ∙ sym (ap (λ e. number_in third e address) before)
      | inr ne ↦
          ap (λ e. number_in more e address) (get_or-set_other second place p (Child child) (Leaf 0) ne)
          ∙ same_in third more (entry second p) address (λ d e.
          get_or_append_left third (replicate 256 number) 0 (256 * d + address % 256)
          (omega (arith, levels.second_children.within p d e)))
    ])

-- the same levels with a child of the second level
pub second_child_levels : (first second : List Entry) (third : List ℕ) (place child number : ℕ) → AreLevels first second third
    → place < length second → length third ≡ 256 * child
    → AreLevels first (set second place (Child child)) (third ++ replicate 256 number)
second_child_levels first second third place child number levels here whole =
    let grown : length (third ++ replicate 256 number) ≡ length third + 256 =
    length-append third (replicate 256 number) ∙ ap (λ n. length third + n) (length-replicate 256 number) in
    let same : length (set second place (Child child)) ≡ length second = length-set second place (Child child) in
    record {
      all = levels.all;
      second_whole = omega (arith, same, levels.second_whole);
      third_whole = omega (arith, grown, levels.third_whole);
      first_children = subst (HasChildren first) (sym same) levels.first_children;
      second_children = subst (HasChildren (set second place (Child child))) (sym grown)
          (one_child_more second place child (length third) levels.second_children here whole);
    }

-- a prefix of at most 16 bits is put
pub short_numbers : (prefix : Prefix) (f : ℕ → ℕ) (first second : List Entry) (third : List ℕ) (new newer : List Entry) (newest : List ℕ)
    → prefix.addr < 2 ^ 32 → prefix.len ≤ 16
    → AreRaised f (prefix.addr / 65536) (2 ^ (16 - prefix.len)) first second third new newer newest
    → (address : ℕ) → number_by new newer newest address ≡ (if covers_of ip4 prefix address then f (number_by first second third address) else number_by first second third address)
short_numbers prefix f first second third new newer newest bound short raised address =
    let span = short_span prefix bound short in
    let q = address / 65536 in
    chosen_by_span are4 prefix address (f (number_by first second third address)) (number_by first second third address) (number_by new newer newest address)
    (λ inside. raised.inside q address (omega (arith, span.at, span.is, inside.0, inside.1)) (omega (arith, span.at, span.is, inside.0, inside.1)))
    (λ not. raised.outside q address (λ low high. not (omega (arith, span.at, span.is, low, high), omega (arith, span.at, span.is, low, high))))

-- a prefix of 17 to 24 bits is put
pub middle_numbers : (prefix : Prefix) (f : ℕ → ℕ) (child : ℕ) (first second : List Entry) (third : List ℕ) (new : List Entry) (newer : List ℕ)
    → AreLevels first second third → 16 < prefix.len → prefix.len ≤ 24
    → entry first (prefix.addr / 65536) ≡ Child child
    → IsRaisedSecond f (256 * child + prefix.addr / 256 % 256) (2 ^ (24 - prefix.len)) second third new newer
    → (address : ℕ) → number_by first new newer address ≡ (if covers_of ip4 prefix address then f (number_by first second third address) else number_by first second third address)
middle_numbers prefix f child first second third new newer levels longer middle parent raised address =
    let span = middle_span prefix longer middle in
    let q = address / 65536 in
    let m = address / 256 % 256 in
    chosen_by_span are4 prefix address (f (number_by first second third address)) (number_by first second third address) (number_by first new newer address)
    (λ inside.
    let is : prefix.addr / 65536 ≡ q = omega (arith, span.at, span.is, span.fits, inside.0, inside.1) in
    let under : entry first q ≡ Child child = subst (λ k. entry first k ≡ Child child) is parent in
    ap (λ e. number_under new newer e address) under
    ∙ (raised.inside (256 * child + m) address (omega (arith, span.at, span.is, span.fits, inside.0, inside.1)) (omega (arith, span.at, span.is, span.fits, inside.0, inside.1))
    ∙ ap f (sym (ap (λ e. number_under second third e address) under))))
    (λ not. same_below second new third newer (entry first q) address (λ c e.
    raised.outside (256 * c + m) address (λ low high.
    let is : c ≡ child = omega (arith, span.fits, low, high) in
    let at : q ≡ prefix.addr / 65536 = levels.first_children.once q (prefix.addr / 65536) child (subst (λ c. entry first q ≡ Child c) is e) parent in
    not (omega (arith, span.at, span.is, span.fits, low, high, is, at), omega (arith, span.at, span.is, span.fits, low, high, is, at)))))

-- a prefix of 25 to 32 bits is put
pub long_numbers : (prefix : Prefix) (f : ℕ → ℕ) (parent child : ℕ) (first second : List Entry) (third new : List ℕ) → AreLevels first second third
    → 24 < prefix.len
    → entry first (prefix.addr / 65536) ≡ Child parent
    → entry second (256 * parent + prefix.addr / 256 % 256) ≡ Child child
    → IsRaised f (256 * child + prefix.addr % 256) (addresses prefix) third new
    → (address : ℕ) → number_by first second new address ≡ (if covers_of ip4 prefix address then f (number_by first second third address) else number_by first second third address)
long_numbers prefix f parent child first second third new levels longer above under raised address =
    let fits = long_span prefix longer in
    let q = address / 65536 in
    let m = address / 256 % 256 in
    chosen_by_span are4 prefix address (f (number_by first second third address)) (number_by first second third address) (number_by first second new address)
    (λ inside.
    let is : prefix.addr / 65536 ≡ q = omega (arith, fits, inside.0, inside.1) in
    let is_m : prefix.addr / 256 % 256 ≡ m = omega (arith, fits, inside.0, inside.1) in
    let one : entry first q ≡ Child parent = subst (λ k. entry first k ≡ Child parent) is above in
    let two : entry second (256 * parent + m) ≡ Child child = subst (λ k. entry second (256 * parent + k) ≡ Child child) is_m under in
    let old : number_by first second third address ≡ get_or third (256 * child + address % 256) 0 =
    ap (λ e. number_under second third e address) one ∙ ap (λ e. number_in third e address) two in
    ap (λ e. number_under second new e address) one
    ∙ (ap (λ e. number_in new e address) two
    ∙ (raised.inside (256 * child + address % 256) (omega (arith, fits, inside.0, inside.1)) (omega (arith, fits, inside.0, inside.1))
    ∙ ap f (sym old))))
    (λ not. same_below second second third new (entry first q) address (λ c e.
    same_in third new (entry second (256 * c + m)) address (λ d g.
    raised.outside (256 * d + address % 256) (λ low high.
    let is : d ≡ child = omega (arith, fits, low, high) in
    let place : 256 * c + m ≡ 256 * parent + prefix.addr / 256 % 256 =
    levels.second_children.once (256 * c + m) (256 * parent + prefix.addr / 256 % 256) child (subst (λ d. entry second (256 * c + m) ≡ Child d) is g) under in
    let above_is : c ≡ parent = omega (arith, place) in
    let at : q ≡ prefix.addr / 65536 = levels.first_children.once q (prefix.addr / 65536) parent (subst (λ c. entry first q ≡ Child c) above_is e) above in
    let is_m : m ≡ prefix.addr / 256 % 256 = omega (arith, place, above_is) in
    not (omega (arith, fits, low, high, is, at, is_m), omega (arith, fits, low, high, is, at, is_m))))))

-- levels whose numbers were raised fit each other still
pub raised_levels : (f : ℕ → ℕ) (from count : ℕ) (first second : List Entry) (third : List ℕ) (new newer : List Entry) (newest : List ℕ) → AreLevels first second third
    → AreRaised f from count first second third new newer newest → AreLevels new newer newest
raised_levels f from count first second third new newer newest levels raised = record {
  all = raised.same_length ∙ levels.all;
  second_whole = omega (arith, raised.second, levels.second_whole);
  third_whole = omega (arith, raised.third, levels.third_whole);
  first_children = fewer_children first new (length second) (length newer) levels.first_children (omega (arith, raised.second)) raised.no_more;
  second_children = fewer_children second newer (length third) (length newest) levels.second_children (omega (arith, raised.third)) raised.no_more_below;
}

-- the same where the numbers of the second level were
pub middle_levels : (f : ℕ → ℕ) (from count : ℕ) (first second : List Entry) (third : List ℕ) (new : List Entry) (newer : List ℕ) → AreLevels first second third
    → IsRaisedSecond f from count second third new newer → AreLevels first new newer
middle_levels f from count first second third new newer levels raised = record {
  all = levels.all;
  second_whole = omega (arith, raised.same_length, levels.second_whole);
  third_whole = omega (arith, raised.third, levels.third_whole);
  first_children = fewer_children first first (length second) (length new) levels.first_children (omega (arith, raised.same_length)) (λ i c e. e);
  second_children = fewer_children second new (length third) (length newer) levels.second_children (omega (arith, raised.third)) raised.no_more;
}

-- the same where the numbers of the third level were
pub long_levels : (f : ℕ → ℕ) (from count : ℕ) (first second : List Entry) (third new : List ℕ) → AreLevels first second third
    → IsRaised f from count third new → AreLevels first second new
long_levels f from count first second third new levels raised = record {
  all = levels.all;
  second_whole = levels.second_whole;
  third_whole = omega (arith, raised.same_length, levels.third_whole);
  first_children = levels.first_children;
  second_children = fewer_children second second (length third) (length new) levels.second_children (omega (arith, raised.same_length)) (λ i c e. e);
}

-- where no entry has a child there are no children
nothing_back : (i c : ℕ) → entry [] i ≡ Child c → ⊥
nothing_back i c e = leaf_is_no_child 0 c e

no_children : (entries : List Entry) (places : ℕ) → ((i c : ℕ) → entry entries i ≡ Child c → ⊥) → HasChildren entries places
no_children entries places none = record {
  within = λ i c e. absurd (none i c e);
  once = λ i j c e f. absurd (none i c e);
}

-- the levels at the start, before any child is made
pub no_route_levels : (first second : List Entry) (third : List ℕ) → first ≡ [] ++ replicate 65536 (Leaf 0) → second ≡ [] → third ≡ []
    → AreLevels first second third
no_route_levels first second third is none nothing = record {
  all = ap length is ∙ (length-append [] (replicate 65536 (Leaf 0)) ∙ ap (λ n. 0 + n) (length-replicate 65536 (Leaf 0)));
  second_whole = ap (λ xs. length xs % 256) none;
  third_whole = ap (λ xs. length xs % 256) nothing;
  first_children = no_children first (length second) (λ i c e. nothing_back i c (added_back [] 65536 0 i c (ap (λ xs. entry xs i) (sym is) ∙ e)));
  second_children = no_children second (length third) (λ i c e. nothing_back i c (ap (λ xs. entry xs i) (sym none) ∙ e));
}

-- each place says 0 at the start
start_entry : (i : ℕ) → entry ([] ++ replicate 65536 (Leaf 0)) i ≡ Leaf 0
start_entry i =
    let right : entry ([] ++ replicate 65536 (Leaf 0)) i ≡ get_or (replicate 65536 (Leaf 0)) (i - 0) (Leaf 0) =
    get_or-append_right [] (replicate 65536 (Leaf 0)) 0 i (Leaf 0) refl (omega arith) in
    elim (cases_lt (i - 0) 65536) [
      | inl within ↦ right ∙ get_or-replicate 65536 (i - 0) (Leaf 0) (Leaf 0) within
      | inr past ↦ right ∙ get_or_past (replicate 65536 (Leaf 0)) (i - 0) (Leaf 0) (omega (arith, past, length-replicate 65536 (Leaf 0)))
    ]

pub no_route_numbers : (first second : List Entry) (third : List ℕ) → first ≡ [] ++ replicate 65536 (Leaf 0)
    → (address : ℕ) → number_by first second third address ≡ 0
no_route_numbers first second third is address =
    ap (λ e. number_under second third e address) (ap (λ xs. entry xs (address / 65536)) is ∙ start_entry (address / 65536))
