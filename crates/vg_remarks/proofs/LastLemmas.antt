-- For `lasts`: the bits of addresses.
use Rattle.std.proofs.Common.{◌≡◌, ◌≢◌, ℕ, ◌/◌, ◌%◌, ◌<◌, Bool, true, false, List, [], ◌∷◌, ◌++◌, Result, Ok, Err, length, get_or, set, refl, sym, ap, ◌∙◌, inl, inr, arith, length-set, get_or-set_same, get_or-set_other}
use Rattle.std.specs.Prelude.{◌==◌, ◌||◌}
use Rattle.std.specs.BTreeMap.{is_at}
use Rattle.std.specs.Cmp.{nat_eq_equiv, unsigned_tied}
use Rattle.std.specs.Int.{bit_at}
use Rattle.std.specs.List.Sorted.{IsBinarySearchResult, IsNonDecreasing}
use Rattle.std.specs.Ordering.{nat_cmp}
use Rattle.std.specs.Result.{is_ok}
use Rattle.std.proofs.Math.Bool.{or-false}
use Rattle.std.proofs.lemmas.Bool.{cases_eq, cases_lt, eq-eqb, eqb-true, false_from_ne_true, false≢true, ne_eqb}
use Rattle.std.proofs.lemmas.List.{get_or_default}
use Rattle.std.proofs.lemmas.List.Folds.{list_any-append, list_any_at, list_any_none}
use Rattle.std.proofs.lemmas.List.Sorted.{searched}
use Rattle.vg_remarks.specs.Lasts.{has, is_marked, AreMarked, IsMarkedBesides}

-- a bit of a number is set, and the others are as they were
pub record SetsBit (old new bit : ℕ) : Type 0 where
  pub here : bit_at new bit ≡ 1
  pub others : (other : ℕ) → other ≢ bit → bit_at new other ≡ bit_at old other

-- so a bit that was set still is
set_still : (old new bit other : ℕ) → SetsBit old new bit → bit_at old other ≡ 1 → bit_at new other ≡ 1
set_still old new bit other sets was = elim (cases_eq other bit) [
  | inl same ↦ ap (bit_at new) same ∙ sets.here
  | inr apart ↦ sets.others other apart ∙ was
]

-- of a bit in the word that was written, and of one in another
kept_at : (marks : List ℕ) (word other value bit : ℕ) → word < length marks → ((b : ℕ) → bit_at (get_or marks word 0) b ≡ 1 → bit_at value b ≡ 1)
    → bit_at (get_or marks other 0) bit ≡ 1 → bit_at (get_or (set marks word value) other 0) bit ≡ 1
kept_at marks word other value bit within still was = elim (cases_eq other word) [
  | inl same ↦
      ap (λ w. bit_at (get_or (set marks word value) w 0) bit) same
      ∙ (ap (λ v. bit_at v bit) (get_or-set_same marks word value 0 within)
      ∙ still bit (ap (λ w. bit_at (get_or marks w 0) bit) (sym same) ∙ was))
  | inr apart ↦ ap (λ v. bit_at v bit) (get_or-set_other marks word other value 0 apart) ∙ was
]

-- a word in which the bit of an address is set besides those that were
pub marked_besides : (marks : List ℕ) (address value : ℕ) → length marks ≡ 1024 → SetsBit (get_or marks (address / 64 % 1024) 0) value (address % 64)
    → IsMarkedBesides address marks (set marks (address / 64 % 1024) value)
unfolding is_marked
marked_besides marks address value whole sets =
    let word = address / 64 % 1024 in
    let within : word < length marks = omega (arith, whole) in
    record {
      whole = length-set marks word value ∙ whole;
      here =
          eq-eqb (bit_at (get_or (set marks word value) word 0) (address % 64)) 1
          (ap (λ v. bit_at v (address % 64)) (get_or-set_same marks word value 0 within) ∙ sets.here);
      kept = λ other was.
          eq-eqb (bit_at (get_or (set marks word value) (other / 64 % 1024) 0) (other % 64)) 1
          (kept_at marks word (other / 64 % 1024) value (other % 64) within
          (λ b set. set_still (get_or marks word 0) value (address % 64) b sets set)
          (eqb-true (bit_at (get_or marks (other / 64 % 1024) 0) (other % 64)) 1 was));
    }

-- one address more
pub has_push : (addresses : List ℕ) (address other : ℕ) → has (addresses ++ address ∷ []) other ≡ (has addresses other || address == other)
has_push addresses address other =
    list_any-append (is_at (nat_cmp other)) addresses (address ∷ [])
    ∙ ap (λ b. has addresses other || b) (or-false (is_at (nat_cmp other) address) ∙ (unsigned_tied other address ∙ nat_eq_equiv.symm other address))

-- no addresses have no bits
pub none_marked : (marks : List ℕ) → length marks ≡ 1024 → AreMarked [] marks
none_marked marks whole = record { whole = whole; marked = λ address is. absurd (false≢true is) }

-- one address more, whose bit is set
marked_one : (old marks : List ℕ) (address other : ℕ) (b : Bool) → has old other ≡ b → AreMarked old marks → is_marked marks address ≡ true
    → (b || address == other) ≡ true → is_marked marks other ≡ true
marked_one old marks address other true is are here e = are.marked other is
marked_one old marks address other false is are here e = ap (is_marked marks) (sym (eqb-true address other e)) ∙ here

pub marked_more : (old new marks now : List ℕ) (address : ℕ) → AreMarked old marks → IsMarkedBesides address marks now
    → ((other : ℕ) → has new other ≡ (has old other || address == other)) → AreMarked new now
marked_more old new marks now address are besides more = record {
  whole = besides.whole;
  marked = λ other is.
      marked_one old now address other (has old other) refl (record { whole = besides.whole; marked = λ a h. besides.kept a (are.marked a h) }) besides.here
      (sym (more other) ∙ is);
}

-- an address whose bit isn't set is none of them
pub not_marked : (addresses marks : List ℕ) (address : ℕ) → AreMarked addresses marks → is_marked marks address ≡ false → has addresses address ≡ false
not_marked addresses marks address are none = false_from_ne_true (has addresses address) (λ e. false≢true (sym none ∙ are.marked address e))

-- what a binary search says of addresses that rise
pub search_is : (addresses : List ℕ) (address : ℕ) (r : Result ℕ ℕ) → IsNonDecreasing addresses → IsBinarySearchResult (λ other. nat_cmp other address) addresses r
    → is_ok r ≡ has addresses address
search_is addresses address (Ok i) rises is =
    let there = searched addresses address (Ok i) is (λ j k le lt. rises j k 0 le lt) in
    sym (list_any_at (is_at (nat_cmp address)) addresses i 0 there.0 (unsigned_tied address (get_or addresses i 0) ∙ eq-eqb address (get_or addresses i 0) (sym there.1)))
search_is addresses address (Err i) rises is =
    let there = searched addresses address (Err i) is (λ j k le lt. rises j k 0 le lt) in
    sym (list_any_none (is_at (nat_cmp address)) addresses (λ k d within.
    let read : get_or addresses k d ≡ get_or addresses k 0 = get_or_default addresses k d 0 within in
    unsigned_tied address (get_or addresses k d)
    ∙ ne_eqb address (get_or addresses k d) (λ same. elim (cases_lt k i) [
      | inl before ↦ let below = there.1 k before in omega (arith, below, same, read)
      | inr behind ↦ let above = there.2 k behind within in omega (arith, above, same, read)
    ])))
