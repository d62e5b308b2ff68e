-- For `log_of` and `counts_add_up`: entries by generation, one entry more, and what is counted of them added up.
use Rattle.std.proofs.Common.{◌≡◌, ◌⊎◌, ℕ, zero, suc, ◌+◌, ◌-◌, ◌^◌, ◌<◌, ◌≤◌, Bool, true, false, ◌==◌, cond, List, [], ◌∷◌, ◌++◌, length, map, take, get_or, refl, sym, ap, ap₂, subst, ◌∙◌, inl, inr, arith, append-nil}
use Rattle.std.specs.Prelude.{nat_lt, slice_set, count_by, filter, replicate, if◌then◌else◌}
use Rattle.std.proofs.lemmas.Bool.Decides.{nat_tests}
use Rattle.std.proofs.lemmas.List.{map-set, get_or-map, get_or-set_same, get_or-set_other, get_or-replicate, get_or_past, length-replicate, length-map, take_all}
use Rattle.vg_ways.proofs.ReadLemmas.{IsRead, take_read}
use Rattle.std.proofs.Math.ListN.{length-set}
use Rattle.std.proofs.lemmas.List.Sums.{sum_by-cons}
use Rattle.vg_ways.specs.declared.entries.Entry.{Entry}
use Rattle.vg_ways.specs.declared.logs.Log.{Log}
use Rattle.vg_ways.specs.Logs.{is_under, under, within, all_of, none, tallies_of, tally_of_all, tally_at, tallies_with, all_with, total, CountsAddUp, HasRoom, IsLogOf}
use Rattle.vg_ways.specs.Tallied.{Tallied, tallied, with_entry, counted_as}
use Rattle.vg_ways.specs.Tallies.{tally_in}
use Rattle.vg_ways.proofs.TallyLemmas.{tallied_more, counted_few}

-- ---- sums over generations

total-same : (n : ℕ) (f g : ℕ → ℕ) → ((i : ℕ) → f i ≡ g i) → total n f ≡ total n g
total-same zero f g same = refl
total-same (suc n) f g same = ap₂ (λ a b. a + b) (total-same n f g same) (same n)

total-zero : (n : ℕ) → total n (λ g. 0) ≡ 0
total-zero zero = refl
total-zero (suc n) = (let so_far = total-zero n in omega arith)

total-add : (n : ℕ) (f g : ℕ → ℕ) → total n (λ i. f i + g i) ≡ total n f + total n g
total-add zero f g = refl
total-add (suc n) f g = (let so_far = total-add n f g in omega arith)

-- nothing is counted under generations before the one that has it
total-before : (n k x : ℕ) → n ≤ k → total n (λ g. if k == g then x else 0) ≡ 0
total-before zero k x h = refl
total-before (suc n) k x h = (let so_far = total-before n k x (omega arith) in grind (arith, nat_tests))

-- one generation has it
total-at : (n k x : ℕ) → k < n → total n (λ g. if k == g then x else 0) ≡ x
total-at zero k x h = absurd (omega arith)
total-at (suc n) k x h =
    let cases : (k ≡ n) ⊎ (k < n) = grind arith in
    elim cases [
      | inl last ↦ (let none = total-before n k x (omega arith) in grind (arith, nat_tests))
      | inr before ↦ (let so_far = total-at n k x before in grind (arith, nat_tests))
    ]

-- where it is one of them
total-one : (n k x : ℕ) → total n (λ g. if k == g then x else 0) ≡ (if nat_lt k n then x else 0)
total-one n k x =
    let cases : ((k < n) × (nat_lt k n ≡ true)) ⊎ ((n ≤ k) × (nat_lt k n ≡ false)) = grind (arith, nat_tests) in
    elim cases [
      | inl here ↦ total-at n k x here.0 ∙ ap (λ (b : Bool). if b then x else 0) (sym here.1)
      | inr past ↦ total-before n k x past.0 ∙ ap (λ (b : Bool). if b then x else 0) (sym past.1)
    ]

-- ---- what is counted

-- of one entry more
counted_cons : (p : Entry → Bool) (g : ℕ) (x : ℕ × Entry) (xs : List (ℕ × Entry))
    → count_by p (under g (x ∷ xs)) ≡ (if x.0 == g then (if p x.1 then 1 else 0) else 0) + count_by p (under g xs)
counted_cons p g x xs =
    elim (x.0 == g) as (λ b. count_by p (map (λ (e : ℕ × Entry). e.1) (cond b (x ∷ filter (is_under g) xs) (filter (is_under g) xs)))
    ≡ (if b then (if p x.1 then 1 else 0) else 0) + count_by p (under g xs))
    [ true ↦ sum_by-cons (λ e. cond (p e) 1 0) x.1 (under g xs) | false ↦ omega arith ]

pub within_cons : (p : Entry → Bool) (n : ℕ) (x : ℕ × Entry) (xs : List (ℕ × Entry))
    → count_by p (all_of (within n (x ∷ xs))) ≡ (if nat_lt x.0 n then (if p x.1 then 1 else 0) else 0) + count_by p (all_of (within n xs))
within_cons p n x xs =
    elim (nat_lt x.0 n) as (λ b. count_by p (map (λ (e : ℕ × Entry). e.1) (cond b (x ∷ within n xs) (within n xs)))
    ≡ (if b then (if p x.1 then 1 else 0) else 0) + count_by p (all_of (within n xs)))
    [ true ↦ sum_by-cons (λ e. cond (p e) 1 0) x.1 (all_of (within n xs)) | false ↦ omega arith ]

pub adds_up : CountsAddUp
adds_up n [] p = total-zero n
adds_up n (x ∷ xs) p =
    let one : ℕ = if p x.1 then 1 else 0 in
    total-same n _ _ (λ g. counted_cons p g x xs)
    ∙ total-add n (λ g. if x.0 == g then one else 0) (λ g. count_by p (under g xs))
    ∙ ap₂ (λ a b. a + b) (total-one n x.0 one) (adds_up n xs p)
    ∙ sym (within_cons p n x xs)

-- ---- entries by generation

-- so many of the first entries count for each line, under each generation and of all
pub record AreTallies (n : ℕ) (entries : List (ℕ × Entry)) (tallies : List Tallied) (all : Tallied) : Type 0 where
  pub count : length tallies ≡ n
  pub each : (g : ℕ) → g < n → tally_at tallies g ≡ tallied (under g entries)
  pub all_are : all ≡ tallied (all_of (within n entries))

-- with an entry, where it is one of those that are meant
abbrev with_if : Bool → Tallied → Entry → Tallied
with_if b t e = if b then with_entry t e else t

-- one entry more under a generation
under_more : (g : ℕ) (entries : List (ℕ × Entry)) (x : ℕ × Entry) → under g (entries ++ x ∷ []) ≡ under g entries ++ (if x.0 == g then x.1 ∷ [] else [])
under_more g [] x = elim (x.0 == g) as (λ b. map (λ (e : ℕ × Entry). e.1) (cond b (x ∷ []) []) ≡ (if b then x.1 ∷ [] else [])) [ true ↦ refl | false ↦ refl ]
under_more g (y ∷ ys) x =
    elim (y.0 == g) as (λ b. map (λ (e : ℕ × Entry). e.1) (cond b (y ∷ filter (is_under g) (ys ++ x ∷ [])) (filter (is_under g) (ys ++ x ∷ [])))
    ≡ map (λ (e : ℕ × Entry). e.1) (cond b (y ∷ filter (is_under g) ys) (filter (is_under g) ys)) ++ (if x.0 == g then x.1 ∷ [] else []))
    [ true ↦ ap (λ es. y.1 ∷ es) (under_more g ys x) | false ↦ under_more g ys x ]

within_more : (n : ℕ) (entries : List (ℕ × Entry)) (x : ℕ × Entry) → all_of (within n (entries ++ x ∷ [])) ≡ all_of (within n entries) ++ (if nat_lt x.0 n then x.1 ∷ [] else [])
within_more n [] x = elim (nat_lt x.0 n) as (λ b. map (λ (e : ℕ × Entry). e.1) (cond b (x ∷ []) []) ≡ (if b then x.1 ∷ [] else [])) [ true ↦ refl | false ↦ refl ]
within_more n (y ∷ ys) x =
    elim (nat_lt y.0 n) as (λ b. map (λ (e : ℕ × Entry). e.1) (cond b (y ∷ within n (ys ++ x ∷ [])) (within n (ys ++ x ∷ [])))
    ≡ map (λ (e : ℕ × Entry). e.1) (cond b (y ∷ within n ys) (within n ys)) ++ (if nat_lt x.0 n then x.1 ∷ [] else []))
    [ true ↦ ap (λ es. y.1 ∷ es) (within_more n ys x) | false ↦ within_more n ys x ]

-- what counts of some entries and perhaps one more
tallied_if : (b : Bool) (es : List Entry) (e : Entry) → tallied (es ++ (if b then e ∷ [] else [])) ≡ with_if b (tallied es) e
tallied_if true es e = tallied_more es e
tallied_if false es e = ap tallied (append-nil es)

-- the tally of a generation is written
put_at : (generation : ℕ) (entry : Entry) (old : List Tallied) → generation < length old
    → (g : ℕ) → tally_at (slice_set old generation (with_entry (tally_at old generation) entry)) g ≡ with_if (generation == g) (tally_at old g) entry
put_at generation entry old within g =
    let cases : (generation ≡ g) ⊎ ((g ≡ generation → ⊥) × (generation == g ≡ false)) = grind (arith, nat_tests) in
    elim cases [
      | inl same ↦ subst (λ k. tally_at (slice_set old generation (with_entry (tally_at old generation) entry)) k ≡ with_if (generation == k) (tally_at old k) entry) same
          (get_or-set_same old generation (with_entry (tally_at old generation) entry) none within
          ∙ (let itself : generation == generation ≡ true = grind (arith, nat_tests) in ap (λ b. with_if b (tally_at old generation) entry) (sym itself)))
      | inr other ↦ get_or-set_other old generation g (with_entry (tally_at old generation) entry) none other.0
          ∙ ap (λ b. with_if b (tally_at old g) entry) (sym other.1)
    ]

-- an entry more, of a generation that there is
list_more : {n : ℕ} {entries : List (ℕ × Entry)} (x : ℕ × Entry) {old : List Tallied} {all : Tallied} → x.0 < n → AreTallies n entries old all
    → AreTallies n (entries ++ x ∷ []) (slice_set old x.0 (with_entry (tally_at old x.0) x.1)) (with_entry all x.1)
list_more {n = n} {entries = entries} x {old = old} {all = all} below are = record {
  count = length-set old x.0 (with_entry (tally_at old x.0) x.1) ∙ are.count;
  each = λ g h.
      put_at x.0 x.1 old (let size = are.count in omega (arith, below, size)) g
      ∙ ap (λ t. with_if (x.0 == g) t x.1) (are.each g h)
      ∙ sym (tallied_if (x.0 == g) (under g entries) x.1)
      ∙ ap tallied (sym (under_more g entries x));
  all_are =
      ap (λ t. with_entry t x.1) are.all_are
      ∙ (let here : nat_lt x.0 n ≡ true = grind (arith, nat_tests) in ap (λ (b : Bool). with_if b (tallied (all_of (within n entries))) x.1) (sym here))
      ∙ sym (tallied_if (nat_lt x.0 n) (all_of (within n entries)) x.1)
      ∙ ap tallied (sym (within_more n entries x));
}

-- an entry more, of a generation that there isn't
list_stays : {n : ℕ} {entries : List (ℕ × Entry)} (x : ℕ × Entry) {old : List Tallied} {all : Tallied} → n ≤ x.0 → AreTallies n entries old all
    → AreTallies n (entries ++ x ∷ []) old all
list_stays {n = n} {entries = entries} x past are = record {
  count = are.count;
  each = λ g h.
      are.each g h
      ∙ (let other : x.0 == g ≡ false = grind (arith, nat_tests) in ap (λ (b : Bool). with_if b (tallied (under g entries)) x.1) (sym other))
      ∙ sym (tallied_if (x.0 == g) (under g entries) x.1)
      ∙ ap tallied (sym (under_more g entries x));
  all_are =
      are.all_are
      ∙ (let other : nat_lt x.0 n ≡ false = grind (arith, nat_tests) in ap (λ (b : Bool). with_if b (tallied (all_of (within n entries))) x.1) (sym other))
      ∙ sym (tallied_if (nat_lt x.0 n) (all_of (within n entries)) x.1)
      ∙ ap tallied (sym (within_more n entries x));
}

-- an entry more, where there is its generation
entry_more : (n : ℕ) (entries : List (ℕ × Entry)) (x : ℕ × Entry) (tallies : List Tallied) (all : Tallied) → AreTallies n entries tallies all
    → AreTallies n (entries ++ x ∷ []) (tallies_with tallies x) (all_with (length tallies) all x)
entry_more n entries x tallies all are =
    let put : List Tallied = slice_set tallies x.0 (with_entry (tally_at tallies x.0) x.1) in
    let size = are.count in
    by_test (nat_lt x.0 (length tallies)) refl
  where
    by_test : (b : Bool) → nat_lt x.0 (length tallies) ≡ b
        → AreTallies n (entries ++ x ∷ []) (if b then slice_set tallies x.0 (with_entry (tally_at tallies x.0) x.1) else tallies) (if b then with_entry all x.1 else all)
    by_test true e = list_more x (let size = are.count in grind (arith, nat_tests, size, e)) are
    by_test false e = list_stays x (let size = are.count in grind (arith, nat_tests, size, e)) are

-- nothing is counted yet
pub none_counted : (n : ℕ) (tallies : List Tallied) (all : Tallied) → tallies ≡ replicate n none → all ≡ none → AreTallies n [] tallies all
none_counted n tallies all are all_is = record {
  count = ap length are ∙ length-replicate n none;
  each = λ g h. ap (λ ts. tally_at ts g) are ∙ get_or-replicate n g none none h;
  all_are = all_is;
}

-- ---- one more can be counted

filtered_few : {X : Type 0} (p : X → Bool) (xs : List X) → length (filter p xs) ≤ length xs
filtered_few p [] = omega arith
filtered_few {X} p (x ∷ xs) = (let rest = filtered_few p xs in by_test (p x) rest)
  where
    by_test : (b : Bool) → length (filter p xs) ≤ length xs → length (cond b (x ∷ filter p xs) (filter p xs)) ≤ suc (length xs)
    by_test true rest = omega (arith, rest)
    by_test false rest = omega (arith, rest)

pub take_few : {X : Type 0} (n : ℕ) (xs : List X) → length (take n xs) ≤ n
take_few zero [] = omega arith
take_few zero (x ∷ xs) = omega arith
take_few (suc n) [] = omega arith
take_few (suc n) (x ∷ xs) = (let rest = take_few n xs in omega (arith, rest))

under_few : (g : ℕ) (entries : List (ℕ × Entry)) → length (under g entries) ≤ length entries
under_few g entries = (let same = length-map (filter (is_under g) entries) (λ (e : ℕ × Entry). e.1) in let few = filtered_few (is_under g) entries in omega (arith, same, few))

within_few : (n : ℕ) (entries : List (ℕ × Entry)) → length (all_of (within n entries)) ≤ length entries
within_few n entries = (let same = length-map (within n entries) (λ (e : ℕ × Entry). e.1) in let few = filtered_few (λ (e : ℕ × Entry). nat_lt e.0 n) entries in omega (arith, same, few))

-- as many count under a generation as entries at most, also where there isn't that generation
counted_under : {n : ℕ} {entries : List (ℕ × Entry)} {tallies : List Tallied} {all : Tallied} (e : Entry) (g : ℕ) → AreTallies n entries tallies all
    → counted_as e (tally_at tallies g) ≤ length entries
counted_under {n = n} {entries = entries} {tallies = tallies} e g are =
    let cases : (g < n) ⊎ (n ≤ g) = grind arith in
    elim cases [
      | inl here ↦ (let few = counted_few e (under g entries) in let more = under_few g entries in
          let is : counted_as e (tally_at tallies g) ≡ counted_as e (tallied (under g entries)) = ap (counted_as e) (are.each g here) in
          omega (arith, few, more, is))
      | inr past ↦ (let few = counted_few e [] in let size = are.count in
          let is : counted_as e (tally_at tallies g) ≡ counted_as e none = ap (counted_as e) (get_or_past tallies g none (omega (arith, past, size))) in
          omega (arith, few, is))
    ]

pub has_room : {n : ℕ} {entries : List (ℕ × Entry)} (log : Log) (x : ℕ × Entry) → length entries < 2 ^ 64 - 1 → AreTallies n entries (tallies_of log) (tally_of_all log)
    → HasRoom x log
has_room {n = n} {entries = entries} log x few are = record {
  under = (let most = counted_under x.1 x.0 are in omega (arith, few, most));
  all = (let most = counted_few x.1 (all_of (within n entries)) in let more = within_few n entries in
      let is : counted_as x.1 (tally_of_all log) ≡ counted_as x.1 (tallied (all_of (within n entries))) = ap (counted_as x.1) are.all_are in
      omega (arith, few, most, more, is));
}

-- a tally is written in the place of another
pub tally_written : {X : Type 0} (f : X → Tallied) (xs : List X) (k : ℕ) (x : X) (t : Tallied) → f x ≡ t → map f (slice_set xs k x) ≡ slice_set (map f xs) k t
tally_written f xs k x t e = map-set f xs k x ∙ ap (slice_set (map f xs) k) e

-- the tally at a place, as it is read
pub tally_read : {X : Type 0} (f : X → Tallied) (xs : List X) (k : ℕ) (x : X) → k < length xs → x ≡ get_or xs k x → f x ≡ tally_at (map f xs) k
tally_read f xs k x within at = ap f at ∙ sym (get_or-map f xs k x none within)

-- ---- a log

-- one entry more of a list
pub log_more : {n : ℕ} {entries : List (ℕ × Entry)} {i : ℕ} {x : ℕ × Entry} (old new : Log) → IsRead entries i x
    → AreTallies n (take i entries) (tallies_of old) (tally_of_all old) → tallies_of new ≡ tallies_with (tallies_of old) x
    → tally_of_all new ≡ all_with (length old.tallies.items) (tally_of_all old) x → AreTallies n (take (i + 1) entries) (tallies_of new) (tally_of_all new)
log_more {n = n} {entries = entries} {i = i} {x = x} old new read are tallies all =
    let same = length-map old.tallies.items tally_in in
    subst (λ ts. AreTallies n (take (i + 1) entries) ts (tally_of_all new)) (sym tallies)
    (subst (AreTallies n (take (i + 1) entries) (tallies_with (tallies_of old) x)) (sym (all ∙ ap (λ k. all_with k (tally_of_all old) x) (sym same)))
    (subst (λ es. AreTallies n es (tallies_with (tallies_of old) x) (all_with (length (tallies_of old)) (tally_of_all old) x)) (sym (take_read read))
    (entry_more n (take i entries) x (tallies_of old) (tally_of_all old) are)))

-- all entries are in it
pub log_done : (n : ℕ) (entries : List (ℕ × Entry)) (i : ℕ) (log : Log) → length entries ≤ i → AreTallies n (take i entries) (tallies_of log) (tally_of_all log)
    → IsLogOf n entries log
log_done n entries i log past are =
    let all : AreTallies n entries (tallies_of log) (tally_of_all log) = subst (λ es. AreTallies n es (tallies_of log) (tally_of_all log)) (take_all i entries past) are in
    record { count = sym (length-map log.tallies.items tally_in) ∙ all.count; each = all.each; all = all.all_are }
