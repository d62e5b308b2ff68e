-- For `Tally` and `log_of`: one entry more.
use Rattle.std.proofs.Common.{◌≡◌, ℕ, ◌+◌, ◌≤◌, Bool, true, false, ◌==◌, cond, List, [], ◌∷◌, ◌++◌, length, refl, sym, ap, ◌∙◌, arith}
use Rattle.std.specs.Prelude.{Some, None, nat_lt, count_by, unwrap_or, if◌then◌else◌}
use Rattle.std.specs.BTreeMap as maps
use Rattle.std.specs.declared.cmp.Ordering.{Ordering}
use Rattle.std.specs.declared.cmp.Ordering.TheVariants.{Less, Equal, Greater}
use Rattle.std.specs.Cmp.{IsTotalOrder}
use Rattle.std.specs.Ordering.{is_eq, nat_cmp}
use Rattle.std.proofs.lemmas.Bool.{false≢true}
use Rattle.std.proofs.lemmas.Bool.Decides.{nat_tests}
use Rattle.std.proofs.lemmas.List.Sums.{sum_by-cons, sum_by-append}
use Rattle.vg_model.specs.declared.fates.End.TheVariants as ends
use Rattle.vg_model.specs.declared.kinds.DropError.{DropError}
use Rattle.vg_model.specs.declared.routes.Prefix.{Prefix}
use Rattle.vg_model.specs.declared.routes.Prefix6.{Prefix6}
use Rattle.vg_model.specs.Errors.{error_number}
use Rattle.vg_ways.specs.contracts.keys.KeyOrd.TheImpl.Laws.{total-law}
use Rattle.vg_ways.specs.declared.entries.Entry.{Entry}
use Rattle.vg_ways.specs.declared.entries.Entry.TheVariants as entries
use Rattle.vg_ways.specs.declared.keys.Key.{Key}
use Rattle.vg_ways.specs.declared.keys.Key.TheVariants as keys
use Rattle.vg_ways.specs.declared.tallies.Tally.{Tally}
use Rattle.vg_ways.specs.Entries.{is_began, is_matched, is_matched6, is_left, is_left_alone, is_tx, is_dropped}
use Rattle.vg_ways.specs.Tallied.{tallied, one_if, with_entry, counted_as}
use Rattle.vg_ways.specs.Tallies.{key_cmp, key_of, count_in, tally_in, AddsOne}
use Rattle.vg_ways.proofs.LineLemmas.{is_key}

-- ---- which entries count for a key

is_number : (a b : ℕ) → is_eq (nat_cmp a b) ≡ (a == b)
is_number a b = by_tests (nat_lt a b) (a == b) (λ e. grind (arith, nat_tests))
  where
    by_tests : (less same : Bool) → (less ≡ true → same ≡ false) → is_eq (cond less Less (cond same Equal Greater)) ≡ same
    by_tests true same h = sym (h refl)
    by_tests false true h = refl
    by_tests false false h = refl

for_began : (e : Entry) → is_eq (key_cmp (key_of e) keys.Began) ≡ is_began e
for_began entries.Began = refl
for_began (entries.Matched p) = refl
for_began (entries.Matched6 p) = refl
for_began (entries.Left (Some n)) = refl
for_began (entries.Left None) = refl
for_began (entries.Ended (ends.Tx i)) = refl
for_began (entries.Ended (ends.Dropped n error)) = refl

for_matched : (prefix : Prefix) (e : Entry) → is_eq (key_cmp (key_of e) (keys.Matched prefix.addr prefix.len)) ≡ is_matched prefix e
for_matched prefix entries.Began = refl
for_matched prefix (entries.Matched p) = is_key p.addr prefix.addr p.len prefix.len
for_matched prefix (entries.Matched6 p) = refl
for_matched prefix (entries.Left (Some n)) = refl
for_matched prefix (entries.Left None) = refl
for_matched prefix (entries.Ended (ends.Tx i)) = refl
for_matched prefix (entries.Ended (ends.Dropped n error)) = refl

for_matched6 : (prefix : Prefix6) (e : Entry) → is_eq (key_cmp (key_of e) (keys.Matched6 prefix.addr prefix.len)) ≡ is_matched6 prefix e
for_matched6 prefix entries.Began = refl
for_matched6 prefix (entries.Matched p) = refl
for_matched6 prefix (entries.Matched6 p) = is_key p.addr prefix.addr p.len prefix.len
for_matched6 prefix (entries.Left (Some n)) = refl
for_matched6 prefix (entries.Left None) = refl
for_matched6 prefix (entries.Ended (ends.Tx i)) = refl
for_matched6 prefix (entries.Ended (ends.Dropped n error)) = refl

for_left : (neighbor : ℕ) (e : Entry) → is_eq (key_cmp (key_of e) (keys.Left neighbor)) ≡ is_left neighbor e
for_left neighbor entries.Began = refl
for_left neighbor (entries.Matched p) = refl
for_left neighbor (entries.Matched6 p) = refl
for_left neighbor (entries.Left (Some n)) = is_number n neighbor
for_left neighbor (entries.Left None) = refl
for_left neighbor (entries.Ended (ends.Tx i)) = refl
for_left neighbor (entries.Ended (ends.Dropped n error)) = refl

for_alone : (e : Entry) → is_eq (key_cmp (key_of e) keys.Alone) ≡ is_left_alone e
for_alone entries.Began = refl
for_alone (entries.Matched p) = refl
for_alone (entries.Matched6 p) = refl
for_alone (entries.Left (Some n)) = refl
for_alone (entries.Left None) = refl
for_alone (entries.Ended (ends.Tx i)) = refl
for_alone (entries.Ended (ends.Dropped n error)) = refl

for_sent : (interface : ℕ) (e : Entry) → is_eq (key_cmp (key_of e) (keys.Sent interface)) ≡ is_tx interface e
for_sent interface entries.Began = refl
for_sent interface (entries.Matched p) = refl
for_sent interface (entries.Matched6 p) = refl
for_sent interface (entries.Left (Some n)) = refl
for_sent interface (entries.Left None) = refl
for_sent interface (entries.Ended (ends.Tx i)) = is_number i interface
for_sent interface (entries.Ended (ends.Dropped n error)) = refl

for_dropped : (node : ℕ) (by : DropError) (e : Entry) → is_eq (key_cmp (key_of e) (keys.Dropped node (error_number by))) ≡ is_dropped node by e
for_dropped node by entries.Began = refl
for_dropped node by (entries.Matched p) = refl
for_dropped node by (entries.Matched6 p) = refl
for_dropped node by (entries.Left (Some n)) = refl
for_dropped node by (entries.Left None) = refl
for_dropped node by (entries.Ended (ends.Tx i)) = refl
for_dropped node by (entries.Ended (ends.Dropped n error)) = is_key n node (error_number error) (error_number by)

-- ---- one more for a key

is_equal : (o : Ordering) → is_eq o ≡ true → o ≡ Equal
is_equal Less e = absurd (false≢true e)
is_equal Equal e = refl
is_equal Greater e = absurd (false≢true e)

total : IsTotalOrder key_cmp
total = total-law

-- equal keys have the same count
same_count : (tally : Tally) (key other : Key) → is_eq (key_cmp key other) ≡ true → count_in tally key ≡ count_in tally other
same_count tally key other e =
    let same : key_cmp key ≡ key_cmp other = λ i k. total.congr key other k (is_equal (key_cmp key other) e) i in
    ap (λ compare. unwrap_or (maps.get_by compare tally.counts) 0) same

count_with : (old new : Tally) (key other : Key) (b : Bool) → is_eq (key_cmp key other) ≡ b → AddsOne key old new → count_in new other ≡ count_in old other + (if b then 1 else 0)
count_with old new key other true e adds = adds other ∙ ap (λ (b : Bool). if b then count_in old key + 1 else count_in old other) e ∙ ap (λ k. k + 1) (same_count old key other e)
count_with old new key other false e adds =
    adds other ∙ ap (λ (b : Bool). if b then count_in old key + 1 else count_in old other) e ∙ (let c = count_in old other in let none : c ≡ c + 0 = omega arith in none)

-- one entry more
pub tally_more : (old new : Tally) (e : Entry) → AddsOne (key_of e) old new → tally_in new ≡ with_entry (tally_in old) e
tally_more old new e adds =
    let more : (other : Key) (b : Bool) → is_eq (key_cmp (key_of e) other) ≡ b → count_in new other ≡ count_in old other + (if b then 1 else 0) =
    λ other b is. count_with old new (key_of e) other b is adds in
    λ i. record {
      began = more keys.Began (is_began e) (for_began e) i;
      matched = λ prefix. more (keys.Matched prefix.addr prefix.len) (is_matched prefix e) (for_matched prefix e) i;
      matched6 = λ prefix. more (keys.Matched6 prefix.addr prefix.len) (is_matched6 prefix e) (for_matched6 prefix e) i;
      left = λ neighbor. more (keys.Left neighbor) (is_left neighbor e) (for_left neighbor e) i;
      alone = more keys.Alone (is_left_alone e) (for_alone e) i;
      sent = λ interface. more (keys.Sent interface) (is_tx interface e) (for_sent interface e) i;
      dropped = λ node error. more (keys.Dropped node (error_number error)) (is_dropped node error e) (for_dropped node error e) i;
    }

-- what counts for the same as an entry is what is kept for its key
pub counted_key : (e : Entry) (tally : Tally) → counted_as e (tally_in tally) ≡ count_in tally (key_of e)
counted_key entries.Began tally = refl
counted_key (entries.Matched p) tally = refl
counted_key (entries.Matched6 p) tally = refl
counted_key (entries.Left (Some n)) tally = refl
counted_key (entries.Left None) tally = refl
counted_key (entries.Ended (ends.Tx i)) tally = refl
counted_key (entries.Ended (ends.Dropped n error)) tally = refl

-- ---- one more of some entries

count_more : (p : Entry → Bool) (es : List Entry) (e : Entry) → count_by p (es ++ e ∷ []) ≡ count_by p es + one_if p e
count_more p es e =
    sum_by-append (λ x. cond (p x) 1 0) es (e ∷ [])
    ∙ ap (λ k. count_by p es + k) (let one = sum_by-cons (λ x. cond (p x) 1 0) e [] in let single : count_by p (e ∷ []) ≡ one_if p e = omega (arith, one) in single)

pub tallied_more : (es : List Entry) (e : Entry) → tallied (es ++ e ∷ []) ≡ with_entry (tallied es) e
tallied_more es e i = record {
  began = count_more is_began es e i;
  matched = λ prefix. count_more (is_matched prefix) es e i;
  matched6 = λ prefix. count_more (is_matched6 prefix) es e i;
  left = λ neighbor. count_more (is_left neighbor) es e i;
  alone = count_more is_left_alone es e i;
  sent = λ interface. count_more (is_tx interface) es e i;
  dropped = λ node error. count_more (is_dropped node error) es e i;
}

at_most_one : (b : Bool) → cond b 1 0 ≤ 1
at_most_one true = omega arith
at_most_one false = omega arith

count_few : (p : Entry → Bool) (es : List Entry) → count_by p es ≤ length es
count_few p [] = omega arith
count_few p (e ∷ es) =
    (let cons = sum_by-cons (λ x. cond (p x) 1 0) e es in let one = at_most_one (p e) in let rest = count_few p es in omega (arith, cons, one, rest))

-- no more count for the same as an entry than there are
pub counted_few : (e : Entry) (es : List Entry) → counted_as e (tallied es) ≤ length es
counted_few entries.Began es = count_few is_began es
counted_few (entries.Matched p) es = count_few (is_matched p) es
counted_few (entries.Matched6 p) es = count_few (is_matched6 p) es
counted_few (entries.Left (Some n)) es = count_few (is_left n) es
counted_few (entries.Left None) es = count_few is_left_alone es
counted_few (entries.Ended (ends.Tx i)) es = count_few (is_tx i) es
counted_few (entries.Ended (ends.Dropped n error)) es = count_few (is_dropped n error) es
