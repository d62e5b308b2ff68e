-- For `Pool::settle`: caches are settled one after the other.
use Rattle.std.proofs.Common.{◌≡◌, ℕ, ◌+◌, ◌-◌, ◌≤◌, ◌⊎◌, inl, inr, ap, ◌∙◌, List, [], ◌∷◌, ◌++◌, length, min, arith}
use Rattle.std.specs.Prelude.{sum_by}
use Rattle.std.proofs.lemmas.List.Sums.{sum_by_push}
use Rattle.std.proofs.lemmas.List.{length-append}
use Rattle.std.proofs.lemmas.Bool.{cases_lt}
use Rattle.vg_model.specs.PoolBook.{CacheBook, IsCacheBook}
use Rattle.vg_pool.specs.Moves.{given_of}
use Rattle.vg_pool.specs.Settlement.{PoolState, most_told}

-- what a pool is once these caches gave their buffers back, and what their shares are together
pub record IsSettled (total : ℕ) (before after : PoolState) (caches : List CacheBook) (taken_parts taken given_parts given allocated : ℕ) : Type 0 where
  -- each cache has a part
  pub one_taken_each : taken_parts ≡ length caches
  pub one_given_each : given_parts ≡ length caches
  -- what went back counts in the shares, and in the pool's book
  pub share_taken : taken ≡ sum_by (λ c. c.taken) caches
  pub share_given : given + before.len ≡ sum_by (λ c. c.given) caches + after.len
  pub same_taken : after.taken ≡ before.taken
  pub book_given : after.given + before.len ≡ before.given + after.len
  pub kept : sum_by (λ c. c.len) caches + sum_by (λ c. c.given) caches + sum_by (λ c. c.allocated) caches
      ≡ sum_by (λ c. c.taken) caches + sum_by (λ c. c.freed) caches
  -- what the caches gave out is told, as far as a number of 64 bits can
  pub told : allocated ≡ min (sum_by (λ c. c.allocated) caches) most_told
  -- everything went back, or the pool is full
  pub fits : after.len ≤ total
  pub moved : after.len ≤ before.len + sum_by (λ c. c.len) caches
  pub full : (after.len ≡ total) ⊎ (after.len ≡ before.len + sum_by (λ c. c.len) caches)

-- all of it, or what there is room for
all_or_full : (total len before sum more : ℕ) → len ≤ total → (len ≡ total) ⊎ (len ≡ before + sum) → len ≤ before + sum
    → (len + min more (min more (total - len)) ≡ total) ⊎ (len + min more (min more (total - len)) ≡ before + (sum + more))
all_or_full total len before sum more fits (inl full) moved = inl (omega arith)
all_or_full total len before sum more fits (inr all) moved =
    elim (cases_lt (total - len) more) [ inl many ↦ inl (omega arith) | inr few ↦ inr (omega arith) ]

-- one more cache gives back what it has, or what there is room for
pub settle_one : (total : ℕ) (before between after : PoolState) (caches : List CacheBook) (cache : CacheBook) (moved taken_parts taken given_parts given allocated more : ℕ)
    → IsSettled total before between caches taken_parts taken given_parts given allocated → IsCacheBook cache → more ≡ min (allocated + cache.allocated) most_told → moved ≡ given_of total cache.len between cache
    → after ≡ record between { len = between.len + moved; given = between.given + moved }
    → IsSettled total before after (caches ++ cache ∷ []) (taken_parts + 1) (taken + cache.taken) (given_parts + 1) (given + (cache.given + moved)) more
settle_one total before between after caches cache moved taken_parts taken given_parts given allocated more s kept told count pool =
    let len = ap (λ p. p.len) pool in
    let book = ap (λ p. p.given) pool in
    let lens = sum_by_push (λ c. c.len) caches cache in
    let takens = sum_by_push (λ c. c.taken) caches cache in
    let givens = sum_by_push (λ c. c.given) caches cache in
    let allocateds = sum_by_push (λ c. c.allocated) caches cache in
    let freeds = sum_by_push (λ c. c.freed) caches cache in
    let longer = length-append caches (cache ∷ []) in
    record {
      one_taken_each = omega (arith, longer, s.one_taken_each);
      one_given_each = omega (arith, longer, s.one_given_each);
      share_taken = omega (arith, takens, s.share_taken);
      share_given = omega (arith, givens, s.share_given, len);
      same_taken = ap (λ p. p.taken) pool ∙ s.same_taken;
      book_given = omega (arith, book, len, s.book_given);
      kept = omega (arith, lens, takens, givens, allocateds, freeds, s.kept, kept);
      told = omega (arith, allocateds, s.told, told);
      fits = omega (arith, len, count, s.fits);
      moved = omega (arith, len, lens, count, s.moved);
      full = rw (len, count, lens) (all_or_full total between.len before.len (sum_by (λ c. c.len) caches) cache.len s.fits s.full s.moved);
    }
