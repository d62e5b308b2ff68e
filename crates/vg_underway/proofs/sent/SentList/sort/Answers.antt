use Rattle.std.proofs.Common.{rules, ◌≡◌, ◌<◌, ℕ, List, ◌∷◌, length, map, get_or, ap, ◌∙◌, subst, arith}
use Rattle.std.specs.List.Sorted.{IsPermutation, IsNonDecreasing, IsNonDecreasingBy}
use Rattle.std.proofs.lemmas.List.{get_or-map, length-map}
use Rattle.std.proofs.lemmas.List.Sorted.{All-permutation, IsPermutation-map, IsPermutation-trans, IsNonDecreasingBy-from_sort_by_key}
use Rattle.vg_underway.specs.declared.sent.SentEntry.{SentEntry}
use Rattle.vg_underway.specs.SentEntries.{entry_of, sent_in, IsIn}
use Rattle.vg_underway.proofs.sent.SentList.sort.Goals as goal

-- entries that are moved
moved_entries : (parts : List (List ℕ)) (old new : List SentEntry) (now : List (ℕ × List ℕ)) → sent_in old parts ≡ now → IsPermutation old new → IsPermutation now (sent_in new parts)
moved_entries parts old new now is moved = subst (λ (xs : List (ℕ × List ℕ)). IsPermutation xs (sent_in new parts)) is (IsPermutation-map (entry_of parts) old new moved)

-- the numbers of entries in order
numbers_rise : (parts : List (List ℕ)) (entries : List SentEntry) → IsNonDecreasingBy (λ (e : SentEntry). e.number) entries
    → IsNonDecreasing (map (λ (sent : ℕ × List ℕ). sent.0) (sent_in entries parts))
numbers_rise parts entries up i j d le lt =
    let none : SentEntry = record { number = 0; part = 0; len = 0; start = 0 } in
    let size : length (map (λ (sent : ℕ × List ℕ). sent.0) (sent_in entries parts)) ≡ length entries = length-map (sent_in entries parts) (λ (sent : ℕ × List ℕ). sent.0) ∙ length-map entries (entry_of parts) in
    let at : (k : ℕ) → k < length entries → get_or (map (λ (sent : ℕ × List ℕ). sent.0) (sent_in entries parts)) k d ≡ (get_or entries k none).number = λ k inside.
    get_or-map (λ (sent : ℕ × List ℕ). sent.0) (sent_in entries parts) k (entry_of parts none) d (let same = length-map entries (entry_of parts) in omega (arith, same, inside))
    ∙ ap (λ (sent : ℕ × List ℕ). sent.0) (get_or-map (entry_of parts) entries k none (entry_of parts none) inside) in
    let first = at i (omega (arith, le, lt, size)) in
    let last = at j (omega (arith, lt, size)) in
    let order = up i j none le (omega (arith, lt, size)) in
    omega (arith, first, last, order)

pub invariant_of-self : goal.invariant_of-self
invariant_of-self c =
    All-permutation (IsIn (c.self.inside.bytes.items ∷ map (λ part. part.items) c.self.inside.more.items)) _ _ c.sort_by_key.ensures.permutation c.self.invariant

pub returns-in-Ok-clause-same : goal.returns-in-Ok-clause-same
returns-in-Ok-clause-same c = moved_entries (c.self.inside.bytes.items ∷ map (λ part. part.items) c.self.inside.more.items) _ _ _ c.self.view_is c.sort_by_key.ensures.permutation

pub returns-in-Ok-clause-rising : goal.returns-in-Ok-clause-rising
returns-in-Ok-clause-rising c =
    numbers_rise (c.self.inside.bytes.items ∷ map (λ part. part.items) c.self.inside.more.items) _
    (IsNonDecreasingBy-from_sort_by_key (λ (e : SentEntry). e.number) _ c.in-Ok.ensures.sorted (λ a r q k. search rules))

pub invariant_of-self-in-Err : goal.invariant_of-self-in-Err
invariant_of-self-in-Err c =
    All-permutation (IsIn (c.self.inside.bytes.items ∷ map (λ part. part.items) c.self.inside.more.items)) _ _ c.sort_unstable_by_key.ensures.permutation
    (All-permutation (IsIn (c.self.inside.bytes.items ∷ map (λ part. part.items) c.self.inside.more.items)) _ _ c.sort_by_key.ensures.permutation c.self.invariant)

pub returns-in-Err-clause-same : goal.returns-in-Err-clause-same
returns-in-Err-clause-same c =
    moved_entries (c.self.inside.bytes.items ∷ map (λ part. part.items) c.self.inside.more.items) _ _ _ c.self.view_is
    (IsPermutation-trans _ _ _ c.sort_by_key.ensures.permutation c.sort_unstable_by_key.ensures.permutation)

pub returns-in-Err-clause-rising : goal.returns-in-Err-clause-rising
returns-in-Err-clause-rising c =
    numbers_rise (c.self.inside.bytes.items ∷ map (λ part. part.items) c.self.inside.more.items) _
    (IsNonDecreasingBy-from_sort_by_key (λ (e : SentEntry). e.number) _ c.sort_unstable_by_key.ensures.sorted (λ a r q k. search rules))
