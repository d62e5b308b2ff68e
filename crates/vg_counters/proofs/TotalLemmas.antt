-- For the clause of `total`: totals, part by part.
use Rattle.std.proofs.Common.{◌≡◌, ℕ, ◌+◌, ◌<◌, ◌≤◌, ◌^◌, List, [], length, get_or, take, refl, sym, ap, subst, ◌∙◌, inl, inr, arith}
use Rattle.std.specs.Prelude.{All, slice_index, sum_by, replicate}
use Rattle.std.proofs.lemmas.List.{take_all, length-replicate, get_or_past, get_or-replicate}
use Rattle.std.proofs.lemmas.List.Elements.{All-replicate, All-weaker}
use Rattle.std.proofs.lemmas.List.Sums.{sum_by_more, sum_by_more_le}
use Rattle.std.proofs.lemmas.Bool.{cases_lt}
use Rattle.vg_counters.specs.Tally.{Tally, count_of_errors, drops_at, nothing_counted, IsWhole, IsSameSize, AreOneSize, HasRoom, HasRoomFor, IsSum, IsTotal}

-- the total of the first parts
pub record IsTotalBelow (k : ℕ) (parts : List Tally) (whole : Tally) : Type 0 where
  pub size : All (λ part. IsSameSize part whole) parts
  pub is_whole : IsWhole whole
  pub visits : (node : ℕ) → slice_index whole.visits node ≡ sum_by (λ part. slice_index part.visits node) (take k parts)
  pub drops : (node error : ℕ) → drops_at node error whole.drops ≡ sum_by (λ part. drops_at node error part.drops) (take k parts)
  pub sends : (interface : ℕ) → slice_index whole.sends interface ≡ sum_by (λ part. slice_index part.sends interface) (take k parts)

-- zeros are 0 at any place
zeros_at : (n k : ℕ) → slice_index (replicate n 0) k ≡ 0
zeros_at n k = elim (cases_lt k n) [
  | inl below ↦ get_or-replicate n k 0 0 below
  | inr above ↦ get_or_past (replicate n 0) k 0 (omega (arith, above, length-replicate {A = ℕ} n 0))
]

-- so are rows of them
rows_of_zeros_at : (n m k e : ℕ) → drops_at k e (replicate n (replicate m 0)) ≡ 0
rows_of_zeros_at n m k e = elim (cases_lt k n) [
  | inl below ↦ ap (λ row. get_or row e 0) (get_or-replicate n k (replicate m 0) [] below) ∙ zeros_at m e
  | inr above ↦ ap (λ row. get_or row e 0) (get_or_past (replicate n (replicate m 0)) k [] (omega (arith, above, length-replicate {A = List ℕ} n (replicate {A = ℕ} m 0))))
]

-- nothing counted is whole
whole_nothing : (nodes interfaces : ℕ) → IsWhole (nothing_counted nodes interfaces)
whole_nothing nodes interfaces = record {
  rows = length-replicate nodes (replicate count_of_errors 0) ∙ sym (length-replicate nodes 0);
  errors = All-replicate (λ row. length row ≡ count_of_errors) nodes (replicate count_of_errors 0) refl;
}

-- and the total of no part
pub total_none : (parts : List Tally) (first : Tally) (nodes interfaces : ℕ) (whole : Tally) → first ≡ get_or parts 0 first → AreOneSize parts
    → nodes ≡ length first.visits → interfaces ≡ length first.sends → whole ≡ nothing_counted nodes interfaces → IsTotalBelow 0 parts whole
total_none parts first nodes interfaces whole is_first sizes of_nodes of_interfaces is =
    subst (IsTotalBelow 0 parts) (sym is) (record {
      size = All-weaker (IsSameSize first) (λ part. IsSameSize part (nothing_counted nodes interfaces))
          (λ part same. record {
            nodes = length-replicate nodes 0 ∙ of_nodes ∙ sym same.nodes;
            interfaces = length-replicate interfaces 0 ∙ of_interfaces ∙ sym same.interfaces;
          })
          parts (let P : Tally → Type 0 = λ t. All (IsSameSize t) parts in subst P (sym is_first) (sizes first));
      is_whole = whole_nothing nodes interfaces;
      visits = λ n. zeros_at nodes n;
      drops = λ n e. rows_of_zeros_at nodes count_of_errors n e;
      sends = λ n. zeros_at interfaces n;
    })

-- there is room for the next part
pub room_for_next : (k : ℕ) (parts : List Tally) (part whole : Tally) → k < length parts → part ≡ get_or parts k part → HasRoom parts → IsTotalBelow k parts whole
    → HasRoomFor whole part
room_for_next k parts part whole inside is room below = record {
  visits = λ n. next (λ p. slice_index p.visits n) (slice_index whole.visits n) (room.visits n) (below.visits n);
  drops = λ n e. next (λ p. drops_at n e p.drops) (drops_at n e whole.drops) (room.drops n e) (below.drops n e);
  sends = λ n. next (λ p. slice_index p.sends n) (slice_index whole.sends n) (room.sends n) (below.sends n);
}
  where
    next : (f : Tally → ℕ) (so_far : ℕ) → sum_by f parts < 2 ^ 63 → so_far ≡ sum_by f (take k parts) → so_far + f part < 2 ^ 64
    next f so_far small same = omega (arith, same, small, sum_by_more_le f parts k part inside, ap f is)

-- the next part has the size of the total
pub size_of_next : (k : ℕ) (parts : List Tally) (part whole : Tally) → k < length parts → part ≡ get_or parts k part → IsTotalBelow k parts whole → IsSameSize part whole
size_of_next k parts part whole inside is below = subst (λ p. IsSameSize p whole) (sym is) (below.size k part inside)

-- the total with the next part
pub total_more : (k : ℕ) (parts : List Tally) (part before whole : Tally) → k < length parts → part ≡ get_or parts k part → IsTotalBelow k parts before
    → IsSum before part whole → IsTotalBelow (k + 1) parts whole
total_more k parts part before whole inside is below added = record {
  size = All-weaker (λ p. IsSameSize p before) (λ p. IsSameSize p whole)
      (λ p same. record { nodes = added.size.nodes ∙ same.nodes; interfaces = added.size.interfaces ∙ same.interfaces })
      parts below.size;
  is_whole = added.is_whole;
  visits = λ n. next (λ p. slice_index p.visits n) (slice_index before.visits n) (slice_index whole.visits n) (below.visits n) (added.visits n);
  drops = λ n e. next (λ p. drops_at n e p.drops) (drops_at n e before.drops) (drops_at n e whole.drops) (below.drops n e) (added.drops n e);
  sends = λ n. next (λ p. slice_index p.sends n) (slice_index before.sends n) (slice_index whole.sends n) (below.sends n) (added.sends n);
}
  where
    next : (f : Tally → ℕ) (so_far sum : ℕ) → so_far ≡ sum_by f (take k parts) → sum ≡ so_far + f part → sum ≡ sum_by f (take (k + 1) parts)
    next f so_far sum same more = omega (arith, same, more, sum_by_more f parts k part inside, ap f is)

-- the total of all parts
pub total_all : (k : ℕ) (parts : List Tally) (whole : Tally) → length parts ≤ k → IsTotalBelow k parts whole → IsTotal parts whole
total_all k parts whole all below = subst (λ ps. IsTotal ps whole) (take_all k parts all) (record {
  size = subst (All (λ part. IsSameSize part whole)) (sym (take_all k parts all)) below.size;
  is_whole = below.is_whole;
  visits = below.visits;
  drops = below.drops;
  sends = below.sends;
})
