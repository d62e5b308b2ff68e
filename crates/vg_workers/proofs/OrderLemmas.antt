-- For are_sent_in_order: lists in the order of their numbers.
use Rattle.std.proofs.Common.{◌≡◌, ℕ, ◌+◌, ◌<◌, ◌≤◌, List, length, get_or, ap, ◌∙◌, below_more, arith}
use Rattle.std.specs.Prelude.{map, slice_get, Some}
use Rattle.std.specs.List.Sorted.{IsNonDecreasing}
use Rattle.std.proofs.lemmas.List.Sorted.{IsNonDecreasingBy-from_default}
use Rattle.std.proofs.lemmas.List.{get_or-map}
use Rattle.std.proofs.lemmas.Option.{get_or_from_slice_get}

-- no number so far is above a later one, and none is above the least that the next may be
pub record AreSoFarInOrder (numbers : List ℕ) (n least : ℕ) : Type 0 where
  pub rise : (i j : ℕ) → i ≤ j → j < n → get_or numbers i 0 ≤ get_or numbers j 0
  pub below : (i : ℕ) → i < n → get_or numbers i 0 ≤ least

-- at the start there is none
pub none_in_order : (numbers : List ℕ) (least : ℕ) → AreSoFarInOrder numbers 0 least
none_in_order numbers least = record { rise = λ i j le lt. absurd (omega (arith, lt)); below = λ i lt. absurd (omega (arith, lt)) }

-- one more number
pub one_more_in_order : (numbers : List ℕ) (n least next : ℕ) → AreSoFarInOrder numbers n least → get_or numbers n 0 ≡ next → least ≤ next → AreSoFarInOrder numbers (n + 1) next
one_more_in_order numbers n least next so_far is le =
    let under : (i : ℕ) → i < n → get_or numbers i 0 ≤ next = λ i h. omega (arith, so_far.below i h, le) in
    let last : (i : ℕ) → i < n + 1 → get_or numbers i 0 ≤ get_or numbers n 0 =
    below_more (λ i. get_or numbers i 0 ≤ get_or numbers n 0) n (λ i h. omega (arith, under i h, is)) (omega arith) in
    record {
      rise = λ i j order inside.
          below_more (λ j. (i : ℕ) → i ≤ j → get_or numbers i 0 ≤ get_or numbers j 0) n (λ j h i order. so_far.rise i j order h) (λ i order. last i (omega (arith, order))) j inside i order;
      below = below_more (λ i. get_or numbers i 0 ≤ next) n under (omega (arith, is));
    }

-- all were in order
pub all_in_order : (numbers : List ℕ) (n least : ℕ) → AreSoFarInOrder numbers n least → n ≡ length numbers → IsNonDecreasing numbers
all_in_order numbers n least so_far whole = IsNonDecreasingBy-from_default (λ x. x) numbers 0 (λ i j order inside. so_far.rise i j order (omega (arith, whole, inside)))

-- the number of a packet that was sent
pub number_there : (sent : List (ℕ × List ℕ)) (k number : ℕ) (bytes : List ℕ) → k < length sent → slice_get sent k ≡ Some (number, bytes)
    → get_or (map (λ (packet : ℕ × List ℕ). packet.0) sent) k 0 ≡ number
number_there sent k number bytes inside found =
    get_or-map (λ (packet : ℕ × List ℕ). packet.0) sent k (number, bytes) 0 inside
    ∙ ap (λ (packet : ℕ × List ℕ). packet.0) (get_or_from_slice_get sent k (number, bytes) (number, bytes) found)
