-- For the clauses of `Trace::note`, `append_leg`, `merged_nodes` and `merge`: notes of packets, leg by leg.
use Rattle.std.proofs.Common.{◌≡◌, ℕ, zero, suc, ◌+◌, ◌<◌, ◌≤◌, true, cond, ◌&&◌, List, [], ◌∷◌, ◌++◌, length, get_or, take, map, refl, sym, ap, subst, ◌∙◌, inl, inr, arith}
use Rattle.std.specs.Prelude.{All, flat_map, nat_lt}
use Rattle.std.proofs.Math.ListN.{set}
use Rattle.std.proofs.lemmas.List.{map-set, map_push, get_or-map, get_or_push, get_or_append_left, get_or_past, length-map, length_push, take_all, take_more, flat_map_more}
use Rattle.std.proofs.lemmas.List.Elements.{All-weaker, All-tail}
use Rattle.std.proofs.lemmas.Bool.{lt-ltb, cases_lt}
use Rattle.vg_counters.specs.Notes.{Notes, most_noted, nodes_of, noted, all_legs, merged, AreOneLength, IsMerged}

-- the nodes of one leg, where the lists are seen through this
pub nodes_at : {X : Type 0} (items : X → List ℕ) (packets : List (List X)) (number leg : ℕ) (row : List X) (nodes : X) → number < length packets
    → row ≡ get_or packets number row → leg < length row → nodes ≡ get_or row leg nodes → nodes_of number leg (map (map items) packets) ≡ items nodes
nodes_at items packets number leg row nodes inside at in_row at_leg =
    ap (λ r. get_or r leg []) (get_or-map (map items) packets number row [] inside ∙ ap (map items) (sym at))
    ∙ get_or-map items row leg nodes [] in_row ∙ ap items (sym at_leg)

-- a node is noted where there is room
pub note_is : {X : Type 0} (items : X → List ℕ) (packets : List (List X)) (number leg node : ℕ) (row : List X) (nodes pushed : X) → number < length packets
    → row ≡ get_or packets number row → leg < length row → nodes ≡ get_or row leg nodes → length (items nodes) < most_noted
    → items pushed ≡ items nodes ++ node ∷ []
    → map (map items) (set packets number (set row leg pushed)) ≡ noted number leg node (map (map items) packets)
note_is items packets number leg node row nodes pushed inside at in_row at_leg room push =
    let notes : Notes = map (map items) packets in
    let here : get_or notes number [] ≡ map items row = get_or-map (map items) packets number row [] inside ∙ ap (map items) (sym at) in
    let there : nodes_of number leg notes ≡ items nodes = nodes_at items packets number leg row nodes inside at in_row at_leg in
    let known : nat_lt number (length notes) ≡ true = lt-ltb _ _ (omega (arith, length-map packets (map items), inside)) in
    let roomy : nat_lt (length (nodes_of number leg notes)) most_noted ≡ true = ap (λ ns. nat_lt (length ns) most_noted) there ∙ lt-ltb _ _ room in
    map-set (map items) packets number (set row leg pushed)
    ∙ ap (set notes number) (map-set items row leg pushed ∙ ap (set (map items row) leg) (push ∙ ap (λ ns. ns ++ node ∷ []) (sym there)) ∙ ap (λ r. set r leg (nodes_of number leg notes ++ node ∷ [])) (sym here))
    ∙ sym (ap (λ b. cond (b && nat_lt (length (nodes_of number leg notes)) most_noted) (set notes number (set (get_or notes number []) leg (nodes_of number leg notes ++ node ∷ []))) notes) known
    ∙ ap (λ b. cond b (set notes number (set (get_or notes number []) leg (nodes_of number leg notes ++ node ∷ []))) notes) roomy)

-- the nodes of one leg in one part more
pub append_more : (number leg k : ℕ) (parts : List Notes) (part : Notes) (before old new nodes : List ℕ) → k < length parts → part ≡ get_or parts k part
    → nodes ≡ nodes_of number leg part → before ≡ old ++ flat_map (nodes_of number leg) (take k parts) → new ≡ before ++ nodes
    → new ≡ old ++ flat_map (nodes_of number leg) (take (k + 1) parts)
append_more number leg k parts part before old new nodes inside at is so_far more =
    let f : Notes → List ℕ = nodes_of number leg in
    more ∙ ap (λ ns. ns ++ nodes) so_far ∙ ap (λ ns. (old ++ flat_map f (take k parts)) ++ ns) is
    ∙ flat_map_more f old (take k parts) part
    ∙ ap (λ ps. old ++ flat_map f ps) (ap (λ p. take k parts ++ p ∷ []) at ∙ sym (take_more parts k part inside))

-- the number of a leg is its place
leg_at : (leg : ℕ) → leg < 4 → get_or all_legs leg 0 ≡ leg
leg_at zero h = refl
leg_at (suc zero) h = refl
leg_at (suc (suc zero)) h = refl
leg_at (suc (suc (suc zero))) h = refl
leg_at (suc (suc (suc (suc n)))) h = absurd (omega (arith, h))

-- the nodes of one leg more
pub merged_more : (number leg : ℕ) (parts : List Notes) (before new : List ℕ) → leg < 4 → before ≡ flat_map (λ l. flat_map (nodes_of number l) parts) (take leg all_legs)
    → new ≡ before ++ flat_map (nodes_of number leg) parts → new ≡ flat_map (λ l. flat_map (nodes_of number l) parts) (take (leg + 1) all_legs)
merged_more number leg parts before new inside so_far more =
    let f : ℕ → List ℕ = λ l. flat_map (nodes_of number l) parts in
    let e : take (leg + 1) all_legs ≡ take leg all_legs ++ leg ∷ [] = take_more all_legs leg 0 inside ∙ ap (λ l. take leg all_legs ++ l ∷ []) (leg_at leg inside) in
    more ∙ ap (λ ns. ns ++ f leg) so_far ∙ flat_map_more f [] (take leg all_legs) leg ∙ ap (flat_map f) (sym e)

-- the nodes of all legs
pub merged_all : (number leg : ℕ) (parts : List Notes) (nodes : List ℕ) → 4 ≤ leg → nodes ≡ flat_map (λ l. flat_map (nodes_of number l) parts) (take leg all_legs)
    → nodes ≡ merged number parts
merged_all number leg parts nodes all is = is ∙ ap (flat_map (λ l. flat_map (nodes_of number l) parts)) (take_all leg all_legs all)

-- lists of the first packets, seen through this
pub record AreMergedBelow {X : Type 0} (items : X → List ℕ) (n : ℕ) (parts : List Notes) (lists : List X) : Type 0 where
  pub count : length lists ≡ n
  pub nodes : (k : ℕ) → k < n → get_or (map items lists) k [] ≡ merged k parts

-- of none
pub merged_none : {X : Type 0} (items : X → List ℕ) (parts : List Notes) → AreMergedBelow items 0 parts []
merged_none items parts = record { count = refl; nodes = λ k h. absurd (omega (arith, h)) }

-- of one more
pub merged_push : {X : Type 0} (items : X → List ℕ) (n : ℕ) (parts : List Notes) (before after : List X) (nodes : X) → items nodes ≡ merged n parts
    → after ≡ before ++ nodes ∷ [] → AreMergedBelow items n parts before → AreMergedBelow items (n + 1) parts after
merged_push items n parts before after nodes is push below = record {
  count = ap length push ∙ length_push before nodes ∙ ap (λ m. m + 1) below.count;
  nodes = λ k h. ap (λ xs. get_or (map items xs) k []) push ∙ ap (λ xs. get_or xs k []) (map_push items before nodes) ∙ elim (cases_lt k n) [
    | inl old ↦ get_or_append_left (map items before) (items nodes ∷ []) [] k (omega (arith, old, size, below.count)) ∙ below.nodes k old
    | inr new ↦ get_or_push (map items before) (items nodes) [] k (omega (arith, new, h, size, below.count)) ∙ is ∙ ap (λ m. merged m parts) (omega (arith, new, h))
  ];
}
  where
    size : length (map items before) ≡ length before
    size = length-map before items

-- no nodes are those of a packet that no part knows
merged_past : (number : ℕ) (parts : List Notes) → All (λ part. length part ≤ number) parts → merged number parts ≡ []
merged_past number parts past =
    let none : (leg : ℕ) → flat_map (nodes_of number leg) parts ≡ [] = λ leg. legs_past leg parts past in
    (λ i. none 0 i ++ (none 1 i ++ (none 2 i ++ (none 3 i ++ []))))
  where
    legs_past : (leg : ℕ) (ps : List Notes) → All (λ part. length part ≤ number) ps → flat_map (nodes_of number leg) ps ≡ []
    legs_past leg [] all = refl
    legs_past leg (p ∷ ps) all =
        ap (λ ns. ns ++ flat_map (nodes_of number leg) ps) (ap (λ row. get_or row leg []) (get_or_past p number [] (all 0 p (omega arith))))
        ∙ legs_past leg ps (All-tail (λ part. length part ≤ number) p ps all)

-- the lists of all packets
pub merged_whole : {X : Type 0} (items : X → List ℕ) (n k : ℕ) (parts : List Notes) (first : Notes) (lists : List X) → first ≡ get_or parts 0 first
    → AreOneLength parts → n ≡ length first → n ≤ k → k ≤ n → AreMergedBelow items k parts lists → IsMerged parts (map items lists)
merged_whole items n k parts first lists is_first sizes count low high below = record {
  packets = All-weaker (λ part. length part ≡ length first) (λ part. length (map items lists) ≡ length part) (λ part same. omega (arith, same, count, low, high, size, below.count)) parts one_length;
  nodes = λ number. elim (cases_lt number k) [
    | inl inside ↦ below.nodes number inside
    | inr outside ↦ get_or_past (map items lists) number [] (omega (arith, outside, size, below.count))
        ∙ sym (merged_past number parts (All-weaker (λ part. length part ≡ length first) (λ part. length part ≤ number) (λ part same. omega (arith, same, count, low, outside)) parts one_length))
  ];
}
  where
    size : length (map items lists) ≡ length lists
    size = length-map lists items

    one_length : All (λ part. length part ≡ length first) parts
    one_length = let P : Notes → Type 0 = λ t. All (λ part. length part ≡ length t) parts in subst P (sym is_first) (sizes first)

-- a packet of the first part is one of all parts
pub known_to_all : (number : ℕ) (parts : List Notes) (first : Notes) → first ≡ get_or parts 0 first → AreOneLength parts → number < length first
    → All (λ part. number < length part) parts
known_to_all number parts first is_first sizes inside =
    let P : Notes → Type 0 = λ t. All (λ part. length part ≡ length t) parts in
    All-weaker (λ part. length part ≡ length first) (λ part. number < length part) (λ part same. omega (arith, same, inside)) parts (subst P (sym is_first) (sizes first))
