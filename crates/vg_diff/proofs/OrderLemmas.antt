-- For the clauses of `late`, `late_behind` and of both ways to count what is reordered: one turn more, and the order by hashes alone.
use Rattle.std.proofs.Common.{◌≡◌, ℕ, zero, suc, ◌+◌, ◌<◌, Bool, true, false, true≢false, ◌&&◌, List, [], ◌∷◌, length, map, get_or, drop, refl, sym, ap, subst, ◌∙◌, add-one, arith, All, Bor, Option, Some, None}
use Rattle.std.specs.Bool.{◌==◌}
use Rattle.std.specs.Cmp.{unsigned_Decides}
use Rattle.std.specs.Cmp.Derive.{both_true}
use Rattle.std.specs.Cmp.Lexicographic.{slice_cmp}
use Rattle.std.specs.FinMap.{nat_cmp-IsAntisymmetric}
use Rattle.std.specs.List.Sorted.{IsSorted}
use Rattle.std.specs.Ordering.{nat_cmp, ordering_then, is_lt}
use Rattle.std.specs.declared.cmp.Ordering.{Ordering}
use Rattle.std.specs.declared.cmp.Ordering.TheVariants.{Less, Equal, Greater}
use Rattle.std.proofs.lemmas.Cmp.{nat_list_cmp_total, tied_itself}
use Rattle.std.proofs.lemmas.List.{get_or-map, length-map}
use Rattle.std.proofs.lemmas.List.Elements.{All-nil, All-cons, All-head, All-tail}
use Rattle.std.proofs.lemmas.Option.{slice_get-map}
use Rattle.std.specs.List.{slice_get}
use Rattle.std.specs.Option.{option_map, option_map_or}
use Rattle.std.proofs.lemmas.Slice.Eq.{bytes_eq-Decides}
use Rattle.std.proofs.Math.Seq.{drop-cons}
use Rattle.vg_match.specs.Hashes.{hash_of}
use Rattle.vg_diff.specs.declared.orders.Turn.{Turn}
use Rattle.vg_match.specs.Sides.{seen}
use Rattle.vg_diff.specs.Lines.{number_at, frame_at, file_of}
use Rattle.vg_diff.specs.Orders.{Coming, flow_of, flow_hash, AreFlowHashes, coming_of, turn_of, coming, coming_cmp, is_one_flow, late_behind}
use Rattle.vg_diff.specs.Orders.{IsHashed, AreTold, AreAllTold}

-- ---- one turn more

-- of turns with their flows, and of such without
module _ {Turns : Type 0} (coming_as : Turns → Coming) where
  pub late_more : (before : Coming) (latest : ℕ) (others : List Turns) (i : ℕ) (d : Turns) → i < length others
      → late_behind before latest (map coming_as (drop i others)) ≡ late_behind before latest (coming_as (get_or others i d) ∷ map coming_as (drop (i + 1) others))
  late_more before latest others i d below =
      ap (λ rest. late_behind before latest (map coming_as rest)) (drop-cons others i d below ∙ ap (λ j. get_or others i d ∷ drop j others) (sym (add-one i)))

-- ---- the hashes of the frames' flows

-- what stands behind no frame has no bytes, and its flow the hash 0
none_hashed : 0 ≡ flow_hash []
unfolding flow_of hash_of
none_hashed = refl

-- the hash of a frame's flow, or that of no frame's
hash_of_seen : (frame : Option (Bor (List ℕ)))
    → option_map_or (λ number. number) (option_map flow_hash (option_map (λ (f : Bor (List ℕ)). f.now) frame)) 0 ≡ flow_hash (option_map_or (λ (f : Bor (List ℕ)). f.now) frame [])
hash_of_seen None = none_hashed
hash_of_seen (Some frame) = refl

-- the hash at a frame's place is that of its flow
hash_beside : (frames : List (Bor (List ℕ))) (hashes : List ℕ) → AreFlowHashes frames hashes → (n : ℕ) → number_at hashes n ≡ flow_hash (frame_at frames n)
hash_beside frames hashes are n =
    ap (λ all. number_at all n) are
    ∙ ap (λ found. option_map_or (λ number. number) found 0) (slice_get-map flow_hash (seen frames) n ∙ ap (option_map flow_hash) (slice_get-map (λ (f : Bor (List ℕ)). f.now) frames n))
    ∙ hash_of_seen (slice_get frames n)

-- a packet that came
abbrev came : (file hash : ℕ) → (flow : List ℕ) → (got wanted : ℕ) → Coming
came file hash flow got wanted = record { file = file; hash = hash; flow = flow; got = got; wanted = wanted }

module _ (frames : List (Bor (List ℕ))) (hashes starts : List ℕ) (are : AreFlowHashes frames hashes) where
  -- the packet of a pair is that with its flow
  coming_turn : (pair : ℕ × ℕ) → coming frames (turn_of hashes starts pair) ≡ coming_of frames starts pair
  coming_turn pair = ap (λ hash. came (file_of starts pair.1) hash (flow_of (frame_at frames pair.0)) pair.1 pair.0) (hash_beside frames hashes are pair.0)

  pub coming_turns : (pairs : List (ℕ × ℕ)) → map (coming frames) (map (turn_of hashes starts) pairs) ≡ map (coming_of frames starts) pairs
  coming_turns [] = refl
  coming_turns (pair ∷ pairs) =
      ap (λ first. first ∷ map (coming frames) (map (turn_of hashes starts) pairs)) (coming_turn pair) ∙ ap (λ others. coming_of frames starts pair ∷ others) (coming_turns pairs)

  -- and its hash is that of its flow
  pub turns_hashed : (pairs : List (ℕ × ℕ)) → All (IsHashed frames) (map (turn_of hashes starts) pairs)
  turns_hashed [] = All-nil (IsHashed frames)
  turns_hashed (pair ∷ pairs) = All-cons (IsHashed frames) (turn_of hashes starts pair) (map (turn_of hashes starts) pairs) (hash_beside frames hashes are pair.0) (turns_hashed pairs)

-- ---- one flow

-- a test that can't be true is false
not_true : (b : Bool) → (b ≡ true → ⊥) → false ≡ b
not_true false none = refl
not_true true none = absurd (none refl)

both_hold : (a b : Bool) → (a && b) ≡ true → (a ≡ true) × (b ≡ true)
both_hold true b both = (refl, both)
both_hold false b both = absurd (true≢false (sym both))

-- where the savefiles or the hashes differ, the flows do
pub apart : (frames : List (Bor (List ℕ))) (one other : Turn) → IsHashed frames one → IsHashed frames other → (one.file ≡ other.file → one.hash ≡ other.hash → ⊥)
    → false ≡ is_one_flow (coming frames one) (coming frames other)
apart frames one other hashed too differ =
    not_true _ (λ same.
    let both = both_hold (one.file == other.file) _ same in
    let flows : flow_of (frame_at frames one.wanted) ≡ flow_of (frame_at frames other.wanted) = (bytes_eq-Decides _ _).0 both.1 in
    differ ((unsigned_Decides one.file other.file).0 both.0) (hashed ∙ ap hash_of flows ∙ sym too))

-- where savefile and flow are the same
pub together : (frames : List (Bor (List ℕ))) (one other : Turn) → one.file ≡ other.file → flow_of (frame_at frames one.wanted) ≡ flow_of (frame_at frames other.wanted)
    → true ≡ is_one_flow (coming frames one) (coming frames other)
together frames one other file flow = sym (both_true ((unsigned_Decides one.file other.file).1 file) ((bytes_eq-Decides _ _).1 flow))

-- of what has hashes, the first has one, and so have the others
pub first_hashed : (frames : List (Bor (List ℕ))) (turns : List Turn) (first : Turn) (others : List Turn) → turns ≡ first ∷ others → All (IsHashed frames) turns → IsHashed frames first
first_hashed frames turns first others are all = All-head (IsHashed frames) first others (subst (All (IsHashed frames)) are all)

pub others_hashed : (frames : List (Bor (List ℕ))) (turns : List Turn) (first : Turn) (others : List Turn) → turns ≡ first ∷ others → All (IsHashed frames) turns → All (IsHashed frames) others
others_hashed frames turns first others are all = All-tail (IsHashed frames) first others (subst (All (IsHashed frames)) are all)

-- ---- in order

-- what is in order by what a function makes of each makes a list in order
pub sorted_map : {X Y : Type 0} (f : X → Y) (cmp : Y → Y → Ordering) (xs : List X) → IsSorted (λ (a b : X). cmp (f a) (f b)) xs → IsSorted cmp (map f xs)
sorted_map f cmp [] sorted = λ k d from below. absurd (omega (arith, below))
sorted_map f cmp (x ∷ xs) sorted = λ k d from below.
    let within : k + 1 < length (x ∷ xs) = subst (λ n. k + 1 < n) (length-map (x ∷ xs) f) below in
    let here : k < length (x ∷ xs) = omega (arith, within) in
    subst (λ a. is_lt (cmp a (get_or (map f (x ∷ xs)) k d)) ≡ false) (sym (get_or-map f (x ∷ xs) (k + 1) x d within))
    (subst (λ b. is_lt (cmp (f (get_or (x ∷ xs) (k + 1) x)) b) ≡ false) (sym (get_or-map f (x ∷ xs) k x d here)) (sorted k x from within))

-- by savefile, the hash of the flow, and as they came
abbrev pub turn_cmp : Turn → Turn → Ordering
turn_cmp one other =
    ordering_then (nat_cmp one.file other.file)
    (ordering_then (nat_cmp one.hash other.hash) (ordering_then (nat_cmp one.got other.got) (nat_cmp one.wanted other.wanted)))

-- an order between is not asked where those before it decide
order_between : (file hash flow rest : Ordering) → (file ≡ Equal → hash ≡ Equal → flow ≡ Equal) → is_lt (ordering_then file (ordering_then hash rest)) ≡ false
    → is_lt (ordering_then file (ordering_then hash (ordering_then flow rest))) ≡ false
order_between Less hash flow rest same low = low
order_between Greater hash flow rest same low = low
order_between Equal Less flow rest same low = low
order_between Equal Greater flow rest same low = low
order_between Equal Equal flow rest same low = subst (λ o. is_lt (ordering_then o rest) ≡ false) (sym (same refl refl)) low

-- of each and the next
told_at : (frames : List (Bor (List ℕ))) (turns : List Turn) → AreAllTold frames turns → (k : ℕ) (d : Turn) → suc k < length turns
    → AreTold frames (get_or turns k d) (get_or turns (suc k) d)
told_at frames [] told k d below = absurd (omega (arith, below))
told_at frames (before ∷ []) told k d below = absurd (omega (arith, below))
told_at frames (before ∷ (next ∷ others)) told zero d below = told.0
told_at frames (before ∷ (next ∷ others)) told (suc k) d below = told_at frames (next ∷ others) told.1 k d (omega (arith, below))

-- where each and the next of one savefile and hash are of one flow, the order by hashes alone is the order by flows
pub told_sorted : (frames : List (Bor (List ℕ))) (turns : List Turn) → IsSorted turn_cmp turns → AreAllTold frames turns
    → IsSorted (λ (one other : Turn). coming_cmp (coming frames one) (coming frames other)) turns
told_sorted frames [] sorted told = λ k d from below. absurd (omega (arith, below))
told_sorted frames (first ∷ others) sorted told = λ k d from below.
    let a : Turn = get_or (first ∷ others) (k + 1) d in
    let b : Turn = get_or (first ∷ others) k d in
    let behind : suc k < length (first ∷ others) = omega (arith, below) in
    let both : AreTold frames b a = subst (λ j. AreTold frames b (get_or (first ∷ others) j d)) (sym (add-one k)) (told_at frames (first ∷ others) told k d behind) in
    order_between (nat_cmp a.file b.file) (nat_cmp a.hash b.hash) (slice_cmp nat_cmp (flow_of (frame_at frames a.wanted)) (flow_of (frame_at frames b.wanted)))
    (ordering_then (nat_cmp a.got b.got) (nat_cmp a.wanted b.wanted))
    (λ file hash.
    let same : flow_of (frame_at frames b.wanted) ≡ flow_of (frame_at frames a.wanted) = both (sym (nat_cmp-IsAntisymmetric a.file b.file file)) (sym (nat_cmp-IsAntisymmetric a.hash b.hash hash)) in
    ap (slice_cmp nat_cmp (flow_of (frame_at frames a.wanted))) same ∙ tied_itself nat_list_cmp_total (flow_of (frame_at frames a.wanted)))
    (sorted k d from below)
