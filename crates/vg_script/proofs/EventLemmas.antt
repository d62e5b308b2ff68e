-- For `events_are_in_order` and `events_are_few`: the order of events.
use Rattle.std.proofs.Common.{◌≡◌, ◌==◌, ◌⊎◌, ℕ, zero, suc, ◌+◌, ◌*◌, ◌<◌, ◌≤◌, Bool, true, false, cond, ◌&&◌, List, [], ◌∷◌, ◌++◌, length, map, get_or, refl, sym, ap, subst, ◌∙◌, arith, inl, inr, length-append}
use Rattle.std.specs.Prelude.{flat_map, sum_by, IsPermutation}
use Rattle.std.specs.Cmp.{IsStrictWeakOrder}
use Rattle.std.specs.List.{AllByRecursion, AllPairs, IsDistinct}
use Rattle.std.specs.List.Sorted.{IsSortedBy}
use Rattle.std.proofs.Math.Nat.{mul-le-mul, mul-le-mul_right}
use Rattle.std.proofs.lemmas.Bool.Decides.{nat_tests}
use Rattle.std.proofs.lemmas.List.Elements.{All-from_recursion, recursion_from_All}
use Rattle.std.proofs.lemmas.List.Kept.{AllPairs-from_increasing}
use Rattle.std.proofs.lemmas.List.Sums.{sum_by-cons}
use Rattle.std.proofs.lemmas.Map.Keys.{IsDistinct-head, IsDistinct-tail, IsDistinct-cons, IsDistinct-IsPermutation, apart_from_distinct}
use Rattle.vg_model.specs.declared.edits.EditLine.{EditLine}
use Rattle.std.proofs.lemmas.List.Sorted.{IsPermutation-refl, IsPermutation-sym, IsPermutation-trans, IsPermutation-cons, IsPermutation-middle, All-permutation, length_permutation, sorted_far}
use Rattle.vg_script.specs.declared.scripts.Block.{Block}
use Rattle.vg_script.specs.declared.scripts.Block.TheVariants.{At, Process}
use Rattle.vg_script.specs.declared.scripts.Script.{Script}
use Rattle.vg_script.specs.Events.{Event, comes_before, put, in_order, runs, events_of, events, group_of}
use Rattle.vg_script.specs.EventOrder.{AreInOrder, AreStrictlyInOrder, AreOfBlocks, EventsAreInOrder, EventsAreOfBlocks, EventsAreCounted, EventsAreStrictlyInOrder, OrderIsUnique, EventsAreFew, EventsAreSoon}
use Rattle.vg_script.specs.Lawful.{IsLawfulBlock, block_line, block_events, IsLawful}
use Rattle.vg_script.proofs.RoundTripLines.{each-append, each-weaker}

-- the two stand in one place of a script
abbrev pub same_place : Event → Event → Bool
same_place a b = a.line == b.line && a.occurrence == b.occurrence

-- of two events one comes first, or neither does
one_way : (a b : Event) → comes_before a b ≡ true → comes_before b a ≡ false
one_way a b h = grind (arith, nat_tests, h)

chain : (a b c : Event) → comes_before a b ≡ false → comes_before b c ≡ false → comes_before a c ≡ false
chain a b c h k = grind (arith, nat_tests, h, k)

-- of two in different places one comes first
pub one_first : (a b : Event) → comes_before b a ≡ false → same_place a b ≡ false → comes_before a b ≡ true
one_first a b h k = grind (arith, nat_tests, h, k)

pub same_place_flips : (a b : Event) → same_place a b ≡ same_place b a
same_place_flips a b = by_test (same_place a b) (same_place b a) refl refl
  where
    by_test : (s t : Bool) → same_place a b ≡ s → same_place b a ≡ t → s ≡ t
    by_test true true h k = refl
    by_test false false h k = refl
    by_test true false h k = absurd (grind (arith, nat_tests, h, k))
    by_test false true h k = absurd (grind (arith, nat_tests, h, k))

pub order : IsStrictWeakOrder comes_before
order = record { one_way = one_way; chain = chain }

-- the events stay, in another order
put_by : (e other : Event) (others : List Event) → IsPermutation (e ∷ others) (put e others) → (b : Bool)
    → IsPermutation (e ∷ other ∷ others) (cond b (e ∷ other ∷ others) (other ∷ put e others))
put_by e other others rest true = IsPermutation-refl (e ∷ other ∷ others)
put_by e other others rest false =
    IsPermutation-trans (e ∷ other ∷ others) (other ∷ e ∷ others) (other ∷ put e others) (IsPermutation-middle (e ∷ []) other others)
    (IsPermutation-cons other (e ∷ others) (put e others) rest)

pub put_moves : (e : Event) (es : List Event) → IsPermutation (e ∷ es) (put e es)
put_moves e [] = IsPermutation-refl (e ∷ [])
put_moves e (other ∷ others) = put_by e other others (put_moves e others) (comes_before e other)

pub in_order_moves : (es : List Event) → IsPermutation es (in_order es)
in_order_moves [] = IsPermutation-refl []
in_order_moves (e ∷ es) =
    IsPermutation-trans (e ∷ es) (e ∷ in_order es) (put e (in_order es)) (IsPermutation-cons e es (in_order es) (in_order_moves es)) (put_moves e (in_order es))

-- what holds of an event and of others holds of them all, once it is put in its place
each_put : (P : Event → Type 0) (e : Event) (es : List Event) → P e → AllByRecursion P es → AllByRecursion P (put e es)
each_put P e [] p h = (p, tt)
each_put P e (other ∷ others) p h = by_test (comes_before e other) (each_put P e others p h.1)
  where
    by_test : (b : Bool) → AllByRecursion P (put e others) → AllByRecursion P (cond b (e ∷ other ∷ others) (other ∷ put e others))
    by_test true rest = (p, h)
    by_test false rest = (h.0, rest)

-- none comes before one in front of it
abbrev Sorted : List Event → Type 0
Sorted [] = Unit {0}
Sorted (e ∷ es) = AllByRecursion (λ other. comes_before other e ≡ false) es × Sorted es

put_sorted : (e : Event) (es : List Event) → Sorted es → Sorted (put e es)
put_sorted e [] h = (tt, tt)
put_sorted e (other ∷ others) h = by_test (comes_before e other) refl (put_sorted e others h.1)
  where
    by_test : (b : Bool) → comes_before e other ≡ b → Sorted (put e others) → Sorted (cond b (e ∷ other ∷ others) (other ∷ put e others))
    by_test true first rest =
        let behind : comes_before other e ≡ false = one_way e other first in
        ((behind, each-weaker (λ x. comes_before x other ≡ false) (λ x. comes_before x e ≡ false) (λ x k. chain x other e k behind) others h.0), h)
    by_test false later rest = (each_put (λ x. comes_before x other ≡ false) e others later h.0, rest)

in_order_sorted : (es : List Event) → Sorted (in_order es)
in_order_sorted [] = tt
in_order_sorted (e ∷ es) = put_sorted e (in_order es) (in_order_sorted es)

-- so none comes before the one in front of it, by their places
each_at : (P : Event → Type 0) (es : List Event) (k : ℕ) (d : Event) → k < length es → AllByRecursion P es → P (get_or es k d)
each_at P es k d h each = All-from_recursion P es each k d h

sorted_places : (es : List Event) → Sorted es → (k : ℕ) (d : Event) → suc k < length es → comes_before (get_or es (suc k) d) (get_or es k d) ≡ false
sorted_places [] h k d within = absurd (omega (arith, within))
sorted_places (e ∷ es) h zero d within = each_at (λ other. comes_before other e ≡ false) es 0 d (omega (arith, within)) h.0
sorted_places (e ∷ es) h (suc k) d within = sorted_places es h.1 k d (omega (arith, within))

pub in_order_is_sorted : (es : List Event) → IsSortedBy comes_before (in_order es)
in_order_is_sorted es k d low within =
    let one : suc k ≡ k + 1 = omega arith in
    subst (λ n. comes_before (get_or (in_order es) n d) (get_or (in_order es) k d) ≡ false) one
    (sorted_places (in_order es) (in_order_sorted es) k d (omega (arith, within)))

-- the events of a block are as many as it asks for
pub length-runs : (line every count : ℕ) (groups : List (List EditLine)) → length (runs line every count groups) ≡ count
length-runs line every zero groups = refl
length-runs line every (suc k) groups =
    let so_far = length-runs line every k groups in
    let last : Event = record { time = suc k * every; line = line; occurrence = suc k; edits = group_of groups (suc k) } in
    let more : length (runs line every k groups ++ last ∷ []) ≡ length (runs line every k groups) + 1 = length-append (runs line every k groups) (last ∷ []) in
    omega (arith, so_far, more)

pub length-events_of : (block : Block) → length (events_of block) ≡ block_events block
length-events_of (At line time edits) = refl
length-events_of (Process line name every count groups) = length-runs line every count groups

length-all : (bs : List Block) → length (flat_map events_of bs) ≡ sum_by block_events bs
length-all [] = refl
length-all (b ∷ bs) =
    let one = length-events_of b in
    let rest = length-all bs in
    let both : length (events_of b ++ flat_map events_of bs) ≡ length (events_of b) + length (flat_map events_of bs) = length-append (events_of b) (flat_map events_of bs) in
    let sum : sum_by block_events (b ∷ bs) ≡ block_events b + sum_by block_events bs = sum_by-cons block_events b bs in
    omega (arith, one, rest, both, sum)

pub events_are_in_order : EventsAreInOrder
events_are_in_order script = in_order_is_sorted (flat_map events_of script.blocks)

pub events_are_of_blocks : EventsAreOfBlocks
events_are_of_blocks script = in_order_moves (flat_map events_of script.blocks)

pub events_are_counted : EventsAreCounted
events_are_counted script =
    length_permutation (flat_map events_of script.blocks) (events script) (events_are_of_blocks script) ∙ length-all script.blocks

-- the events of a block are of its line, and their occurrences go from 1
run_places : (line every count : ℕ) (groups : List (List EditLine))
    → AllByRecursion (λ e. (e.line ≡ line) × (e.occurrence ≤ count)) (runs line every count groups)
run_places line every zero groups = tt
run_places line every (suc k) groups =
    each-append (λ e. (e.line ≡ line) × (e.occurrence ≤ suc k)) (runs line every k groups) (_ ∷ [])
    (each-weaker (λ e. (e.line ≡ line) × (e.occurrence ≤ k)) (λ e. (e.line ≡ line) × (e.occurrence ≤ suc k)) (λ e p. (p.0, omega (arith, p.1))) (runs line every k groups)
    (run_places line every k groups))
    ((refl, omega arith), tt)

pub event_lines : (b : Block) → AllByRecursion (λ e. e.line ≡ block_line b) (events_of b)
event_lines (At line time edits) = (refl, tt)
event_lines (Process line name every count groups) =
    each-weaker (λ e. (e.line ≡ line) × (e.occurrence ≤ count)) (λ e. e.line ≡ line) (λ e p. p.0) (runs line every count groups)
    (run_places line every count groups)

-- events in different places
distinct_append : (xs ys : List Event) → IsDistinct same_place xs → IsDistinct same_place ys
    → AllByRecursion (λ x. AllByRecursion (λ y. same_place x y ≡ false) ys) xs → IsDistinct same_place (xs ++ ys)
distinct_append [] ys h k apart = k
distinct_append (x ∷ xs) ys h k apart =
    IsDistinct-cons same_place x (xs ++ ys)
    (each-append (λ y. same_place x y ≡ false) xs ys (IsDistinct-head same_place x xs h) apart.0)
    (distinct_append xs ys (IsDistinct-tail same_place x xs h) k apart.1)

distinct_one : (e : Event) → IsDistinct same_place (e ∷ [])
unfolding IsDistinct
distinct_one e = (tt, tt)

distinct_none : IsDistinct same_place []
unfolding IsDistinct
distinct_none = tt

distinct_runs : (line every count : ℕ) (groups : List (List EditLine)) → IsDistinct same_place (runs line every count groups)
distinct_runs line every zero groups = distinct_none
distinct_runs line every (suc k) groups =
    let last : Event = record { time = suc k * every; line = line; occurrence = suc k; edits = group_of groups (suc k) } in
    distinct_append (runs line every k groups) (last ∷ []) (distinct_runs line every k groups) (distinct_one last)
    (each-weaker (λ e. (e.line ≡ line) × (e.occurrence ≤ k)) (λ x. AllByRecursion (λ y. same_place x y ≡ false) (last ∷ [])) (λ e p. (later line k e p.0 p.1, tt)) (runs line every k groups)
    (run_places line every k groups))
  where
    later : (line k : ℕ) (e : Event) → e.line ≡ line → e.occurrence ≤ k → (e.line == line && e.occurrence == suc k) ≡ false
    later line k e same few = grind (arith, nat_tests, few)

distinct_block : (b : Block) → IsDistinct same_place (events_of b)
distinct_block (At line time edits) = distinct_one (record { time = time; line = line; occurrence = 1; edits = edits })
distinct_block (Process line name every count groups) = distinct_runs line every count groups

-- events of blocks on lines that rise
later_lines : (line : ℕ) (bs : List Block) → AllByRecursion (λ b. line < block_line b) bs → AllByRecursion (λ e. line < e.line) (flat_map events_of bs)
later_lines line [] h = tt
later_lines line (b ∷ bs) h =
    each-append (λ e. line < e.line) (events_of b) (flat_map events_of bs)
    (each-weaker (λ e. e.line ≡ block_line b) (λ e. line < e.line) (λ e same. omega (arith, same, h.0)) (events_of b) (event_lines b))
    (later_lines line bs h.1)

abbrev Rise : List Block → Type 0
Rise [] = Unit {0}
Rise (b ∷ bs) = AllByRecursion (λ other. block_line b < block_line other) bs × Rise bs

distinct_all : (bs : List Block) → Rise bs → IsDistinct same_place (flat_map events_of bs)
distinct_all [] h = distinct_none
distinct_all (b ∷ bs) h =
    distinct_append (events_of b) (flat_map events_of bs) (distinct_block b) (distinct_all bs h.1)
    (each-weaker (λ e. e.line ≡ block_line b) (λ x. AllByRecursion (λ y. same_place x y ≡ false) (flat_map events_of bs))
    (λ x same. each-weaker (λ y. block_line b < y.line) (λ y. same_place x y ≡ false) (λ y less. apart x y (omega (arith, same, less))) (flat_map events_of bs) (later_lines (block_line b) bs h.0))
    (events_of b) (event_lines b))
  where
    apart : (x y : Event) → x.line < y.line → same_place x y ≡ false
    apart x y less = grind (arith, nat_tests, less)

each_mapped : (P : ℕ → Type 0) (bs : List Block) → AllByRecursion P (map block_line bs) → AllByRecursion (λ b. P (block_line b)) bs
each_mapped P [] h = tt
each_mapped P (b ∷ bs) h = (h.0, each_mapped P bs h.1)

rise_from : (bs : List Block) → AllPairs (λ x y. x < y) (map block_line bs) → Rise bs
rise_from [] h = tt
rise_from (b ∷ bs) h = (
  each_mapped (λ n. block_line b < n) bs
      (recursion_from_All (λ n. block_line b < n) (map block_line bs) (λ k d within. h zero (suc k) d (omega arith) (omega (arith, within)))),
  rise_from bs (λ i j d less within. h (suc i) (suc j) d (omega (arith, less)) (omega (arith, within))),
)

pub distinct_events : (script : Script) → IsLawful script → IsDistinct same_place (flat_map events_of script.blocks)
distinct_events script h =
    distinct_all script.blocks (rise_from script.blocks (AllPairs-from_increasing (map block_line script.blocks) h.rising))

-- events in different places, none before the one in front of it: each is before all behind it
strictly : (es : List Event) → IsDistinct same_place es → IsSortedBy comes_before es → AreStrictlyInOrder es
strictly es distinct sorted i j d less within =
    one_first (get_or es i d) (get_or es j d) (sorted_far comes_before order es sorted i j d (omega (arith, less)) within)
    (apart_from_distinct same_place es i j d distinct less within)

-- in whatever order the events of a lawful script are, they are in different places
pub distinct_of_blocks : (script : Script) → IsLawful script → (es : List Event) → AreOfBlocks script es → IsDistinct same_place es
distinct_of_blocks script h es moved =
    IsDistinct-IsPermutation same_place same_place_flips (flat_map events_of script.blocks) es moved (distinct_events script h)

pub strictly_of_blocks : (script : Script) → IsLawful script → (es : List Event) → AreOfBlocks script es → AreInOrder es → AreStrictlyInOrder es
strictly_of_blocks script h es moved sorted = strictly es (distinct_of_blocks script h es moved) sorted

pub events_are_strictly_in_order : EventsAreStrictlyInOrder
events_are_strictly_in_order script h = strictly_of_blocks script h (events script) (events_are_of_blocks script) (events_are_in_order script)

-- an event is one of these
abbrev In : Event → List Event → Type 0
In e [] = ⊥
In e (other ∷ others) = (e ≡ other) ⊎ In e others

in_each : (P : Event → Type 0) (es : List Event) (e : Event) → AllByRecursion P es → In e es → P e
in_each P [] e h (at) = absurd at
in_each P (other ∷ others) e h (inl same) = subst P (sym same) h.0
in_each P (other ∷ others) e h (inr at) = in_each P others e h.1 at

each_in : (es all : List Event) → ((e : Event) → In e es → In e all) → AllByRecursion (λ e. In e all) es
each_in [] all h = tt
each_in (e ∷ es) all h = (h e (inl refl), each_in es all (λ x at. h x (inr at)))

moved_in : (xs ys : List Event) → IsPermutation xs ys → (e : Event) → In e ys → In e xs
moved_in xs ys moved e at =
    in_each (λ e. In e xs) ys e
    (recursion_from_All (λ e. In e xs) ys (All-permutation (λ e. In e xs) xs ys moved (All-from_recursion (λ e. In e xs) xs (each_in xs xs (λ e at. at))))) at

-- each comes before all behind it
abbrev Rising : List Event → Type 0
Rising [] = Unit {0}
Rising (e ∷ es) = AllByRecursion (λ other. comes_before e other ≡ true) es × Rising es

rising_from : (es : List Event) → AreStrictlyInOrder es → Rising es
rising_from [] h = tt
rising_from (e ∷ es) h = (
  recursion_from_All (λ other. comes_before e other ≡ true) es (λ k d within. h zero (suc k) d (omega arith) (omega (arith, within))),
  rising_from es (λ i j d less within. h (suc i) (suc j) d (omega (arith, less)) (omega (arith, within))),
)

not_before_itself : (e : Event) → comes_before e e ≡ true → ⊥
not_before_itself e h = grind (arith, nat_tests, h)

-- two such lists of the same events are one
same_first : (x y : Event) (xs ys : List Event) → Rising (x ∷ xs) → Rising (y ∷ ys) → In x (y ∷ ys) → In y (x ∷ xs) → x ≡ y
same_first x y xs ys h k (inl same) back = same
same_first x y xs ys h k (inr there) (inl same) = sym same
same_first x y xs ys h k (inr there) (inr back) =
    let one : comes_before y x ≡ true = in_each (λ e. comes_before y e ≡ true) ys x k.0 there in
    let two : comes_before x y ≡ true = in_each (λ e. comes_before x e ≡ true) xs y h.0 back in
    let not : comes_before x y ≡ false = one_way y x one in
    absurd cc

-- those behind the first are the same
in_rest : (x y : Event) (xs ys : List Event) → x ≡ y → Rising (x ∷ xs) → ((e : Event) → In e (x ∷ xs) → In e (y ∷ ys)) → (e : Event) → In e xs → In e ys
in_rest x y xs ys same h f e at = by_place (f e (inr at))
  where
    by_place : In e (y ∷ ys) → In e ys
    by_place (inr there) = there
    by_place (inl this) =
        let before : comes_before x e ≡ true = in_each (λ e. comes_before x e ≡ true) xs e h.0 at in
        let itself : comes_before x x ≡ true = subst (λ z. comes_before x z ≡ true) (this ∙ sym same) before in
        absurd (not_before_itself x itself)

same_rising : (xs ys : List Event) → Rising xs → Rising ys → ((e : Event) → In e xs → In e ys) → ((e : Event) → In e ys → In e xs) → xs ≡ ys
same_rising [] [] h k f g = refl
same_rising [] (y ∷ ys) h k f g = absurd (g y (inl refl))
same_rising (x ∷ xs) [] h k f g = absurd (f x (inl refl))
same_rising (x ∷ xs) (y ∷ ys) h k f g =
    let same : x ≡ y = same_first x y xs ys h k (f x (inl refl)) (g y (inl refl)) in
    ap (λ e. e ∷ xs) same ∙ ap (λ es. y ∷ es) (same_rising xs ys h.1 k.1 (in_rest x y xs ys same h f) (in_rest y x ys xs (sym same) k g))

-- two orders of the same events, each strictly in order, are one
pub one_order : (xs ys : List Event) → IsPermutation xs ys → AreStrictlyInOrder xs → AreStrictlyInOrder ys → ys ≡ xs
one_order xs ys moved h k =
    same_rising ys xs (rising_from ys k) (rising_from xs h) (moved_in xs ys moved) (moved_in ys xs (IsPermutation-sym xs ys moved))

-- events in different places, put in order: strictly, whatever their order was, and the first of all in front
pub in_order_strictly : (es : List Event) → IsDistinct same_place es → AreStrictlyInOrder (in_order es)
in_order_strictly es distinct =
    strictly (in_order es) (IsDistinct-IsPermutation same_place same_place_flips es (in_order es) (in_order_moves es) distinct) (in_order_is_sorted es)

pub in_order-moved : (xs ys : List Event) → IsPermutation xs ys → IsDistinct same_place xs → in_order ys ≡ in_order xs
in_order-moved xs ys moved distinct =
    one_order (in_order xs) (in_order ys)
    (IsPermutation-trans (in_order xs) xs (in_order ys) (IsPermutation-sym xs (in_order xs) (in_order_moves xs)) (IsPermutation-trans xs ys (in_order ys) moved (in_order_moves ys)))
    (in_order_strictly xs distinct)
    (in_order_strictly ys (IsDistinct-IsPermutation same_place same_place_flips xs ys moved distinct))

put_first : (e : Event) (es : List Event) → AllByRecursion (λ other. comes_before e other ≡ true) es → put e es ≡ e ∷ es
put_first e [] h = refl
put_first e (other ∷ others) h = ap (λ b. cond b (e ∷ other ∷ others) (other ∷ put e others)) h.0

pub first_in_order : (e : Event) (xs ys : List Event) → IsPermutation xs (e ∷ ys) → IsDistinct same_place xs
    → AllByRecursion (λ other. comes_before e other ≡ true) ys → in_order xs ≡ e ∷ in_order ys
first_in_order e xs ys moved distinct first =
    sym (in_order-moved xs (e ∷ ys) moved distinct)
    ∙ put_first e (in_order ys)
    (recursion_from_All (λ other. comes_before e other ≡ true) (in_order ys)
    (All-permutation (λ other. comes_before e other ≡ true) ys (in_order ys) (in_order_moves ys)
    (All-from_recursion (λ other. comes_before e other ≡ true) ys first)))

pub order_is_unique : OrderIsUnique
order_is_unique script h es moved sorted =
    let all = flat_map events_of script.blocks in
    one_order (events script) es
    (IsPermutation-trans (events script) all es (IsPermutation-sym all (events script) (events_are_of_blocks script)) moved)
    (events_are_strictly_in_order script h) (strictly_of_blocks script h es moved sorted)

-- the events of a lawful script are few, and their times small
pub events_are_few : EventsAreFew
events_are_few script h =
    let same = events_are_counted script in
    let few = h.events in
    omega (arith, same, few)

run_times : (line every count : ℕ) (groups : List (List EditLine)) → AllByRecursion (λ e. e.time ≤ count * every) (runs line every count groups)
run_times line every zero groups = tt
run_times line every (suc k) groups =
    each-append (λ e. e.time ≤ suc k * every) (runs line every k groups) (_ ∷ [])
    (each-weaker (λ e. e.time ≤ k * every) (λ e. e.time ≤ suc k * every) (λ e p. later e p) (runs line every k groups) (run_times line every k groups))
    (omega arith, tt)
  where
    later : (e : Event) → e.time ≤ k * every → e.time ≤ suc k * every
    later e p =
        let more : k * every ≤ suc k * every = mul-le-mul_right every (omega arith) in
        omega (arith, p, more)

block_times : (b : Block) → IsLawfulBlock b → AllByRecursion (λ e. e.time ≤ 999000000000000) (events_of b)
block_times (At line time edits) h = (omega (arith, h.0), tt)
block_times (Process line name every count groups) h =
    let most : count * every ≤ 999 * 1000000000000 = mul-le-mul h.3 h.1 in
    each-weaker (λ e. e.time ≤ count * every) (λ e. e.time ≤ 999000000000000) (λ e p. omega (arith, p, most)) (runs line every count groups)
    (run_times line every count groups)

all_times : (bs : List Block) → AllByRecursion IsLawfulBlock bs → AllByRecursion (λ e. e.time ≤ 999000000000000) (flat_map events_of bs)
all_times [] h = tt
all_times (b ∷ bs) h =
    each-append (λ e. e.time ≤ 999000000000000) (events_of b) (flat_map events_of bs) (block_times b h.0) (all_times bs h.1)

pub events_are_soon : EventsAreSoon
events_are_soon script h =
    All-permutation (λ e. e.time ≤ 999000000000000) (flat_map events_of script.blocks) (events script) (events_are_of_blocks script)
    (All-from_recursion (λ e. e.time ≤ 999000000000000) (flat_map events_of script.blocks) (all_times script.blocks (recursion_from_All IsLawfulBlock script.blocks h.blocks)))
