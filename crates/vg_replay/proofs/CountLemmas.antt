-- For the clauses of `count` and the functions that it calls: what is counted.
use Rattle.std.proofs.Common.{◌≡◌, ℕ, zero, suc, ◌+◌, ◌<◌, ◌≤◌, ◌^◌, cond, ◌&&◌, List, [], ◌∷◌, ◌++◌, length, get_or, take, refl, sym, ap, subst, ◌∙◌, inl, inr, arith}
use Rattle.std.specs.Prelude.{◌==◌, slice_index, slice_get, slice_set, unwrap_or, option_map, Option, Some, if◌then◌else◌, All, replicate}
use Rattle.std.specs.List.{AllByRecursion, sum_by}
use Rattle.std.proofs.Math.ListN.{length-set}
use Rattle.std.proofs.lemmas.List.{get_or-set_same, get_or-set_other, length-replicate}
use Rattle.std.proofs.lemmas.List.Sums.{sum_by-append, sum_by-set, sum_by_push, count_by-le-length}
use Rattle.std.proofs.lemmas.Option.{get_or_from_slice_get, slice_get_within}
use Rattle.std.proofs.lemmas.Bool.Decides.{eqb_tells}
use Rattle.vg_model.specs.declared.kinds.DropError.{DropError}
use Rattle.vg_model.specs.declared.kinds.DropError.TheVariants as errors
use Rattle.vg_model.specs.declared.fates.End.{End}
use Rattle.vg_model.specs.declared.fates.End.TheVariants.{Tx, Dropped}
use Rattle.vg_model.specs.Errors.{error_number}
use Rattle.vg_model.specs.Edit.{most_nodes, most_interfaces}
use Rattle.vg_model.specs.Graph.{error_drop}
use Rattle.vg_model.specs.Journey.{Journey, Choice, Course, end_of}
use Rattle.vg_model.specs.Count.{trace, drop_visit, is_drop, is_sent_on}
use Rattle.vg_counters.specs.Tally.{Tally, IsWhole, count_of_errors, more_at, drops_at, one_drop_more, nothing_counted}
use Rattle.vg_replay.specs.Counts.{generations_at, journey_at, counted, visits_of, drops_of, sends_of, AreCountsOf, IsEndWithin, CanVisit, CanEnd, CanCount, AddsVisits, Adds}
use Rattle.vg_replay.specs.Tasks.{Task}

-- an error has a place in the order
pub error_within : (e : DropError) → error_number e < count_of_errors
error_within errors.Short = omega arith
error_within errors.TooLong = omega arith
error_within errors.UnknownType = omega arith
error_within errors.WrongMac = omega arith
error_within errors.BadVersion = omega arith
error_within errors.BadHeaderLength = omega arith
error_within errors.BadLength = omega arith
error_within errors.BadChecksum = omega arith
error_within errors.TtlZero = omega arith
error_within errors.Unchecked = omega arith
error_within errors.NoRoute = omega arith
error_within errors.RouteDrop = omega arith
error_within errors.Local = omega arith
error_within errors.TtlExpired = omega arith
error_within errors.MtuExceeded = omega arith
error_within errors.InterfaceDown = omega arith
error_within errors.Congestion = omega arith
error_within errors.HandoffLimit = omega arith
error_within errors.Blackhole = omega arith

-- a count that grew, at its place and elsewhere
pub more_at_read : (counts : List ℕ) (place k x : ℕ) → place < length counts → slice_index (more_at place k counts) x ≡ slice_index counts x + (if place == x then k else 0)
more_at_read counts place k x within = elim (eqb_tells place x) [
  | inl same ↦
      ap (slice_index (more_at place k counts)) (sym same.1) ∙ get_or-set_same counts place (slice_index counts place + k) 0 within
      ∙ ap (λ y. slice_index counts y + k) same.1 ∙ ap (λ b. slice_index counts x + cond b k 0) (sym same.0)
  | inr other ↦
      let left : slice_index (more_at place k counts) x ≡ slice_index counts x = get_or-set_other counts place x (slice_index counts place + k) 0 (λ e. other.1 (sym e)) in
      let right : (if place == x then k else 0) ≡ 0 = ap (λ b. cond b k 0) other.0 in
      omega (arith, left, right)
]

-- the rows of drops are whole
row_whole : (rows : List (List ℕ)) (node : ℕ) → node < length rows → All (λ row. length row ≡ count_of_errors) rows → length (get_or rows node []) ≡ count_of_errors
row_whole rows node within all = all node [] within

drops_more : (drops : List (List ℕ)) (node error n x : ℕ) → node < length drops → error < count_of_errors → All (λ row. length row ≡ count_of_errors) drops
    → drops_at n x (one_drop_more node error drops) ≡ drops_at n x drops + (if node == n && error == x then 1 else 0)
drops_more drops node error n x within place whole = elim (eqb_tells node n) [
  | inl same ↦
      let row = get_or drops node [] in
      let there : get_or (one_drop_more node error drops) n [] ≡ more_at error 1 row = ap (λ k. get_or (one_drop_more node error drops) k []) (sym same.1) ∙ get_or-set_same drops node (more_at error 1 row) [] within in
      let size : length row ≡ count_of_errors = row_whole drops node within whole in
      let inside : error < length row = omega (arith, size, place) in
      ap (λ r. slice_index r x) there ∙ more_at_read row error 1 x inside
      ∙ ap (λ k. slice_index (get_or drops k []) x + (if error == x then 1 else 0)) same.1
      ∙ ap (λ b. drops_at n x drops + cond (b && error == x) 1 0) (sym same.0)
  | inr other ↦
      let left : drops_at n x (one_drop_more node error drops) ≡ drops_at n x drops =
      ap (λ r. slice_index r x) (get_or-set_other drops node n (more_at error 1 (get_or drops node [])) [] (λ e. other.1 (sym e))) in
      let right : ◌≡◌ {A = ℕ} (if node == n && error == x then 1 else 0) 0 = ap (λ b. cond (b && error == x) 1 0) other.0 in
      omega (arith, left, right)
]

-- no visit
pub visits_none : (tally : Tally) → AddsVisits [] tally tally
visits_none tally = record {
  size = record { nodes = refl; interfaces = refl };
  visits_are = λ node. omega arith;
  drops = refl;
  sends = refl;
}

-- one visit more
pub visits_more : (visits : List ℕ) (node : ℕ) (old before after : Tally) → AddsVisits visits old before → node < length before.visits
    → after ≡ record before { visits = more_at node 1 before.visits } → AddsVisits (visits ++ node ∷ []) old after
visits_more visits node old before after adds within is =
    let here : AddsVisits (visits ++ node ∷ []) old (record before { visits = more_at node 1 before.visits }) = record {
      size = record { nodes = length-set before.visits node _ ∙ adds.size.nodes; interfaces = adds.size.interfaces };
      visits_are = λ n.
          let more = more_at_read before.visits node 1 n within in
          let so_far = adds.visits_are n in
          let last = sum_by_push (λ m. cond (m == n) 1 0) visits node in
          omega (arith, more, so_far, last);
      drops = adds.drops;
      sends = adds.sends;
    } in
    subst (AddsVisits (visits ++ node ∷ []) old) (sym is) here

-- a visit of such a node can be counted, and its place is there
pub visit_can : (visits : List ℕ) (i node : ℕ) (old before : Tally) → CanVisit visits old → AddsVisits (take i visits) old before → i < length visits → node ≡ get_or visits i 0
    → (node < length before.visits) × (slice_index before.visits node + 1 < 2 ^ 63)
visit_can visits i node old before can adds within at =
    let below : node < length old.visits = all_at (λ n. n < length old.visits) visits i node can.nodes within at in
    let size = adds.size.nodes in
    let so_far = adds.visits_are node in
    let few = can.few node in
    let le = count_by-le-length (λ n. n == node) (take i visits) in
    let short : length (take i visits) ≤ i = short_take i visits in
    (omega (arith, below, size), omega (arith, so_far, few, le, short, within))
  where
    all_at : (P : ℕ → Type 0) (xs : List ℕ) (i x : ℕ) → AllByRecursion P xs → i < length xs → x ≡ get_or xs i 0 → P x
    all_at P [] i x all within at = absurd (omega arith)
    all_at P (y ∷ ys) zero x all within at = subst P (sym at) all.0
    all_at P (y ∷ ys) (suc i) x all within at = all_at P ys i x all.1 (omega arith) at

    short_take : (i : ℕ) (xs : List ℕ) → length (take i xs) ≤ i
    short_take zero xs = omega arith
    short_take (suc i) [] = omega arith
    short_take (suc i) (x ∷ xs) = (let h = short_take i xs in omega (arith, h))

-- a transmit
pub adds_sent : (interface : ℕ) (old new : Tally) → CanEnd (Tx interface) old → new ≡ record old { sends = more_at interface 1 old.sends } → Adds (drop_visit (Tx interface)) (Tx interface) old new
adds_sent interface old new can is =
    let here : Adds [] (Tx interface) old (record old { sends = more_at interface 1 old.sends }) = record {
      size = record { nodes = refl; interfaces = length-set old.sends interface _ };
      visits_are = λ node. omega arith;
      drops = λ node error. omega arith;
      sends = λ i. more_at_read old.sends interface 1 i can.within;
    } in
    subst (Adds [] (Tx interface) old) (sym is) here

-- a drop by the node that drops, and by another one
abbrev pub with_drop : ℕ → DropError → Tally → Tally
with_drop node error tally = record tally { drops = one_drop_more node (error_number error) tally.drops }

drop_counts : (node : ℕ) (error : DropError) (old : Tally) → CanEnd (Dropped node error) old → IsWhole old → (n : ℕ) (e : DropError)
    → drops_at n (error_number e) (one_drop_more node (error_number error) old.drops) ≡ drops_at n (error_number e) old.drops + (if is_drop n e (Dropped node error) then 1 else 0)
drop_counts node error old can whole n e =
    drops_more old.drops node (error_number error) n (error_number e) (let h = can.within in let k = whole.rows in omega (arith, h, k)) (error_within error) whole.errors

pub adds_drop_there : (error : DropError) (node : ℕ) (old new : Tally) → CanEnd (Dropped node error) old → IsWhole old → node ≡ error_drop → new ≡ with_drop node error old
    → Adds (drop_visit (Dropped node error)) (Dropped node error) old new
adds_drop_there error node old new can whole at is =
    let none : drop_visit (Dropped node error) ≡ [] = ap (λ n. drop_visit (Dropped n error)) at in
    let here : Adds [] (Dropped node error) old (with_drop node error old) = record {
      size = record { nodes = refl; interfaces = refl };
      visits_are = λ n. omega arith;
      drops = drop_counts node error old can whole;
      sends = λ i. omega arith;
    } in
    subst (λ vs. Adds vs (Dropped node error) old new) (sym none) (subst (Adds [] (Dropped node error) old) (sym is) here)

pub adds_drop_elsewhere : (error : DropError) (node : ℕ) (old mid new : Tally) → CanEnd (Dropped node error) old → IsWhole old → (node ≡ error_drop → ⊥) → mid ≡ with_drop node error old
    → new ≡ record mid { visits = more_at error_drop 1 mid.visits } → Adds (drop_visit (Dropped node error)) (Dropped node error) old new
adds_drop_elsewhere error node old mid new can whole apart is next =
    let one : drop_visit (Dropped node error) ≡ error_drop ∷ [] = elim (eqb_tells node error_drop) [
      | inl same ↦ absurd (apart same.1)
      | inr other ↦ ap (λ b. cond b [] (error_drop ∷ [])) other.0
    ] in
    let after : Tally = record (with_drop node error old) { visits = more_at error_drop 1 old.visits } in
    let made : new ≡ after = next ∙ ap (λ (t : Tally). record t { visits = more_at error_drop 1 t.visits }) is in
    let here : Adds (error_drop ∷ []) (Dropped node error) old after = record {
      size = record { nodes = length-set old.visits error_drop _; interfaces = refl };
      visits_are = λ n.
          let more = more_at_read old.visits error_drop 1 n can.drop in
          let last = sum_by_push (λ m. cond (m == n) 1 0) [] error_drop in
          omega (arith, more, last);
      drops = drop_counts node error old can whole;
      sends = λ i. omega arith;
    } in
    subst (λ vs. Adds vs (Dropped node error) old new) (sym one) (subst (Adds (error_drop ∷ []) (Dropped node error) old) (sym made) here)

-- visits, and then an end
pub adds_both : (visits more : List ℕ) (end : End) (old mid new : Tally) → AddsVisits visits old mid → Adds more end mid new → Adds (visits ++ more) end old new
adds_both visits more end old mid new first next = record {
  size = record { nodes = next.size.nodes ∙ first.size.nodes; interfaces = next.size.interfaces ∙ first.size.interfaces };
  visits_are = λ node.
      let one = first.visits_are node in
      let two = next.visits_are node in
      let both = sum_by-append (λ n. cond (n == node) 1 0) visits more in
      omega (arith, one, two, both);
  drops = λ node error. next.drops node error ∙ ap (λ ds. drops_at node (error_number error) ds + (if is_drop node error end then 1 else 0)) first.drops;
  sends = λ interface. next.sends interface ∙ ap (λ ss. slice_index ss interface + (if is_sent_on interface end then 1 else 0)) first.sends;
}

-- what can be counted in all can be counted one behind the other
pub can_visit : (visits : List ℕ) (end : End) (tally : Tally) → CanCount visits end tally → CanVisit visits tally
can_visit visits end tally can = record { nodes = can.nodes; few = λ node. (let h = can.few node in omega (arith, h)) }

pub end_sized : (end : End) (nodes interfaces nodes' interfaces' : ℕ) → nodes' ≡ nodes → interfaces' ≡ interfaces → IsEndWithin nodes interfaces end → IsEndWithin nodes' interfaces' end
end_sized (Tx interface) nodes interfaces nodes' interfaces' a b h = omega (arith, b, h)
end_sized (Dropped node error) nodes interfaces nodes' interfaces' a b h = omega (arith, a, h)

pub can_end : (visits : List ℕ) (end : End) (tally mid : Tally) → CanCount visits end tally → AddsVisits visits tally mid → CanEnd end mid
can_end visits end tally mid can adds = record {
  within = end_sized end (length tally.visits) (length tally.sends) (length mid.visits) (length mid.sends) adds.size.nodes adds.size.interfaces can.within;
  drop = (let h = can.drop in let k = adds.size.nodes in omega (arith, h, k));
  few = λ node. (let h = can.few node in let k = adds.visits_are node in let le = count_by-le-length (λ n. n == node) visits in omega (arith, h, k, le));
  few_drops = λ node error. (let h = can.few_drops node error in let k = ap (drops_at node (error_number error)) adds.drops in omega (arith, h, k));
  few_sends = λ interface. (let h = can.few_sends interface in let k = ap (λ ss. slice_index ss interface) adds.sends in omega (arith, h, k));
}

-- ---- all that is counted

-- where a trip is put in the place of another, what is counted changes by theirs
counted_set : (f : Course → ℕ) (trips : List Course) (number : ℕ) (old new : Course) → slice_get trips number ≡ Some old → sum_by f (slice_set trips number new) + f old ≡ sum_by f trips + f new
counted_set f trips number old new at =
    subst (λ t. sum_by f (slice_set trips number new) + f t ≡ sum_by f trips + f new) (get_or_from_slice_get trips number old old at)
    (sum_by-set f trips number new old (slice_get_within trips number old at))

-- a trip that isn't through counts nothing
pub not_through : (task : Task) (f : Journey → ℕ) (number : ℕ) (choice : Choice) (trip : Course) → trip.packet.number ≡ number → slice_get task.choices number ≡ Some choice
    → (length trip.legs ≡ length choice.generations → ⊥) → counted task f trip ≡ 0
not_through task f number choice trip is_number at apart =
    let gs : generations_at task trip.packet.number ≡ choice.generations =
    ap (generations_at task) is_number ∙ ap (λ (o : Option Choice). unwrap_or (option_map (λ (c : Choice). c.generations) o) []) at in
    elim (eqb_tells (length trip.legs) (length (generations_at task trip.packet.number))) [
      | inl same ↦ absurd (apart (same.1 ∙ ap length gs))
      | inr other ↦ ap (λ b. cond b (unwrap_or (option_map f (journey_at task trip.packet.number)) 0) 0) other.0
    ]

-- one that is through counts its journey
pub through : (task : Task) (f : Journey → ℕ) (number : ℕ) (choice : Choice) (trip : Course) (j : Journey) → trip.packet.number ≡ number → slice_get task.choices number ≡ Some choice
    → length trip.legs ≡ length choice.generations → journey_at task number ≡ Some j → counted task f trip ≡ f j
through task f number choice trip j is_number at whole is_j =
    let gs : generations_at task trip.packet.number ≡ choice.generations =
    ap (generations_at task) is_number ∙ ap (λ (o : Option Choice). unwrap_or (option_map (λ (c : Choice). c.generations) o) []) at in
    elim (eqb_tells (length trip.legs) (length (generations_at task trip.packet.number))) [
      | inl same ↦
          ap (λ b. cond b (unwrap_or (option_map f (journey_at task trip.packet.number)) 0) 0) same.0
          ∙ ap (λ n. unwrap_or (option_map f (journey_at task n)) 0) is_number ∙ ap (λ o. unwrap_or (option_map f o) 0) is_j
      | inr other ↦ absurd (other.1 (whole ∙ ap length (sym gs)))
    ]

-- a packet that goes on and isn't through changes no count
pub counts_wait : (task : Task) (trips : List Course) (tally : Tally) (number : ℕ) (old new : Course) → AreCountsOf task trips tally → slice_get trips number ≡ Some old
    → ((f : Journey → ℕ) → counted task f old ≡ 0) → ((f : Journey → ℕ) → counted task f new ≡ 0) → AreCountsOf task (slice_set trips number new) tally
counts_wait task trips tally number old new are at none no_more = record {
  nodes = are.nodes;
  interfaces = are.interfaces;
  visits = λ node. are.visits node ∙ same (visits_of node);
  drops = λ node error. are.drops node error ∙ same (drops_of node error);
  sends = λ interface. are.sends interface ∙ same (sends_of interface);
}
  where
    same : (f : Journey → ℕ) → sum_by (counted task f) trips ≡ sum_by (counted task f) (slice_set trips number new)
    same f = (let e = counted_set (counted task f) trips number old new at in let a = none f in let b = no_more f in omega (arith, e, a, b))

-- one that is through is counted
pub counts_add : (task : Task) (trips : List Course) (old_tally new_tally : Tally) (number : ℕ) (old new : Course) (j : Journey) → AreCountsOf task trips old_tally → slice_get trips number ≡ Some old
    → ((f : Journey → ℕ) → counted task f old ≡ 0) → ((f : Journey → ℕ) → counted task f new ≡ f j) → Adds (trace j) (end_of j.course.outcome) old_tally new_tally
    → AreCountsOf task (slice_set trips number new) new_tally
counts_add task trips old_tally new_tally number old new j are at none one adds = record {
  nodes = adds.size.nodes ∙ are.nodes;
  interfaces = adds.size.interfaces ∙ are.interfaces;
  visits = λ node. (let e = more (visits_of node) in let h = are.visits node in let k = adds.visits_are node in omega (arith, e, h, k));
  drops = λ node error. (let e = more (drops_of node error) in let h = are.drops node error in let k = adds.drops node error in omega (arith, e, h, k));
  sends = λ interface. (let e = more (sends_of interface) in let h = are.sends interface in let k = adds.sends interface in omega (arith, e, h, k));
}
  where
    more : (f : Journey → ℕ) → sum_by (counted task f) (slice_set trips number new) ≡ sum_by (counted task f) trips + f j
    more f = (let e = counted_set (counted task f) trips number old new at in let a = none f in let b = one f in omega (arith, e, a, b))

-- nothing is counted in the beginning
pub counts_none : (task : Task) → AreCountsOf task [] (nothing_counted most_nodes most_interfaces)
counts_none task = record {
  nodes = length-replicate {A = ℕ} most_nodes 0;
  interfaces = length-replicate {A = ℕ} most_interfaces 0;
  visits = λ node. zeros most_nodes node;
  drops = λ node error. rows most_nodes node (error_number error);
  sends = λ interface. zeros most_interfaces interface;
}
  where
    zeros : (n place : ℕ) → slice_index (replicate n 0) place ≡ 0
    zeros zero place = refl
    zeros (suc n) zero = refl
    zeros (suc n) (suc place) = zeros n place

    rows : (n place error : ℕ) → drops_at place error (replicate n (replicate count_of_errors 0)) ≡ 0
    rows zero place error = refl
    rows (suc n) zero error = zeros count_of_errors error
    rows (suc n) (suc place) error = rows n place error

-- a packet that has done no leg counts nothing
pub counts_begin : (task : Task) (trips : List Course) (trip : Course) (tally : Tally) → AreCountsOf task trips tally → ((f : Journey → ℕ) → counted task f trip ≡ 0) → AreCountsOf task (trips ++ trip ∷ []) tally
counts_begin task trips trip tally are none = record {
  nodes = are.nodes;
  interfaces = are.interfaces;
  visits = λ node. are.visits node ∙ same (visits_of node);
  drops = λ node error. are.drops node error ∙ same (drops_of node error);
  sends = λ interface. are.sends interface ∙ same (sends_of interface);
}
  where
    same : (f : Journey → ℕ) → sum_by (counted task f) trips ≡ sum_by (counted task f) (trips ++ trip ∷ [])
    same f = (let e = sum_by_push (counted task f) trips trip in let a = none f in omega (arith, e, a))
