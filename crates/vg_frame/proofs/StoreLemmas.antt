-- For `put`, `put_each` and `next_frame` of a store: what it keeps as indexes are put and frames are taken.
use Rattle.std.proofs.Common.{◌≡◌, ◌≢◌, ℕ, zero, suc, ◌+◌, ◌*◌, ◌<◌, ◌≤◌, List, [], ◌∷◌, ◌++◌, length, get_or, set, take, drop, replicate, refl, sym, ap, ◌∙◌, subst, arith, ⊎_elim}
use Rattle.std.specs.List.{All}
use Rattle.std.specs.Int.{bit_at}
use Rattle.std.proofs.lemmas.Bool.{cases_eq, cases_lt}
use Rattle.std.proofs.lemmas.List.{length-set, length-map, map-set, get_or-map, get_or-set_same, get_or-set_other, get_or_past, get_or-replicate, length-replicate}
use Rattle.std.proofs.lemmas.List.Elements.{All-set, All-replicate}
use Rattle.std.proofs.lemmas.List.Sums.{sum_by-cons, sum_by-set, get_or-le-sum_by}
use Rattle.std.proofs.lemmas.List.Folds.{sum_by-replicate}
use Rattle.std.proofs.lemmas.Nat.Bits.{bit_at-zero}
use Rattle.vg_frame.specs.Pending.{frame_size, most_pending, pending_at, pending_count, TakesFrame}
use Rattle.vg_frame.specs.NodeSet.{SetsBit, IsLowest}
use Rattle.vg_frame.specs.Waiting.{Waiting, IsCut, IsStore, none_waits, pending, full_frames, busy_bit, most_frames, most_nodes, most_full}

-- all full frames together have no more indexes than wait
pub full_frames-le : (queues : List Waiting) → All IsCut queues → frame_size * full_frames queues ≤ pending_count (pending queues)
full_frames-le [] cut = omega arith
full_frames-le (w ∷ ws) cut =
    let first : frame_size * w.full ≤ length w.indexes = cut 0 w (omega arith) in
    let rest = full_frames-le ws (λ k d h. cut (suc k) d (omega arith)) in
    rw (sum_by-cons (λ (v : Waiting). v.full) w ws, sum_by-cons length w.indexes (pending ws)) (omega arith)

-- so while an index may be put, a queue has room for a full frame, and a frame is spare
pub has_room : (queues : List Waiting) (spare bits : ℕ) → IsStore queues spare bits → pending_count (pending queues) < most_pending → (node : ℕ) (d : Waiting) → node < length queues → (get_or queues node d).full < most_full
has_room queues spare bits store few node d within =
    let total = full_frames-le queues store.cut in
    let part = get_or-le-sum_by (λ (v : Waiting). v.full) queues node d within in
    omega arith

pub has_spare : (queues : List Waiting) (spare bits : ℕ) → IsStore queues spare bits → pending_count (pending queues) < most_pending → 0 < spare
has_spare queues spare bits store few =
    let total = full_frames-le queues store.cut in
    let frames = store.frames in
    let nodes = store.nodes in
    omega arith

-- what waits for one node is among all that waits
waiting-le : (queues : List Waiting) (node : ℕ) (d : Waiting) → node < length queues → length (get_or queues node d).indexes ≤ pending_count (pending queues)
waiting-le queues node d within =
    let there : node < length (pending queues) = rw length-map within in
    let part = get_or-le-sum_by length (pending queues) node [] there in
    let same = ap length (get_or-map (λ (v : Waiting). v.indexes) queues node d [] within) in
    omega (arith, part, same)

-- so while so many indexes may be put, a queue has room for them
pub has_room_for : (queues : List Waiting) (node : ℕ) (d : Waiting) (n : ℕ) → node < length queues → pending_count (pending queues) + n ≤ most_pending → length (get_or queues node d).indexes + n ≤ most_pending
has_room_for queues node d n within few = let part = waiting-le queues node d within in omega (arith, part, few)

-- and with the frames that it has full, as many are spare as they fill: the other queues have no more full ones than their indexes make
pub has_spares_for : (queues : List Waiting) (spare bits : ℕ) → IsStore queues spare bits → (node : ℕ) (d : Waiting) (n : ℕ) → node < length queues → pending_count (pending queues) + n ≤ most_pending
    → length (get_or queues node d).indexes + n ≤ frame_size * (spare + (get_or queues node d).full)
has_spares_for queues spare bits store node d n within few =
    let there : node < length (pending queues) = rw length-map within in
    let others : List Waiting = set queues node none_waits in
    let full = full_frames-le others (All-set IsCut queues node none_waits (omega arith) store.cut) in
    let frames = sum_by-set (λ (v : Waiting). v.full) queues node none_waits d within in
    let without = ap pending_count (map-set (λ (v : Waiting). v.indexes) queues node none_waits) in
    let count = sum_by-set length (pending queues) node [] [] there in
    let here = ap length (get_or-map (λ (v : Waiting). v.indexes) queues node d [] within) in
    let all = store.frames in
    let nodes = store.nodes in
    omega (arith, full, frames, without, count, here, all, nodes, few)

-- as many frames are in use as aren't spare
pub has_place : (queues : List Waiting) (spare bits : ℕ) → IsStore queues spare bits → (node : ℕ) (d : Waiting) → node < length queues → spare + (get_or queues node d).full ≤ most_frames
has_place queues spare bits store node d within =
    let part = get_or-le-sum_by (λ (v : Waiting). v.full) queues node d within in
    let frames = store.frames in
    omega arith

pub pending_at-pending : (queues : List Waiting) (node : ℕ) (d : Waiting) → node < length queues → pending_at (pending queues) node ≡ (get_or queues node d).indexes
pending_at-pending queues node d within = get_or-map (λ (v : Waiting). v.indexes) queues node d [] within

pub length-pending : (queues : List Waiting) → length (pending queues) ≡ length queues
length-pending queues = length-map queues (λ (v : Waiting). v.indexes)

pub pending-set : (queues : List Waiting) (node : ℕ) (new d : Waiting) (change : List ℕ → List ℕ) → node < length queues → new.indexes ≡ change (get_or queues node d).indexes → pending (set queues node new) ≡ set (pending queues) node (change (pending_at (pending queues) node))
pending-set queues node new d change within is =
    map-set (λ (v : Waiting). v.indexes) queues node new ∙ ap (λ xs. set (pending queues) node xs) (is ∙ ap change (sym (pending_at-pending queues node d within)))

-- a queue changes: what waits for the other nodes is as it was
pub IsStore-set : (queues : List Waiting) (spare bits spare' bits' node : ℕ) (new d : Waiting)
    → IsStore queues spare bits → node < length queues → IsCut new → spare' + new.full ≡ spare + (get_or queues node d).full → SetsBit bits bits' node (busy_bit new.indexes)
    → IsStore (set queues node new) spare' bits'
IsStore-set queues spare bits spare' bits' node new d store within cut frames bit =
    let total = sum_by-set (λ (v : Waiting). v.full) queues node new d within in
    let sum = store.frames in
    record {
      nodes = rw length-set store.nodes;
      cut = All-set IsCut queues node new cut store.cut;
      frames = rw length-set (omega arith);
      busy = λ other small.
          rw (map-set (λ (v : Waiting). v.indexes) queues node new)
          (⊎_elim
          (λ same. bit_of_same other same)
          (λ apart. bit.others other small apart ∙ store.busy other small ∙ ap busy_bit (sym (get_or-set_other (pending queues) node other new.indexes [] apart)))
          (cases_eq other node));
    }
  where
    bit_of_same : (other : ℕ) → other ≡ node → bit_at bits' other ≡ busy_bit (get_or (set (pending queues) node new.indexes) other [])
    bit_of_same other same =
        let there : node < length (pending queues) = rw length-map within in
        let P : ℕ → Type 0 = λ k. bit_at bits' k ≡ busy_bit (get_or (set (pending queues) node new.indexes) k []) in
        subst P (sym same) (bit.changed ∙ ap busy_bit (sym (get_or-set_same (pending queues) node new.indexes [] there)))

pub busy_bit-push : (xs : List ℕ) (x : ℕ) → busy_bit (xs ++ x ∷ []) ≡ 1
busy_bit-push [] x = refl
busy_bit-push (y ∷ ys) x = refl

pub busy_bit-more : (xs ys : List ℕ) → 0 < length ys → busy_bit (xs ++ ys) ≡ 1
busy_bit-more [] [] some = absurd (omega (arith, some))
busy_bit-more [] (y ∷ ys) some = refl
busy_bit-more (x ∷ xs) ys some = refl

pub busy_bit-some : (xs : List ℕ) → xs ≢ [] → busy_bit xs ≡ 1
busy_bit-some [] some = absurd (some refl)
busy_bit-some (y ∷ ys) some = refl

-- the bit of a node that is in the set stays
pub SetsBit-same : (bits node : ℕ) → bit_at bits node ≡ 1 → SetsBit bits bits node 1
SetsBit-same bits node has = record { changed = has; others = λ _ _ _. refl }

-- a bit tells whether any index waits
pub some_waits : (xs : List ℕ) → 1 ≡ busy_bit xs → 0 < length xs
some_waits [] e = absurd (omega arith)
some_waits (x ∷ xs) e = omega arith

pub none_waits_there : (xs : List ℕ) → 0 ≡ busy_bit xs → xs ≡ []
none_waits_there [] e = refl
none_waits_there (x ∷ xs) e = absurd (omega arith)

-- no index waits in a new store
pub pending-new : (nodes : ℕ) → pending (replicate nodes none_waits) ≡ replicate nodes []
pending-new zero = refl
pending-new (suc nodes) = ap (λ xs. [] ∷ xs) (pending-new nodes)

pub pending_at-new : (nodes node : ℕ) → pending_at (replicate nodes []) node ≡ []
pending_at-new nodes node =
    ⊎_elim
    (λ below. get_or-replicate nodes node [] [] below)
    (λ above. get_or_past (replicate nodes []) node [] (rw length-replicate above))
    (cases_lt node nodes)

pub IsStore-new : (nodes spare : ℕ) → nodes ≤ most_nodes → spare + nodes ≡ most_frames → IsStore (replicate nodes none_waits) spare 0
IsStore-new nodes spare few frames =
    record {
      nodes = rw length-replicate few;
      cut = All-replicate IsCut nodes none_waits (omega arith);
      frames = rw (length-replicate, sum_by-replicate (λ (v : Waiting). v.full) nodes none_waits) (omega arith);
      busy = λ node _. bit_at-zero node ∙ ap busy_bit (sym (ap (λ p. pending_at p node) (pending-new nodes) ∙ pending_at-new nodes node));
    }

-- a node that is in the set is one of the store
pub busy_within : (queues : List Waiting) (spare bits node : ℕ) → IsStore queues spare bits → IsLowest bits node → node < length queues
busy_within queues spare bits node store found =
    ⊎_elim
    (λ below. below)
    (λ above. absurd (past (get_or_past (pending queues) node [] (rw length-pending above))))
    (cases_lt node (length queues))
  where
    past : pending_at (pending queues) node ≡ [] → ⊥
    past none =
        let busy : bit_at bits node ≡ 0 = store.busy node found.within ∙ ap busy_bit none in
        let has = found.has in
        omega arith

-- the frame that the queue of the lowest node of the set gives
pub takes_frame : (queues : List Waiting) (spare bits node : ℕ) (new d : Waiting) (frame : List ℕ)
    → IsStore queues spare bits → IsLowest bits node → frame ≡ take frame_size (get_or queues node d).indexes → new.indexes ≡ drop frame_size (get_or queues node d).indexes
    → TakesFrame (pending queues) node frame (pending (set queues node new))
takes_frame queues spare bits node new d frame store found oldest rest =
    let within = busy_within queues spare bits node store found in
    record {
      within = rw length-pending within;
      some = some_waits _ (sym found.has ∙ store.busy node found.within);
      lowest = λ lower below. none_waits_there _ (sym (found.lower lower below) ∙ store.busy lower (let small = found.within in omega arith));
      oldest = oldest ∙ ap (λ xs. take frame_size xs) (sym (pending_at-pending queues node d within));
      rest = pending-set queues node new d (λ xs. drop frame_size xs) within rest;
    }
