-- For the clause of `FrameStore::put_each`, and for those of `Work::{draw_own, take_frame, put_apart, group}` of vg_underway:
-- How many indexes wait in all.
use Rattle.std.proofs.Common.{◌≡◌, ℕ, ◌+◌, ◌<◌, List, [], ◌∷◌, ◌++◌, length, set, ap, ◌∙◌, arith, append_assoc}
use Rattle.std.proofs.lemmas.List.{length-append, append-nil, get_or-set_same, set-get_or, set-set}
use Rattle.std.proofs.lemmas.List.Sums.{sum_by-set}
use Rattle.vg_frame.specs.Pending.{pending_at, pending_count}

pub pending_count-put : (pending : List (List ℕ)) (node index : ℕ) → node < length pending → pending_count (set pending node (pending_at pending node ++ index ∷ [])) ≡ pending_count pending + 1
pending_count-put pending node index within =
    let total = sum_by-set length pending node (pending_at pending node ++ index ∷ []) [] within in
    let one : length (pending_at pending node ++ index ∷ []) ≡ length (pending_at pending node) + 1 = rw length-append (omega arith) in
    omega arith

-- no index is put yet, and one more is put behind others
pub put_none : (pending : List (List ℕ)) (node : ℕ) → set pending node (pending_at pending node ++ []) ≡ pending
put_none pending node = ap (set pending node) (append-nil (pending_at pending node)) ∙ set-get_or pending node []

-- no indexes, put as a list
pub put_nothing : (pending : List (List ℕ)) (node : ℕ) (indexes : List ℕ) → length indexes ≡ 0 → set pending node (pending_at pending node ++ indexes) ≡ pending
put_nothing pending node [] none = put_none pending node
put_nothing pending node (index ∷ indexes) none = absurd (omega (arith, none))

pub put_more : (pending : List (List ℕ)) (node : ℕ) (xs ys : List ℕ) → node < length pending
    → set (set pending node (pending_at pending node ++ xs)) node (pending_at (set pending node (pending_at pending node ++ xs)) node ++ ys) ≡ set pending node (pending_at pending node ++ (xs ++ ys))
put_more pending node xs ys within =
    let here : List ℕ = pending_at pending node ++ xs in
    ap (λ zs. set (set pending node here) node (zs ++ ys)) (get_or-set_same pending node here [] within)
    ∙ (set-set pending node here (here ++ ys) ∙ ap (set pending node) (append_assoc (pending_at pending node) xs ys))
