-- Where buffer indexes stand: waiting for a node, or in hand.
use Rattle.std.specs.Prelude.{ℕ, ◌==◌, List, if◌then◌else◌}
use Rattle.std.specs.List.{sum_by}
use Rattle.vg_underway.specs.Underway.{sum_from}

-- 1 where the two are the same, or else 0
abbrev pub same_one : ℕ → ℕ → ℕ
same_one one other = if other == one then 1 else 0

-- how often an index waits
abbrev pub times_waiting : ℕ → List (List ℕ) → ℕ
times_waiting index pending = sum_from (λ node. same_one index) 0 pending

-- how often an index is in hand
abbrev pub times_in_hand : {X : Type 0} → ℕ → List (ℕ × X) → ℕ
times_in_hand {X} index hand = sum_by (λ (p : ℕ × X). same_one index p.0) hand
