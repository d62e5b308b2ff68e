-- A search over arcs.
use Rattle.std.specs.Prelude.{◌≡◌, ℕ, suc, ◌+◌, ◌<◌, ◌≤◌, ◌⊎◌, Bool, true, false, List, [], ◌∷◌, length, slice_get, Some}
use Rattle.vg_graph.specs.declared.search.Search.{Search}

-- the node is reached
abbrev pub IsReached : Search → ℕ → Type 0
IsReached s n = slice_get s.reached n ≡ Some true

-- the node's arcs are still to be followed
abbrev pub IsWaiting : Search → ℕ → Type 0
IsWaiting s n = (i : ℕ) × (slice_get s.waiting.items i ≡ Some n)

-- how many nodes are not reached
abbrev pub unreached : List Bool → ℕ
unreached [] = 0
unreached (true ∷ marks) = unreached marks
unreached (false ∷ marks) = suc (unreached marks)

-- what is left to do: nodes to be reached, and nodes whose arcs are to be followed
abbrev pub effort : Search → ℕ
effort s = unreached s.reached + length s.waiting.items

-- there is room for every node that is not reached yet
pub record HasRoom (s : Search) : Type 0 where
  pub marks : length s.reached ≡ 64
  pub room : effort s ≤ 64

-- the first so many of these nodes are reached too, and those that were not before wait
pub record Reaches (old new : Search) (nodes : List ℕ) (count : ℕ) : Type 0 where
  pub kept : (n : ℕ) → IsReached old n → IsReached new n
  pub each : (i n : ℕ) → i < count → slice_get nodes i ≡ Some n → IsReached new n
  pub others : (n : ℕ) → IsReached new n → IsReached old n ⊎ (((i : ℕ) × (slice_get nodes i ≡ Some n)) × IsWaiting new n)
  pub waiting : (n : ℕ) → IsWaiting old n → IsWaiting new n
  pub waits : (n : ℕ) → IsWaiting new n → IsWaiting old n ⊎ IsReached new n
  pub marks : length new.reached ≡ length old.reached
  pub effort : effort new ≡ effort old

-- this node alone is reached, and waits
pub record IsFirst (s : Search) (node : ℕ) : Type 0 where
  pub reached : IsReached s node
  pub alone : (n : ℕ) → IsReached s n → n ≡ node
  pub waiting : (n : ℕ) → IsReached s n → IsWaiting s n
  pub waits : (n : ℕ) → IsWaiting s n → IsReached s n
  pub room : HasRoom s
