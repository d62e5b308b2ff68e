-- Traces and counters (VLIB: the packet tracer, node and error counters).
use Rattle.std.specs.Prelude.{ℕ, Bool, false, ◌&&◌, ◌==◌, List, [], ◌∷◌, ◌++◌, count_by, flat_map, if◌then◌else◌}
use Rattle.vg_model.specs.declared.kinds.DropError.{DropError}
use Rattle.vg_model.specs.declared.fates.End.{End}
use Rattle.vg_model.specs.declared.fates.End.TheVariants as ends
use Rattle.vg_model.specs.Errors.{error_number}
use Rattle.vg_model.specs.Graph.{error_drop}
use Rattle.vg_model.specs.Journey.{Journey, end_of}

-- a packet that another node dropped visits `error-drop` in the end
abbrev pub drop_visit : End → List ℕ
drop_visit (ends.Tx interface) = []
drop_visit (ends.Dropped node error) = if node == error_drop then [] else error_drop ∷ []

-- the nodes that a packet visited, in order
abbrev pub trace : Journey → List ℕ
trace j = j.course.visits ++ drop_visit (end_of j.course.outcome)

-- how often a node was visited
abbrev pub node_count : ℕ → List Journey → ℕ
node_count node js = count_by (λ n. n == node) (flat_map trace js)

-- the end is this drop; the end is on this interface
abbrev pub is_drop : ℕ → DropError → End → Bool
is_drop node error (ends.Dropped n e) = n == node && error_number e == error_number error
is_drop node error (ends.Tx interface) = false

-- the end is on this interface
abbrev pub is_sent_on : ℕ → End → Bool
is_sent_on interface (ends.Tx i) = i == interface
is_sent_on interface (ends.Dropped node error) = false

-- how often a node dropped a packet with an error
abbrev pub error_count : ℕ → DropError → List Journey → ℕ
error_count node error js = count_by (λ j. is_drop node error (end_of j.course.outcome)) js

-- how many packets were transmitted on an interface
abbrev pub interface_count : ℕ → List Journey → ℕ
interface_count interface js = count_by (λ j. is_sent_on interface (end_of j.course.outcome)) js
