-- For `forward` of `vg_top`: the report of what a run comes to is that of its journeys.
use Rattle.std.proofs.Common.{◌≡◌, ℕ, ◌+◌, List, [], ◌∷◌, ◌++◌, map, refl, ap}
use Rattle.std.specs.Prelude.{filter, flat_map, nat_lt, slice_index}
use Rattle.std.specs.List.{enumerate_from}
use Rattle.vg_model.specs.declared.kinds.DropError.{DropError}
use Rattle.vg_model.specs.Errors.{all_errors, error_number}
use Rattle.vg_model.specs.Graph.{Graph, Node}
use Rattle.vg_model.specs.Journey.{Journey, fate_of}
use Rattle.vg_model.specs.Count.{trace, error_count}
use Rattle.vg_counters.specs.Tally.{drops_at}
use Rattle.vg_check.specs.Output.{node_name, node_errors, packet_line_of}
use Rattle.vg_reporting.specs.Reports.{counted, made_entry, made_of, made_by, all_made, line_of_fate}

-- counts by name, where they are counts by number, from a number on
counted_from : {X : Type 0} (name_of : X → List ℕ) (count : ℕ → ℕ) (counts : List ℕ) (k : ℕ) (xs : List X) → ((n : ℕ) → slice_index counts n ≡ count n)
    → map {B = List ℕ × ℕ} (λ (numbered : ℕ × X). (name_of numbered.1, slice_index counts numbered.0)) (enumerate_from k xs)
    ≡ map (λ (numbered : ℕ × X). (name_of numbered.1, count numbered.0)) (enumerate_from k xs)
counted_from name_of count counts k [] h = refl
counted_from name_of count counts k (x ∷ xs) h =
    let later = counted_from name_of count counts (k + 1) xs h in
    λ i. (name_of x, h k i) ∷ later i

-- the same from the first on
pub counted_are : {X : Type 0} (name_of : X → List ℕ) (count : ℕ → ℕ) (xs : List X) (counts : List ℕ) → ((n : ℕ) → slice_index counts n ≡ count n)
    → counted name_of xs counts ≡ map (λ (numbered : ℕ × X). (name_of numbered.1, count numbered.0)) (enumerate_from 0 xs)
counted_are name_of count xs counts h = counted_from name_of count counts 0 xs h

-- a node's errors with how often each was made
entries_are : (name : List ℕ) (one other : DropError → ℕ) (errors : List DropError) → ((error : DropError) → one error ≡ other error)
    → map (made_entry name one) errors ≡ map {B = List ℕ × DropError × ℕ} (λ error. (name, error, other error)) errors
entries_are name one other [] h = refl
entries_are name one other (error ∷ errors) h =
    let later = entries_are name one other errors h in
    λ i. (name, error, h error i) ∷ later i

-- the errors of nodes, from a number on
errors_from : (js : List Journey) (drops : List (List ℕ)) (k : ℕ) (nodes : List Node) → ((node : ℕ) (error : DropError) → drops_at node (error_number error) drops ≡ error_count node error js)
    → flat_map (λ (numbered : ℕ × Node). made_of numbered.1.name (made_by drops numbered.0) all_errors) (enumerate_from k nodes) ≡ flat_map (node_errors js) (enumerate_from k nodes)
errors_from js drops k [] h = refl
errors_from js drops k (node ∷ nodes) h =
    let here = ap (filter (λ (entry : List ℕ × DropError × ℕ). nat_lt 0 entry.2)) (entries_are node.name (made_by drops k) (λ error. error_count k error js) all_errors (h k)) in
    let later = errors_from js drops (k + 1) nodes h in
    λ i. here i ++ later i

pub errors_are : (js : List Journey) (nodes : List Node) (drops : List (List ℕ)) → ((node : ℕ) (error : DropError) → drops_at node (error_number error) drops ≡ error_count node error js)
    → all_made nodes drops ≡ flat_map (node_errors js) (enumerate_from 0 nodes)
errors_are js nodes drops h = errors_from js drops 0 nodes h

-- the lines of packets
pub lines_are : (g : Graph) (js : List Journey) → map (line_of_fate g) (map fate_of js) ≡ map (packet_line_of g) js
lines_are g [] = refl
lines_are g (j ∷ js) = ap (λ l. packet_line_of g j ∷ l) (lines_are g js)

-- the lines of traces
pub traces_are : (g : Graph) (js : List Journey) → map (map (node_name g)) (map trace js) ≡ map (λ j. map (node_name g) (trace j)) js
traces_are g [] = refl
traces_are g (j ∷ js) = ap (λ l. map (node_name g) (trace j) ∷ l) (traces_are g js)
