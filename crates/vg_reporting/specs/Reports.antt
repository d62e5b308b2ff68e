-- The parts of a report.
use Rattle.std.specs.Prelude.{ℕ, nat_lt, List, map, flat_map, filter, slice_index}
use Rattle.std.specs.List.{enumerate_from}
use Rattle.vg_model.specs.declared.kinds.DropError.{DropError}
use Rattle.vg_model.specs.declared.fates.Fate.{Fate}
use Rattle.vg_model.specs.Errors.{all_errors, error_number}
use Rattle.vg_model.specs.Graph.{Graph, Node}
use Rattle.vg_counters.specs.Tally.{drops_at}
use Rattle.vg_report.specs.declared.reports.PacketLine.{PacketLine}
use Rattle.vg_check.specs.Output.{named_end}

-- each by its name, with the count of its number
abbrev pub counted : {X : Type 0} → (X → List ℕ) → List X → List ℕ → List (List ℕ × ℕ)
counted name_of xs counts = map (λ numbered. (name_of numbered.1, slice_index counts numbered.0)) (enumerate_from 0 xs)

-- an error of a node of this name, with how often it was made
abbrev pub made_entry : List ℕ → (DropError → ℕ) → DropError → List ℕ × DropError × ℕ
made_entry name count error = (name, error, count error)

-- of some errors of a node of this name those that were made
abbrev pub made_of : List ℕ → (DropError → ℕ) → List DropError → List (List ℕ × DropError × ℕ)
made_of name count errors = filter (λ (entry : List ℕ × DropError × ℕ). nat_lt 0 entry.2) (map (made_entry name count) errors)

-- how often a node made an error, by these drops
abbrev pub made_by : List (List ℕ) → ℕ → DropError → ℕ
made_by drops node error = drops_at node (error_number error) drops

-- the errors of all nodes that were made
abbrev pub all_made : List Node → List (List ℕ) → List (List ℕ × DropError × ℕ)
all_made nodes drops = flat_map (λ numbered. made_of numbered.1.name (made_by drops numbered.0) all_errors) (enumerate_from 0 nodes)

-- the line of a fate
abbrev pub line_of_fate : Graph → Fate → PacketLine
line_of_fate g fate = record { legs = fate.legs; congested = fate.congested; end = named_end g fate.end }
