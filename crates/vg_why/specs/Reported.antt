-- The counts of a report, by those that are printed.
use Rattle.std.specs.Prelude.{◌≡◌, ℕ, nat_lt, Bool, List, length, map, flat_map, filter, count_by}
use Rattle.std.specs.List.{enumerate_from}
use Rattle.vg_model.specs.declared.kinds.DropError.{DropError}
use Rattle.vg_model.specs.Errors.{all_errors}
use Rattle.vg_model.specs.Graph.{Graph, Node}
use Rattle.vg_model.specs.Journey.{Journey}
use Rattle.vg_report.specs.declared.reports.Report.{Report}
use Rattle.vg_check.specs.Output.{last_graph}
use Rattle.vg_check.specs.Verdicts.{Case, AreTravelled, report_by}
use Rattle.vg_ways.specs.declared.entries.Entry.{Entry}
use Rattle.vg_ways.specs.Entries.{is_began, is_tx, is_dropped}
use Rattle.vg_ways.specs.Logs.{under, total}
use Rattle.vg_why.specs.Files.{gone_in}
use Rattle.vg_why.specs.Printed.{AreCounts}

-- what is counted under each of so many generations, added up
abbrev pub added : (generations : ℕ) → List (ℕ × Entry) → (Entry → Bool) → ℕ
added generations entries p = total generations (λ g. count_by p (under g entries))

-- the interfaces of the last graph by number, each with the packets that were transmitted on it
abbrev pub interfaces_added : List Graph → List (ℕ × Entry) → List (List ℕ × ℕ)
interfaces_added graphs entries = map (λ i. (i.1.name, added (length graphs) entries (is_tx i.0))) (enumerate_from 0 (last_graph graphs).interfaces)

-- a node's errors with their counts above 0, in the order of the errors
abbrev pub node_errors_added : (generations : ℕ) → List (ℕ × Entry) → ℕ × Node → List (List ℕ × DropError × ℕ)
node_errors_added generations entries numbered =
    filter (λ (entry : List ℕ × DropError × ℕ). nat_lt 0 entry.2)
    (map {B = List ℕ × DropError × ℕ} (λ error. (numbered.1.name, error, added generations entries (is_dropped numbered.0 error))) all_errors)

-- those of all nodes
abbrev pub errors_added : List Graph → List (ℕ × Entry) → List (List ℕ × DropError × ℕ)
errors_added graphs entries = flat_map (node_errors_added (length graphs) entries) (enumerate_from 0 (last_graph graphs).nodes)

-- what is counted of these entries under each generation adds up to the counts of a report
pub record AddUpTo (report : Report) (graphs : List Graph) (entries : List (ℕ × Entry)) : Type 0 where
  pub packets : length report.packets ≡ added (length graphs) entries is_began
  pub interfaces : report.interfaces ≡ interfaces_added graphs entries
  pub errors : report.errors ≡ errors_added graphs entries

-- so do the counts that are printed, where the report is that of the journeys under its choices
abbrev pub CountsAreReported : Type 0
CountsAreReported =
    (case : Case) (report : Report) (js : List Journey) (names : Graph) (text : List ℕ) → AreTravelled case report js → report ≡ report_by case report js
    → (counts : AreCounts (gone_in case report.workers js) names text) → AddUpTo report case.plan.graphs counts.entries
