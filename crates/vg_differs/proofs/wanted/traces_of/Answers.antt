-- For `traces_of`: the nodes are there, and their names are those of each packet's.
use Rattle.std.proofs.Common.{◌≡◌, ◌<◌, List, ℕ, length, map, take, ap, subst, sym, ◌∙◌}
use Rattle.std.specs.Prelude.{IfOk}
use Rattle.std.specs.List.{AllByRecursion}
use Rattle.vg_check.specs.Output.{node_name}
use Rattle.vg_check.specs.Reports.{trace_of}
use Rattle.vg_differs.proofs.SentLemmas.{all_mapped, mapped_twice}
use Rattle.vg_differs.proofs.wanted.traces_of.Goals as goal

pub traces-requires : goal.traces-requires
traces-requires c =
    let IsThere : List ℕ → Type 0 = AllByRecursion (λ node. node < length c.args.graph.now.nodes) in
    subst (AllByRecursion IsThere) (sym c.in_ok-visits_of.ensures) (all_mapped IsThere trace_of (take c.args.count c.args.trips.now) c.requires.nodes)

pub returns : goal.returns
returns c =
    let names : List ℕ → List (List ℕ) = map (node_name c.args.graph.now) in
    subst (λ (all : List (List (List ℕ))). IfOk c.traces-2.result (λ lines. lines ≡ all))
    (ap (map names) c.in_ok-visits_of.ensures ∙ mapped_twice trace_of names (take c.args.count c.args.trips.now)) c.traces-2.ensures
