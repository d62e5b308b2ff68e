-- For `interface_names`, `node_names` and `lines`: ends by the names of a graph's interfaces and nodes.
use Rattle.std.proofs.Common.{◌≡◌, ℕ, ◌+◌, List, [], ◌∷◌, ◌++◌, map, take, refl, sym, ap, subst, ◌∙◌, arith}
use Rattle.std.specs.Prelude.{Some, slice_get, option_map, unwrap_or}
use Rattle.std.specs.List.{AllByRecursion}
use Rattle.std.proofs.lemmas.List.{map_push, length-map}
use Rattle.std.proofs.lemmas.List.Elements.{All-from_recursion}
use Rattle.std.proofs.lemmas.Option.{slice_get-map}
use Rattle.vg_model.specs.declared.kinds.Interface.{Interface}
use Rattle.vg_model.specs.declared.fates.Fate.{Fate}
use Rattle.vg_model.specs.declared.fates.End.{End}
use Rattle.vg_model.specs.declared.fates.End.TheVariants as numbers
use Rattle.vg_model.specs.Graph.{Graph, Node}
use Rattle.vg_journeys.specs.Ends.{IsEndIn}
use Rattle.vg_report.specs.declared.reports.PacketLine.{PacketLine}
use Rattle.vg_report.specs.declared.reports.PacketEnd.TheVariants as ends
use Rattle.vg_report.specs.Named.{name_at, end_by, lines_of, IsNamed, AreNamed}
use Rattle.vg_check.specs.Output.{named_end}
use Rattle.vg_reporting.specs.Reports.{line_of_fate}
use Rattle.vg_reporting.proofs.CountLemmas.{next_entry}

-- one more name
pub names_more : {X : Type 0} (name_of : X → List ℕ) (xs : List X) (n : ℕ) (x : X) → slice_get xs n ≡ Some x
    → map name_of (take (n + 1) xs) ≡ map name_of (take n xs) ++ name_of x ∷ []
names_more name_of xs n x there = ap (map name_of) (next_entry xs n x there) ∙ map_push name_of (take n xs) x

-- the names of a graph
abbrev interfaces_of : Graph → List (List ℕ)
interfaces_of g = map (λ (interface : Interface). interface.name) g.interfaces

abbrev nodes_of : Graph → List (List ℕ)
nodes_of g = map (λ (node : Node). node.name) g.nodes

-- the name of an end's number
name_of_number : {X : Type 0} (name_of : X → List ℕ) (xs : List X) (n : ℕ) → name_at (map name_of xs) n ≡ unwrap_or (option_map name_of (slice_get xs n)) []
name_of_number name_of xs n = ap (λ found. unwrap_or found []) (slice_get-map name_of xs n)

end_named : (g : Graph) (end : End) → end_by (interfaces_of g) (nodes_of g) end ≡ named_end g end
end_named g (numbers.Tx interface) = ap ends.Tx (name_of_number (λ (i : Interface). i.name) g.interfaces interface)
end_named g (numbers.Dropped node error) = ap (λ name. ends.Dropped name error) (name_of_number (λ (n : Node). n.name) g.nodes node)

fates_named : (g : Graph) (fates : List Fate) → lines_of (interfaces_of g) (nodes_of g) fates ≡ map (line_of_fate g) fates
fates_named g [] = refl
fates_named g (fate ∷ fates) =
    let here = end_named g fate.end in
    let later = fates_named g fates in
    λ i. let line : PacketLine = record { legs = fate.legs; congested = fate.congested; end = here i } in line ∷ later i

-- the lines of fates, by these names
pub lines_named : (g : Graph) (interfaces nodes : List (List ℕ)) (fates : List Fate) (lines : List PacketLine) → interfaces ≡ interfaces_of g → nodes ≡ nodes_of g
    → lines ≡ lines_of interfaces nodes fates → lines ≡ map (line_of_fate g) fates
lines_named g interfaces nodes fates lines one other is =
    is ∙ ap (λ names. lines_of names nodes fates) one ∙ ap (λ names. lines_of (interfaces_of g) names fates) other ∙ fates_named g fates

end_is_named : (g : Graph) (end : End) → IsEndIn g end → IsNamed (interfaces_of g) (nodes_of g) end
end_is_named g (numbers.Tx interface) h = omega (arith, h, length-map g.interfaces (λ (i : Interface). i.name))
end_is_named g (numbers.Dropped node error) h = omega (arith, h, length-map g.nodes (λ (n : Node). n.name))

each_named : (g : Graph) (fates : List Fate) → AllByRecursion (λ (fate : Fate). IsEndIn g fate.end) fates
    → AllByRecursion (λ (fate : Fate). IsNamed (interfaces_of g) (nodes_of g) fate.end) fates
each_named g [] all = tt
each_named g (fate ∷ fates) all = (end_is_named g fate.end all.0, each_named g fates all.1)

-- each fate's end has a name
pub are_named : (g : Graph) (interfaces nodes : List (List ℕ)) (fates : List Fate) → interfaces ≡ interfaces_of g → nodes ≡ nodes_of g
    → AllByRecursion (λ (fate : Fate). IsEndIn g fate.end) fates → AreNamed interfaces nodes fates
are_named g interfaces nodes fates one other all =
    subst (λ names. AreNamed names nodes fates) (sym one) (subst (λ names. AreNamed (interfaces_of g) names fates) (sym other)
    (All-from_recursion (λ (fate : Fate). IsNamed (interfaces_of g) (nodes_of g) fate.end) fates (each_named g fates all)))
