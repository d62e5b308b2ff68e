-- For `verdict`: the report of journeys under lawful choices is lawful, but for counts that drops by congestion lack, and whole where none lacks one.
use Rattle.std.proofs.Common.{◌≡◌, ◌↔◌, ℕ, zero, suc, ◌+◌, ◌*◌, ◌<◌, ◌≤◌, ◌^◌, Bool, true, false, cond, List, [], ◌∷◌, ◌++◌, length, map, take, refl, sym, ap, subst, ◌∙◌, arith}
use Rattle.std.specs.Prelude.{filter, flat_map, nat_lt, bytes_eq, slice_get, Option, Some, None, IsSome, IfSome, option_map, unwrap_or}
use Rattle.std.specs.List.{AllByRecursion, IsDistinct, enumerate_from, position_from}
use Rattle.std.proofs.lemmas.Bool.{ltb-true, false≢true}
use Rattle.std.proofs.lemmas.List.{length-map, length-take}
use Rattle.std.proofs.lemmas.List.FromFn.{length-enumerate_from}
use Rattle.std.proofs.lemmas.List.Sums.{count_by-le-length}
use Rattle.std.proofs.lemmas.Option.{none-some, slice_get-map, slice_get_within}
use Rattle.std.proofs.lemmas.Slice.Eq.{bytes_eq-Decides}
use Rattle.vg_model.specs.declared.kinds.DropError.{DropError}
use Rattle.vg_model.specs.declared.kinds.DropError.TheVariants.{Congestion}
use Rattle.vg_model.specs.declared.fates.End.{End}
use Rattle.vg_model.specs.declared.fates.End.TheVariants as fate_ends
use Rattle.vg_model.specs.declared.fates.Leg.{Leg}
use Rattle.vg_model.specs.Errors.{error_number, all_errors}
use Rattle.vg_model.specs.Name.{IsName}
use Rattle.vg_model.specs.Graph.{Graph, Node, pg_input}
use Rattle.vg_model.specs.Journey.{Journey, end_of}
use Rattle.vg_model.specs.Count.{trace, node_count, error_count, interface_count, is_drop, is_sent_on}
use Rattle.vg_model.proofs.Journeys.{map_some}
use Rattle.vg_report.specs.declared.reports.Report.{Report}
use Rattle.vg_report.specs.declared.reports.PacketEnd.{PacketEnd}
use Rattle.vg_report.specs.declared.reports.PacketEnd.TheVariants as packet_ends
use Rattle.vg_report.specs.Forms.{is_congestion}
use Rattle.vg_report.specs.Lawful.{AreErrorsFrom, IsDeclared, IsEndLawful, IsPacketLawful, IsTraceLawful, IsLawful, names, number_of, error_place}
use Rattle.vg_report.proofs.LineShows.{congestion_is}
use Rattle.vg_journeys.specs.Ends.{IsEndIn}
use Rattle.vg_plan.specs.Plan.{IsGeneration}
use Rattle.vg_check.specs.Output.{Setting, report_of, node_errors, packet_line_of, named_end, node_name, interface_name, last_graph}
use Rattle.vg_check.specs.Reports.{zero_where, count_with, with_count, with_counts}
use Rattle.vg_check.proofs.CountedLemmas.{IsCounted, counted_drop, counted_report}
use Rattle.vg_check.proofs.JourneyLemmas.{IsOwn, IsCountedEnd, IsCountAt, IsChosen}

-- the names of counts are those of what is counted
names_are : {X : Type 0} (name_of : X → List ℕ) (count : ℕ → ℕ) (k : ℕ) (xs : List X)
    → names (map (λ (numbered : ℕ × X). (name_of numbered.1, count numbered.0)) (enumerate_from k xs)) ≡ map name_of xs
names_are name_of count k [] = refl
names_are name_of count k (x ∷ xs) = ap (λ l. name_of x ∷ l) (names_are name_of count (k + 1) xs)

-- all counts are small
all_small : {X : Type 0} (name_of : X → List ℕ) (count : ℕ → ℕ) (k : ℕ) (xs : List X) → ((n : ℕ) → count n < 2 ^ 63)
    → AllByRecursion (λ (entry : List ℕ × ℕ). entry.1 < 2 ^ 63) (map (λ (numbered : ℕ × X). (name_of numbered.1, count numbered.0)) (enumerate_from k xs))
all_small name_of count k [] h = tt
all_small name_of count k (x ∷ xs) h = (h k, all_small name_of count (k + 1) xs h)

-- a name that stands among names that differ is found where it stands
found_first : (m : ℕ) (ns : List (List ℕ)) (i : ℕ) (n : List ℕ) → IsDistinct bytes_eq ns → slice_get ns i ≡ Some n → position_from (λ other. bytes_eq other n) m ns ≡ Some (m + i)
unfolding IsDistinct
found_first m [] i n d e = absurd (none-some n e)
found_first m (first ∷ ns) zero n d e =
    let same : first ≡ n = cc in
    let test : bytes_eq first n ≡ true = (bytes_eq-Decides first n).1 same in
    ap (λ b. cond b (Some m) (position_from (λ other. bytes_eq other n) (m + 1) ns)) test ∙ ap Some (omega arith)
found_first m (first ∷ ns) (suc i) n d e =
    let test : bytes_eq first n ≡ false = apart ns i d.0 e in
    ap (λ b. cond b (Some m) (position_from (λ other. bytes_eq other n) (m + 1) ns)) test
    ∙ (found_first (m + 1) ns i n d.1 e ∙ ap Some (omega arith))
  where
    apart : (ns : List (List ℕ)) (i : ℕ) → AllByRecursion (λ y. bytes_eq first y ≡ false) ns → slice_get ns i ≡ Some n → bytes_eq first n ≡ false
    apart [] i all e = absurd (none-some n e)
    apart (y ∷ ns) zero all e = let same : y ≡ n = cc in subst (λ z. bytes_eq first z ≡ false) same all.0
    apart (y ∷ ns) (suc i) all e = apart ns i all.1 e

named_at : (ns : List (List ℕ)) (i : ℕ) (n : List ℕ) → IsDistinct bytes_eq ns → slice_get ns i ≡ Some n → number_of ns n ≡ Some i
named_at ns i n d e = found_first 0 ns i n d e ∙ ap Some (omega arith)

-- errors whose numbers follow one another
abbrev AreInOrder : ℕ → List DropError → Type 0
AreInOrder m [] = Unit {0}
AreInOrder m (error ∷ errors) = (error_number error ≡ m) × AreInOrder (suc m) errors

-- the errors of a node that were made, and those of the nodes behind it
node_lawful : (ns : List (List ℕ)) (k : ℕ) (name : List ℕ) (count : DropError → ℕ) → number_of ns name ≡ Some k → ((error : DropError) → count error < 2 ^ 63)
    → (m : ℕ) (errors : List DropError) → AreInOrder m errors → m + length errors ≤ 19 → (least : ℕ) → least ≤ 19 * k + m
    → (rest : List (List ℕ × DropError × ℕ)) → ((l : ℕ) → l ≤ 19 * (k + 1) → AreErrorsFrom ns l rest)
    → AreErrorsFrom ns least (filter (λ (entry : List ℕ × DropError × ℕ). nat_lt 0 entry.2) (map {B = List ℕ × DropError × ℕ} (λ error. (name, error, count error)) errors) ++ rest)
node_lawful ns k name count found small m [] order few least le rest later = later least (omega arith)
node_lawful ns k name count found small m (error ∷ errors) order few least le rest later =
    by_test (nat_lt 0 (count error)) refl (λ l h. node_lawful ns k name count found small (suc m) errors order.1 (omega arith) l h rest later)
  where
    others : List (List ℕ × DropError × ℕ)
    others = filter (λ (entry : List ℕ × DropError × ℕ). nat_lt 0 entry.2) (map {B = List ℕ × DropError × ℕ} (λ error. (name, error, count error)) errors)

    place : error_place ns (name, error, count error) ≡ 19 * k + m
    place = let number = order.0 in let at : unwrap_or (number_of ns name) 0 ≡ k = ap (λ o. unwrap_or o 0) found in omega (arith, at, number)

    declared : IsDeclared ns name
    declared = subst IsSome (sym found) refl

    by_test : (b : Bool) → nat_lt 0 (count error) ≡ b → ((l : ℕ) → l ≤ 19 * k + suc m → AreErrorsFrom ns l (others ++ rest))
        → AreErrorsFrom ns least (cond b ((name, error, count error) ∷ others) others ++ rest)
    by_test true e behind =
        (declared, ltb-true 0 (count error) e, small error, omega (arith, place, le), behind (suc (error_place ns (name, error, count error))) (omega (arith, place)))
    by_test false e behind = behind least (omega (arith, le))

-- the errors of nodes from a number on
pub errors_lawful : (ns : List (List ℕ)) (js : List Journey) (k : ℕ) (nodes : List Node) → ((i : ℕ) (node : Node) → slice_get nodes i ≡ Some node → number_of ns node.name ≡ Some (k + i))
    → ((n : ℕ) (error : DropError) → error_count n error js < 2 ^ 63) → (least : ℕ) → least ≤ 19 * k
    → AreErrorsFrom ns least (flat_map (node_errors js) (enumerate_from k nodes))
errors_lawful ns js k [] found small least le = tt
errors_lawful ns js k (node ∷ nodes) found small least le =
    node_lawful ns k node.name (λ error. error_count k error js) (found 0 node refl ∙ ap Some (omega arith)) (small k) 0 all_errors
    (refl, (refl, (refl, (refl, (refl, (refl, (refl, (refl, (refl, (refl, (refl, (refl, (refl, (refl, (refl, (refl, (refl, (refl, (refl, tt))))))))))))))))))) (omega arith) least (omega arith)
    (flat_map (node_errors js) (enumerate_from (k + 1) nodes))
    (λ l h. errors_lawful ns js (k + 1) nodes (λ i node e. found (suc i) node e ∙ ap Some (omega arith)) small l h)

-- what stands at a place within a list
there : {X : Type 0} (xs : List X) (i : ℕ) → i < length xs → (x : X) × (slice_get xs i ≡ Some x)
there [] i h = absurd (omega arith)
there (x ∷ xs) zero h = (x, refl)
there (x ∷ xs) (suc i) h = there xs i (omega arith)

-- names that are those of a list's entries, and differ
module _ {X : Type 0} (name_of : X → List ℕ) (xs : List X) (ns : List (List ℕ)) (are : ns ≡ map name_of xs) (differ : IsDistinct bytes_eq ns) where
  pub declared_entry : (i : ℕ) (x : X) → slice_get xs i ≡ Some x → number_of ns (name_of x) ≡ Some i
  declared_entry i x e = named_at ns i (name_of x) differ (ap (λ l. slice_get l i) are ∙ (slice_get-map name_of xs i ∙ ap (option_map name_of) e))

  pub declared_at : (i : ℕ) → i < length xs → IsDeclared ns (unwrap_or (option_map name_of (slice_get xs i)) [])
  declared_at i h =
      let entry = there xs i h in
      let named : unwrap_or (option_map name_of (slice_get xs i)) [] ≡ name_of entry.0 = ap (λ o. unwrap_or (option_map name_of o) []) entry.1 in
      subst (IsDeclared ns) (sym named) (subst IsSome (sym (declared_entry i entry.0 entry.1)) refl)

-- what a packet's line says of its end, with a count at a drop by congestion
end_lawful : (g : Graph) (interfaces nodes : List (List ℕ)) (congested : Option ℕ) (end : End) → IsEndIn g end → IsCountAt congested end
    → ((i : ℕ) → i < length g.interfaces → IsDeclared interfaces (interface_name g i)) → ((n : ℕ) → n < length g.nodes → IsDeclared nodes (node_name g n))
    → IsEndLawful interfaces nodes (count_with congested (named_end g end)) (named_end g end)
end_lawful g interfaces nodes None (fate_ends.Tx i) within count interface node = (interface i within, refl)
end_lawful g interfaces nodes (Some accepted) (fate_ends.Tx i) within count interface node = (interface i within, count)
end_lawful g interfaces nodes (Some accepted) (fate_ends.Dropped n error) within count interface node = (node n within, (λ some. count some, λ e. refl))
end_lawful g interfaces nodes None (fate_ends.Dropped n error) within count interface node = (node n within, by_test (is_congestion error) refl)
  where
    by_test : (b : Bool) → is_congestion error ≡ b → IsSome (zero_where b) ↔ (error ≡ Congestion)
    by_test true e = (λ some. congestion_is error e, λ same. refl)
    by_test false e = (λ some. absurd (false≢true some), λ same. absurd (false≢true (sym e ∙ ap is_congestion same)))

-- a count that isn't there isn't large, and 0 isn't
small_count : (accepted : Option ℕ) (end : PacketEnd) → ((t : ℕ) → accepted ≡ Some t → t < 2 ^ 62) → IfSome (count_with accepted end) (λ t. t < 2 ^ 62)
small_count (Some t) end h = h t refl
small_count None (packet_ends.Tx interface) h = tt
small_count None (packet_ends.Dropped node error) h = by_test (is_congestion error)
  where
    by_test : (b : Bool) → IfSome (zero_where b) (λ t. t < 2 ^ 62)
    by_test true = omega arith
    by_test false = tt

-- the packets' lines, with counts at drops by congestion
lines_lawful : (g : Graph) (workers most count : ℕ) (r : Report) (js : List Journey) → r.workers ≡ workers → r.generations ≡ count
    → AllByRecursion (IsOwn workers most) js → AllByRecursion (IsChosen count) js → AllByRecursion (λ (j : Journey). IsEndIn g (end_of j.course.outcome)) js
    → ((i : ℕ) → i < length g.interfaces → IsDeclared (names r.interfaces) (interface_name g i)) → ((n : ℕ) → n < length g.nodes → IsDeclared (names r.nodes) (node_name g n))
    → AllByRecursion (IsPacketLawful r) (map with_count (map (packet_line_of g) js))
lines_lawful g workers most count r [] w gs own chosen ends interface node = tt
lines_lawful g workers most count r (j ∷ js) w gs own chosen ends interface node = (
  record {
    some = own.0.some;
    few = own.0.few;
    workers = subst (λ n. AllByRecursion (λ (leg : Leg). leg.worker < n) j.course.legs) (sym w) own.0.there;
    generations = subst (λ n. AllByRecursion (λ (leg : Leg). leg.generation < n) j.course.legs) (sym gs) chosen.0.generations;
    congested = small_count j.accepted (named_end g (end_of j.course.outcome)) chosen.0.accepted;
    end = end_lawful g (names r.interfaces) (names r.nodes) j.accepted (end_of j.course.outcome) ends.0 own.0.count interface node;
  },
  lines_lawful g workers most count r js w gs own.1 chosen.1 ends.1 interface node,
)

-- the names of nodes of the graph
names_declared : (g : Graph) (ns : List (List ℕ)) (nodes : List ℕ) → ((n : ℕ) → n < length g.nodes → IsDeclared ns (node_name g n))
    → AllByRecursion (λ node. node < length g.nodes) nodes → AllByRecursion (IsDeclared ns) (map (node_name g) nodes)
names_declared g ns [] node all = tt
names_declared g ns (n ∷ nodes) node all = (node n all.0, names_declared g ns nodes node all.1)

-- the lines of traces
traces_lawful : (g : Graph) (ns : List (List ℕ)) (workers most count : ℕ) (js : List Journey) → ((n : ℕ) → n < length g.nodes → IsDeclared ns (node_name g n))
    → AllByRecursion (λ (j : Journey). AllByRecursion (λ node. node < length g.nodes) (trace j)) js → AllByRecursion (IsOwn workers most) js
    → AllByRecursion (IsTraceLawful ns) (map (λ j. map (node_name g) (trace j)) (take count js))
traces_lawful g ns workers most zero js node visits own = tt
traces_lawful g ns workers most (suc count) [] node visits own = tt
traces_lawful g ns workers most (suc count) (j ∷ js) node visits own = (
  record {
    some = let long = length-map (trace j) (node_name g) in let some = own.0.visited in omega (arith, long, some);
    few = let long = length-map (trace j) (node_name g) in let few = own.0.few_visits in omega (arith, long, few);
    declared = names_declared g ns (trace j) node visits.0;
  },
  traces_lawful g ns workers most count js node visits.1 own.1,
)

-- a list of counts has as many entries as what is counted
as_many : {X Y : Type 0} (f : ℕ × X → Y) (xs : List X) → length (map f (enumerate_from 0 xs)) ≡ length xs
as_many f xs = length-map (enumerate_from 0 xs) f ∙ length-enumerate_from 0 xs

-- what a report's numbers are taken from is in range
pub record IsReportable (setting : Setting) (graphs : List Graph) (packets : ℕ) (js : List Journey) : Type 0 where
  pub workers : (1 ≤ setting.workers) × (setting.workers ≤ 8)
  pub buffers : setting.buffers ≤ 16384
  pub few_traces : setting.trace ≤ 256
  pub generations : (1 ≤ length graphs) × (length graphs ≤ 1000)
  pub last : IsGeneration (last_graph graphs)
  pub few : length js ≤ 65536
  pub small : (node : ℕ) → node_count node js < 2 ^ 63
  pub own : AllByRecursion (IsOwn setting.workers packets) js
  pub chosen : AllByRecursion (IsChosen (length graphs)) js
  pub ends : AllByRecursion (λ (j : Journey). IsEndIn (last_graph graphs) (end_of j.course.outcome)) js
  pub visits : AllByRecursion (λ (j : Journey). AllByRecursion (λ node. node < length (last_graph graphs).nodes) (trace j)) js

-- the whole report, with counts at drops by congestion
pub lawful_with_counts : (setting : Setting) (graphs : List Graph) (packets : ℕ) (js : List Journey) (report : Report) → report ≡ report_of setting graphs js → IsReportable setting graphs packets js
    → AllByRecursion (λ (entry : List ℕ × ℕ). IsName entry.0) report.interfaces → AllByRecursion (λ (entry : List ℕ × ℕ). IsName entry.0) report.nodes → IsLawful (with_counts report)
lawful_with_counts setting graphs packets js report is able interface_names node_names =
    let g : Graph = last_graph graphs in
    let r : Report = with_counts (report_of setting graphs js) in
    let last = able.last in
    let few = able.few in
    let interfaces_are : names r.interfaces ≡ map (λ i. i.name) g.interfaces = names_are (λ i. i.name) (λ n. interface_count n js) 0 g.interfaces in
    let nodes_are : names r.nodes ≡ map (λ (n : Node). n.name) g.nodes = names_are (λ (n : Node). n.name) (λ n. node_count n js) 0 g.nodes in
    let interfaces_differ : IsDistinct bytes_eq (names r.interfaces) = subst (IsDistinct bytes_eq) (sym interfaces_are) last.valid.interface_names in
    let nodes_differ : IsDistinct bytes_eq (names r.nodes) = subst (IsDistinct bytes_eq) (sym nodes_are) last.valid.node_names in
    let interfaces_long : length r.interfaces ≡ length g.interfaces = as_many (λ i. (i.1.name, interface_count i.0 js)) g.interfaces in
    let nodes_long : length r.nodes ≡ length g.nodes = as_many (λ (n : ℕ × Node). (n.1.name, node_count n.0 js)) g.nodes in
    let node = map_some (λ (n : Node). n.kind) (slice_get g.nodes pg_input) _ last.valid.source in
    let some_node : 0 < length g.nodes = slice_get_within g.nodes pg_input node.0 node.1 in
    let taken : length r.traces ≡ length (take setting.trace js) = length-map (take setting.trace js) (λ j. map (node_name g) (trace j)) in
    let first = length-take setting.trace js in
    let packets_long : length r.packets ≡ length js = length-map (map (packet_line_of g) js) with_count ∙ length-map js (packet_line_of g) in
    subst (λ r. IsLawful (with_counts r)) (sym is)
    (record {
      workers = able.workers;
      buffers = able.buffers;
      generations = able.generations;
      interfaces = record {
        some = omega (arith, interfaces_long, last.valid.interfaces);
        few = omega (arith, interfaces_long, last.few_interfaces);
        are_names = subst (λ (r : Report). AllByRecursion (λ (entry : List ℕ × ℕ). IsName entry.0) r.interfaces) is interface_names;
        differ = interfaces_differ;
        small = all_small (λ i. i.name) (λ n. interface_count n js) 0 g.interfaces
            (λ n. let le = count_by-le-length (λ (j : Journey). is_sent_on n (end_of j.course.outcome)) js in omega (arith, le, few));
      };
      nodes = record {
        some = omega (arith, nodes_long, some_node);
        few = omega (arith, nodes_long, last.few_nodes);
        are_names = subst (λ (r : Report). AllByRecursion (λ (entry : List ℕ × ℕ). IsName entry.0) r.nodes) is node_names;
        differ = nodes_differ;
        small = all_small (λ (n : Node). n.name) (λ n. node_count n js) 0 g.nodes able.small;
      };
      errors = errors_lawful (names r.nodes) js 0 g.nodes
          (λ i n e. declared_entry (λ (n : Node). n.name) g.nodes (names r.nodes) nodes_are nodes_differ i n e ∙ ap Some (omega arith))
          (λ n error. let le = count_by-le-length (λ (j : Journey). is_drop n error (end_of j.course.outcome)) js in omega (arith, le, few)) 0 (omega arith);
      few_packets = omega (arith, packets_long, few);
      packets = lines_lawful g setting.workers packets (length graphs) r js refl refl able.own able.chosen able.ends
          (declared_at (λ i. i.name) g.interfaces (names r.interfaces) interfaces_are interfaces_differ)
          (declared_at (λ (n : Node). n.name) g.nodes (names r.nodes) nodes_are nodes_differ);
      few_traces = (let most = able.few_traces in omega (arith, taken, first, most), omega (arith, taken, first, packets_long));
      traces = traces_lawful g (names r.nodes) setting.workers packets setting.trace js (declared_at (λ (n : Node). n.name) g.nodes (names r.nodes) nodes_are nodes_differ) able.visits able.own;
    })

-- journeys of which each has a count where it is dropped by congestion make lines that have them
counted_lines : (g : Graph) (js : List Journey) → AllByRecursion (λ (j : Journey). IsCountedEnd j.accepted (end_of j.course.outcome)) js → AllByRecursion IsCounted (map (packet_line_of g) js)
counted_lines g [] own = tt
counted_lines g (j ∷ js) own = (by j.accepted (end_of j.course.outcome) own.0, counted_lines g js own.1)
  where
    by : (accepted : Option ℕ) (end : End) → IsCountedEnd accepted end → count_with accepted (named_end g end) ≡ accepted
    by None (fate_ends.Tx i) own = refl
    by (Some count) (fate_ends.Tx i) own = refl
    by accepted (fate_ends.Dropped n error) own = counted_drop accepted (node_name g n) error own

-- so their report is lawful
pub report_lawful : (setting : Setting) (graphs : List Graph) (packets : ℕ) (js : List Journey) (report : Report) → report ≡ report_of setting graphs js → IsReportable setting graphs packets js
    → AllByRecursion (λ (j : Journey). IsCountedEnd j.accepted (end_of j.course.outcome)) js
    → AllByRecursion (λ (entry : List ℕ × ℕ). IsName entry.0) report.interfaces → AllByRecursion (λ (entry : List ℕ × ℕ). IsName entry.0) report.nodes → IsLawful report
report_lawful setting graphs packets js report is able own interface_names node_names =
    let counted : AllByRecursion IsCounted report.packets = subst (λ (r : Report). AllByRecursion IsCounted r.packets) (sym is) (counted_lines (last_graph graphs) js own) in
    subst IsLawful (counted_report report counted) (lawful_with_counts setting graphs packets js report is able interface_names node_names)
