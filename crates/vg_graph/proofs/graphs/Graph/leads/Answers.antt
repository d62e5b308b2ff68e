use Rattle.std.proofs.Common.{◌≡◌, ◌<◌, ◌≤◌, ◌∙◌, map, length, sym, ap, subst, arith}
use Rattle.std.specs.Prelude.{slice_get}
use Rattle.std.specs.List.{AllByRecursion}
use Rattle.vg_model.specs.Valid.{IsValid}
use Rattle.vg_graph.specs.Reach.{Reaches}
use Rattle.vg_graph.specs.View.{node_of}
use Rattle.vg_graph.proofs.ViewLemmas.{seen_at, seen_length}
use Rattle.vg_graph.proofs.SearchLemmas.{search_first, search_step, search_exact, taken_waits, taken_room, waiting_within, arcs_small}
use Rattle.vg_graph.proofs.graphs.Graph.leads.Goals as goal

pub loop-node-init : goal.loop-node-init
loop-node-init c = search_first _ _ _ c.from-search.ensures.first

pub bounds-nodes-node : goal.bounds-nodes-node
bounds-nodes-node c =
    let seen : map node_of c.as_slice-nodes.result.now ≡ c.args.self.now.nodes = ap (map node_of) c.as_slice-nodes.ensures.value ∙ ap (λ g. g.nodes) c.self.view_is in
    subst (λ k. c.in-Some.node < k) (seen_length _ c.as_slice-nodes.result.now seen)
    (waiting_within c.args.self.now c.args.from c.loop-node.search c.in-Some.node (subst IsValid c.self.view_is c.self.invariant.valid) c.requires.from c.loop-node.invariant
    (taken_waits c.loop-node.search c.next.new.self c.in-Some.node c.in-Some.ensures.waiting))

pub reach_all-requires-clause-small : goal.reach_all-requires-clause-small
reach_all-requires-clause-small c =
    let seen : map node_of c.as_slice-nodes.result.now ≡ c.args.self.now.nodes = ap (map node_of) c.as_slice-nodes.ensures.value ∙ ap (λ g. g.nodes) c.self.view_is in
    let valid : IsValid c.args.self.now = subst IsValid c.self.view_is c.self.invariant.valid in
    let few : length c.args.self.now.nodes ≤ 64 = subst (λ g. length g.nodes ≤ 64) c.self.view_is c.self.invariant.few_nodes in
    let within : c.in-Some.node < length c.as_slice-nodes.result.now =
    subst (λ k. c.in-Some.node < k) (seen_length _ c.as_slice-nodes.result.now seen)
    (waiting_within c.args.self.now c.args.from c.loop-node.search c.in-Some.node valid c.requires.from c.loop-node.invariant
    (taken_waits c.loop-node.search c.next.new.self c.in-Some.node c.in-Some.ensures.waiting)) in
    subst (AllByRecursion (λ n. n < 64)) (sym c.as_slice.ensures.value)
    (arcs_small c.args.self.now c.in-Some.node _ valid few (seen_at _ c.as_slice-nodes.result.now c.in-Some.node c.index-nodes-node.result seen within))

pub reach_all-requires-clause-room : goal.reach_all-requires-clause-room
reach_all-requires-clause-room c =
    taken_room c.loop-node.search c.next.new.self c.in-Some.node c.loop-node.invariant.room c.next.ensures.reached c.in-Some.ensures.waiting

pub loop-node-preserved : goal.loop-node-preserved
loop-node-preserved c =
    let seen : map node_of c.as_slice-nodes.result.now ≡ c.args.self.now.nodes = ap (map node_of) c.as_slice-nodes.ensures.value ∙ ap (λ g. g.nodes) c.self.view_is in
    let within : c.in-Some.node < length c.as_slice-nodes.result.now =
    subst (λ k. c.in-Some.node < k) (seen_length _ c.as_slice-nodes.result.now seen)
    (waiting_within c.args.self.now c.args.from c.loop-node.search c.in-Some.node (subst IsValid c.self.view_is c.self.invariant.valid) c.requires.from c.loop-node.invariant
    (taken_waits c.loop-node.search c.next.new.self c.in-Some.node c.in-Some.ensures.waiting)) in
    search_step c.args.self.now c.args.from c.loop-node.search c.next.new.self c.reach_all.new.self c.in-Some.node _
    (seen_at _ c.as_slice-nodes.result.now c.in-Some.node c.index-nodes-node.result seen within)
    c.loop-node.invariant c.next.ensures.reached c.in-Some.ensures.waiting
    (subst (λ l. Reaches c.next.new.self c.reach_all.new.self l (length l)) c.as_slice.ensures.value c.reach_all.ensures)

pub has_reached-requires : goal.has_reached-requires
has_reached-requires c =
    let few : length c.args.self.now.nodes ≤ 64 = subst (λ g. length g.nodes ≤ 64) c.self.view_is c.self.invariant.few_nodes in
    let marks : length c.next.new.self.reached ≡ 64 = ap length c.next.ensures.reached ∙ c.loop-node.invariant.room.marks in
    omega (arith, few, marks, c.requires.to)

pub returns : goal.returns
returns c =
    search_exact c.args.self.now c.args.from c.args.to c.loop-node.search c.has_reached.result (subst IsValid c.self.view_is c.self.invariant.valid) c.loop-node.invariant
    c.in_default.ensures.last (ap (λ m. slice_get m c.args.to) (sym c.next.ensures.reached) ∙ c.has_reached.ensures)
